use Rattle.std.proofs.Common.{◌≡◌, ◌-◌, List, ℕ, ◌++◌, map, decimal}
use Rattle.std.specs.Fmt.{HasWritten, IsPlainFormatter}
use Rattle.line_text.specs.Lists.{list_from}
use Rattle.line_text.specs.Sets.{members_from, set_text}
use Rattle.line_text.proofs.lists.MembersDisplay.fmt.Given as goal

abbrev pub invariant-loop-member : goal.invariant-loop-member
invariant-loop-member g l =
    IsPlainFormatter l.initial.f → (done : List ℕ) × HasWritten g.W.Write.write_str_gives l.initial.f done l.f
    × (done ++ list_from (map decimal (members_from l.self.0 l.member-counter (33 - l.member-counter))) l.first ≡ set_text l.self.0)
