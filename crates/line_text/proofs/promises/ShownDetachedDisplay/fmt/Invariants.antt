use Rattle.std.proofs.Common.{◌≡◌, ◌-◌, List, ℕ, ◌++◌, map}
use Rattle.std.specs.Fmt.{HasWritten, IsPlainFormatter}
use Rattle.line_text.specs.Lists.{list_from}
use Rattle.line_text.specs.Promises.{ranges_from, range_text, detached_text}
use Rattle.line_text.proofs.promises.ShownDetachedDisplay.fmt.Given as goal

abbrev pub invariant-loop-t : goal.invariant-loop-t
invariant-loop-t g l =
    IsPlainFormatter l.initial.f → (done : List ℕ) × HasWritten g.W.Write.write_str_gives l.initial.f done l.f
    × (done ++ list_from (map range_text (ranges_from l.self.0.now l.run l.t (1602 - l.t))) l.first ≡ detached_text l.self.0.now)
