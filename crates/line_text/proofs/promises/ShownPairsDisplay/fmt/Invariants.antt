use Rattle.std.proofs.Common.{◌≡◌, true, List, ℕ, ◌++◌, map, drop}
use Rattle.std.specs.Fmt.{HasWritten, IsPlainFormatter}
use Rattle.line_text.specs.Lists.{list_from}
use Rattle.line_text.specs.Promises.{pair_text}
use Rattle.line_text.proofs.promises.ShownPairsDisplay.fmt.Given as goal

abbrev pub invariant-loop-pair : goal.invariant-loop-pair
invariant-loop-pair g l =
    IsPlainFormatter l.initial.f → (done : List ℕ) × HasWritten g.W.Write.write_str_gives l.initial.f done l.f
    × (done ++ list_from (map pair_text (drop l.pair-index l.used)) l.first ≡ list_from (map pair_text l.used) true)
