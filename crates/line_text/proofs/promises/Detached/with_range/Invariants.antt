use Rattle.std.proofs.Common.{◌≡◌, ◌+◌, ◌-◌, length}
use Rattle.line_text.specs.Promises.{with_bits}
use Rattle.line_text.proofs.promises.Detached.with_range.Given as goal

abbrev pub invariant-loop-t : goal.invariant-loop-t
invariant-loop-t l = (with_bits l.words l.t (l.last + 1 - l.t) ≡ with_bits l.initial.words l.first (l.last + 1 - l.first)) × (length l.words ≡ 25)
