use Rattle.std.proofs.Common.{◌≡◌, length, take, drop}
use Rattle.std.specs.Slice.Iter.{iter_rest}
use Rattle.line_text.specs.Reading.{texts, numbers_first}
use Rattle.line_text.proofs.Taken.{joined}
use Rattle.line_text.proofs.rest.Rest.numbers.Given as goal

abbrev pub invariant-loop-i : goal.invariant-loop-i
invariant-loop-i g l =
    let ws = texts (iter_rest l.initial.self.words) in
    (numbers_first l.fields ws ≡ joined (take l.i l.numbers) (numbers_first (drop l.i l.fields) (drop l.i ws)))
    × (texts (iter_rest l.self.words) ≡ drop l.i ws) × (length l.numbers ≡ length l.fields)
