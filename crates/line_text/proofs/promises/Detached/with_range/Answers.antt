use Rattle.std.proofs.Common.{◌+◌, ◌-◌, ◌/◌, ◌%◌, get_or, set, sym, ap, ◌∙◌, arith, length-set}
use lib.Bits.{bit_or}
use Rattle.std.proofs.lemmas.Nat.{one_shl}
use Rattle.std.proofs.lemmas.Bool.Decides.{nat_tests}
use Rattle.line_text.specs.Promises.{with_bits}
use Rattle.line_text.proofs.Bits.{with_bits_next, with_bits_done}
use Rattle.line_text.proofs.promises.Detached.with_range.Goals as goal

pub loop-t-preserved : goal.loop-t-preserved
loop-t-preserved c = let e = with_bits_next c.loop-t.words c.loop-t.t c.args.last (omega arith) in
    let shift = one_shl ((c.loop-t.t - 1) % 64) 64 (omega arith) in
    let at = (c.loop-t.t - 1) / 64 in
    (ap (λ b. with_bits (set c.loop-t.words at (bit_or (get_or c.loop-t.words at 0) b)) (c.loop-t.t + 1) (c.args.last + 1 - (c.loop-t.t + 1))) shift ∙ sym e ∙ c.loop-t.invariant.0, simp length-set c.loop-t.invariant.1)

pub returns : goal.returns
returns c = let e = with_bits_done c.loop-t.words c.loop-t.t c.args.last (omega arith) in let filled = sym e ∙ c.loop-t.invariant.0 in grind (arith, nat_tests)
