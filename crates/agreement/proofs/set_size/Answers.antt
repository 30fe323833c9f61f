use native.Mathlib.Omega.{arith}
use borrow.Author.Rules.{rules}
use Rattle.agreement.proofs.Bits.{bits_are_members}
use Rattle.agreement.proofs.set_size.Goals as goal

pub returns : goal.returns
returns c =
    record {
      size = omega (arith, bits_are_members c.args.set 64 (search rules));
      law = bits_are_members;
    }
