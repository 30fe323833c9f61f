use native.Mathlib.Omega.{arith}
use Rattle.agreement.proofs.Agree.{one_timestamp}
use Rattle.agreement.proofs.fast_set_size.Goals as goal

pub returns : goal.returns
returns c = record { size = omega arith; law = one_timestamp }
