use native.Mathlib.Omega.{arith}
use Rattle.agreement.proofs.Stability.{nothing_below}
use Rattle.agreement.proofs.majority_size.Goals as goal

pub returns : goal.returns
returns c = record { size = omega arith; law = nothing_below }
