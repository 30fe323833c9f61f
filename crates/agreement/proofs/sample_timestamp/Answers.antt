use mathlib.Core.Path.{subst}
use native.Mathlib.Omega.{arith}
use Rattle.agreement.specs.Samples.{Samples}
use Rattle.agreement.proofs.Samples.{samples}
use Rattle.agreement.proofs.sample_timestamp.Goals as goal

pub returns : goal.returns
returns c = subst Samples (omega arith) samples
