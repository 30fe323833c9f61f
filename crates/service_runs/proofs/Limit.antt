-- The last seconds of an hour.
use Rattle.std.proofs.Common.{arith}
use Rattle.std.proofs.lemmas.Bool.Decides.{nat_tests}
use Rattle.service_runs.specs.Laws.{NearTheLimit}

pub near_the_limit : NearTheLimit
near_the_limit t d h s department hour slot total empty = (grind (arith, nat_tests), grind (arith, nat_tests))
