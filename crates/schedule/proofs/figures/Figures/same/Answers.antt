use Rattle.std.proofs.Common.{arith, rules}
use Rattle.std.proofs.lemmas.Bool.Decides.{nat_tests}
use Rattle.schedule.proofs.Sameness.{same_numbers}
use Rattle.schedule.proofs.figures.Figures.same.Goals as goal

pub returns : goal.returns
returns c = (search rules, λ e. same_numbers _ _ (grind (arith, nat_tests)) (grind (arith, nat_tests)))
