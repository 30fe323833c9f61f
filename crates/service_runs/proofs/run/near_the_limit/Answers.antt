use Rattle.service_runs.proofs.Limit.{near_the_limit}
use Rattle.service_runs.proofs.run.near_the_limit.Goals as goal

pub returns-clause-law : goal.returns-clause-law
returns-clause-law c = near_the_limit
