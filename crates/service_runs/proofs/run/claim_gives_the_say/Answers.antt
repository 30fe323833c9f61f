use Rattle.service_runs.proofs.Claiming.{claim_gives}
use Rattle.service_runs.proofs.run.claim_gives_the_say.Goals as goal

pub returns : goal.returns
returns g c = claim_gives g.S.Service.next g.S.Service.outcome
