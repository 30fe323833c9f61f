use Rattle.service_runs.proofs.Holding.{say_holds}
use Rattle.service_runs.proofs.run.say_is_kept.Goals as goal

pub returns : goal.returns
returns g c = say_holds g.S.Service.next _ c.args.changes.now
