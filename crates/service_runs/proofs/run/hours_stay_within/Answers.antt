use Rattle.std.proofs.Common.{take, refl}
use Rattle.services.specs.Places.{no_places}
use Rattle.service_runs.proofs.Within.{run_within}
use Rattle.service_runs.proofs.run.hours_stay_within.Goals as goal

pub returns : goal.returns
returns c n h = run_within no_places (take n c.args.changes.now) h refl
