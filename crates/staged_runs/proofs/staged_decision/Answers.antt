use Rattle.staged_runs.proofs.Called.{called}
use Rattle.staged_runs.proofs.staged_decision.Goals as goal

pub returns-clause-calls : goal.returns-clause-calls
returns-clause-calls c = called
