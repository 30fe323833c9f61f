use Rattle.steps.specs.Steps.{gathered}
use Rattle.steps.proofs.turn.Turn.gather.Goals as goal

pub returns : goal.returns
unfolding gathered
returns c = rw (← c.note_timestamp.ensures) c.decide.ensures
