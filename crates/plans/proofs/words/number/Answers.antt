use Rattle.std.proofs.Common.{◌∙◌}
use Rattle.plans.proofs.Texts.{reads}
use Rattle.plans.proofs.words.number.Goals as goal

pub returns : goal.returns
returns c = c.ok.ensures.value ∙ reads c.args.word.now _ c.parse.ensures.value.0
