use Rattle.std.proofs.Common.{◌∙◌, rules}
use Rattle.std.proofs.lemmas.Slice.Eq.{bytes_eq-Decides}
use Rattle.text_forms.proofs.Texts.{passed, never}
use Rattle.line_text.proofs.Gathered.{gathered_by_turns}
use Rattle.line_text.proofs.lists.gather.Goals as goal

pub returns : goal.returns
returns g c =
    passed c.args.text.now _ _ (λ e. never (c.if-eq.ensures ∙ (bytes_eq-Decides _ _).1 e))
    (gathered_by_turns g.G.Gathering.adds _ _ _ c.args.text.now c.args.start c.try_fold.result c.split.ensures.text c.split.ensures.has_more c.split.ensures.pattern c.try_fold.ensures.ran (λ a x v q k. search rules))
