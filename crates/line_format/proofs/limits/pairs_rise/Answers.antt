use Rattle.std.proofs.Common.{◌∙◌, rules, ap}
use Rattle.std.proofs.iter.Yields.{fronts}
use Rattle.std.specs.Slice.Iter.{iter_rest}
use Rattle.line_format.specs.Limits.{pairs_rise}
use Rattle.line_format.proofs.Rising.{rise_by_turns}
use Rattle.line_format.proofs.limits.pairs_rise.Goals as goal

pub returns : goal.returns
returns c =
    let r = c.args.figures.now.r in
    c.is_some.ensures ∙ (rise_by_turns fronts iter_rest (λ s t x p. p) (λ s t p. p.0) r _ _ _ c.iter.result _ 0 c.try_fold.result c.try_fold.ensures.ran (λ n x v q k. search rules) ∙ ap (pairs_rise r 0) c.iter.ensures.rest)
