use Rattle.std.proofs.Common.{not, eqb, length, lit<, ◌∙◌, rules, tests}
use Rattle.std.proofs.lemmas.Iterator.Consumers.{YieldsList-from_filter, map_from_collect}
use Rattle.std.proofs.lemmas.Iterator.Splits.{YieldsList-from_str_split}
use Rattle.std.proofs.lemmas.Result.{IfOk-weaker}
use Rattle.line_text.specs.Lists.{pieces}
use Rattle.line_text.proofs.Words.{filled_is}
use Rattle.line_text.proofs.reading.words.Goals as goal

pub returns : goal.returns
returns c =
    IfOk-weaker c.collect.result _ _ (λ _ e. e ∙ filled_is (pieces 32 c.args.line.now))
    (map_from_collect _ c.collect.ensures.ran
    (YieldsList-from_filter _ (λ p. not (eqb (length p) 0))
    (YieldsList-from_str_split 32 c.args.line.now (lit< tt) (cc) (cc) (cc))
    c.filter.ensures.closure (λ x b q k. search (rules, tests))))
