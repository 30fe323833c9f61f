use Rattle.std.proofs.Common.{true, ◌++◌, get_or, map, take, ap, ◌∙◌, arith, rules}
use Rattle.std.proofs.Output.{has_written_append, has_written_of_eq}
use Rattle.std.proofs.lemmas.List.{drop_more, drop_all}
use Rattle.line_format.specs.Reading.{no_pair}
use Rattle.line_text.specs.Lists.{comma, list_from}
use Rattle.line_text.specs.Promises.{pair_text}
use Rattle.line_text.proofs.Shown.{one_more, no_more}
use Rattle.line_text.proofs.promises.ShownPairsDisplay.fmt.Goals as goal

pub loop-pair-preserved : goal.loop-pair-preserved
loop-pair-preserved g c = λ plain.
    let sofar = c.loop-pair.invariant plain in
    let used = c.split_at.result.0.now in
    let i = c.loop-pair.pair-index in
    let first = c.loop-pair.first in
    let text = pair_text (get_or used i no_pair) in
    let next = ap (map pair_text) (drop_more used i no_pair (omega arith)) in
    (sofar.0 ++ (comma first ++ text), has_written_append _ _ _ _ _ _ sofar.1 (c.add.ensures sofar.1.plain (search rules)), one_more sofar.0 text _ first _ _ next sofar.2)

pub returns-clause-writes : goal.returns-clause-writes
returns-clause-writes g c = λ plain ok.
    let sofar = c.loop-pair.invariant plain in
    let over = ap (map pair_text) (drop_all c.loop-pair.pair-index c.split_at.result.0.now (omega arith)) in
    let used = c.split_at.ensures.front ∙ ap (λ n. take n c.args.self.now.0.now.pairs) c.min-count.ensures in
    has_written_of_eq _ _ _ _ _ (no_more sofar.0 _ c.loop-pair.first _ over sofar.2 ∙ ap (λ l. list_from (map pair_text l) true) used) (has_written_append _ _ _ _ _ _ sofar.1 (c.finish.ensures sofar.1.plain ok))
