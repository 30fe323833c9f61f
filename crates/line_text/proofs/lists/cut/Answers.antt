use Rattle.std.proofs.lemmas.Str.Pattern.{split_parts}
use Rattle.line_text.proofs.Cuts.{cut_is}
use Rattle.line_text.proofs.lists.cut.Goals as goal

pub returns : goal.returns
returns c = cut_is c.args.at c.args.text.now _ (split_parts c.args.at c.args.text.now _ c.split_once.ensures.cases c.requires)
