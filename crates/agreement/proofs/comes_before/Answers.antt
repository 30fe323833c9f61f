use borrow.Author.Rules.{rules}
use Rattle.agreement.proofs.Carrying.{lower_lawful, same_beginnings}
use Rattle.agreement.proofs.comes_before.Goals as goal

pub returns : goal.returns
returns c = record { order = search rules; lawful = lower_lawful; law = same_beginnings }
