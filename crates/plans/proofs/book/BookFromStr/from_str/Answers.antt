use Rattle.std.proofs.Common.{codes}
use Rattle.plans.proofs.Texts.{differs}
use Rattle.plans.proofs.book.BookFromStr.from_str.Goals as goal

pub returns-in_default : goal.returns-in_default
returns-in_default c =
    let n = c.args.name.now in
    let none = c.in_default in
    rw (differs n (codes "running-order") none.not-text, differs n (codes "break-ledger") none.not-text-2, differs n (codes "final-say running-order") none.not-text-3, differs n (codes "final-say break-ledger") none.not-text-4, differs n (codes "final-say final-say running-order") none.not-text-5)
