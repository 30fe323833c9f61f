use Rattle.std.proofs.Common.{not, eqb, refl, rules, tests}
use Rattle.std.proofs.lemmas.Iterator.{YieldsList-from_range}
use Rattle.std.proofs.lemmas.Iterator.Search.{any_from_yields_List}
use Rattle.plans.specs.Books.{book_meaning, book_reads}
use Rattle.plans.proofs.book.Book.holds_anything.Goals as goal

pub returns : goal.returns
returns c =
    let m = book_meaning c.args.self.now in
    any_from_yields_List (λ s. not (eqb (book_reads m c.args.hour s) 0)) _ _ _ c.any.ensures.ran (YieldsList-from_range 0 12 12 refl refl) (λ x b q k. search (rules, tests))
