use Rattle.std.proofs.Common.{◌≡◌, suc, ◌+◌, max, None, refl, sym, ap, ◌∙◌, rules, arith}
use Rattle.std.proofs.lemmas.Iterator.{YieldsList-from_range}
use Rattle.std.proofs.lemmas.Iterator.Adapters.{option_map_id}
use Rattle.std.proofs.lemmas.Iterator.Search.{find_from_yields_List}
use Rattle.std.specs.List.{find, range_with_len}
use Rattle.sites.specs.Sites.{owns, first_own, next_ballot}
use Rattle.sites.proofs.Ballots.{none_above, found, least}
use Rattle.sites.proofs.site.Site.next_ballot.Goals as goal

pub returns-then-ballot-ge-LAST_BALLOT : goal.returns-then-ballot-ge-LAST_BALLOT
returns-then-ballot-ge-LAST_BALLOT c =
    let site = c.args.self.now in
    let r = site.figures.r in
    let is : next_ballot r site.own c.args.ballot ≡ None = none_above r site.own (suc (max r c.args.ballot)) r (omega arith) in
    record { value = sym is; least = least r site.own c.args.ballot (omega arith) None is }

pub returns : goal.returns
returns c =
    let site = c.args.self.now in
    let r = site.figures.r in
    let first = c.max-first.result + 1 in
    let start : first ≡ suc (max r c.args.ballot) = omega arith in
    let first_found : c.find.result ≡ find (owns r site.own) (range_with_len first r) =
    sym (option_map_id c.find.result)
    ∙ find_from_yields_List (owns r site.own) _ _ c.find.result c.find.ensures.ran (YieldsList-from_range first (first + r) r refl (omega arith))
    (λ x b q k. search rules) in
    let is : next_ballot r site.own c.args.ballot ≡ c.find.result =
    sym (first_found ∙ found r site.own first r ∙ ap (λ b. first_own r site.own b r) start) in
    record { value = sym is; least = least r site.own c.args.ballot (omega arith) c.find.result is }
