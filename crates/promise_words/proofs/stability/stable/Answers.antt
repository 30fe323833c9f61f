use Rattle.std.proofs.Common.{◌≡◌, take, sym, ◌∙◌, subst, rules, arith, tests}
use Rattle.std.proofs.lemmas.Iterator.{YieldsList-from_slice, YieldsList-from_map}
use Rattle.std.proofs.lemmas.Iterator.Consumers.{fold_from_yields_List}
use Rattle.schedule.specs.Group.{majority}
use Rattle.promise_words.specs.Runs.{unbroken}
use Rattle.promise_words.specs.Stability.{stable_of, StableAt}
use Rattle.promise_words.proofs.Majorities.{stable_at, better, greatest_is}
use Rattle.promise_words.proofs.stability.stable.Goals as goal

pub returns : goal.returns
returns c =
    let r = c.args.figures.now.r in
    let known = c.args.known.now in
    let group = take r known in
    let m = majority r in
    let e : c.fold.result ≡ stable_of r known =
    fold_from_yields_List _ (better m group) _ _ c.fold.ensures.ran
    (YieldsList-from_map _ (λ k. unbroken k.words) (YieldsList-from_slice group cc) c.map.ensures.closure (λ x r q k. search rules))
    (λ a x b q k. search (rules, tests))
    ∙ greatest_is m group in
    record { value = e; greatest = subst (StableAt r known) (sym e) (stable_at r known c.args.figures.now.least (omega arith)) }
