use Rattle.std.proofs.Common.{◌≡◌, leb, count_by, sym, ◌∙◌, rules}
use Rattle.std.proofs.iter.runs.Made.{chains}
use Rattle.promise_words.specs.Runs.{unbroken}
use Rattle.promise_words.proofs.Majorities.{holders_by_run}
use Rattle.promise_words.proofs.stability.holders.Goals as goal

pub returns : goal.returns
returns c =
    let e : c.count.result ≡ count_by (λ k. leb c.args.s (unbroken k.words)) c.args.sets.now = search (rules, chains) in
    e ∙ sym (holders_by_run c.args.s c.args.sets.now)
