use Rattle.std.proofs.Common.{◌≡◌, ℕ, ◌+◌, ◌-◌, ◌*◌, ◌^◌, ◌<◌, min, get_or, subst, rules, arith}
use Rattle.std.proofs.iter.runs.Made.{chains}
use Rattle.promise_words.specs.Runs.{RunTo}
use Rattle.promise_words.proofs.Runs.{is_unbroken, run_at, run_whole}
use Rattle.promise_words.proofs.timestamps.Timestamps.run.Goals as goal

pub returns-in-Some : goal.returns-in-Some
returns-in-Some c =
    let ws = c.args.self.now.words in
    let i = c.in-Some.i in
    let full : (k : ℕ) → k < i → get_or ws k 0 ≡ 2 ^ 64 - 1 = λ k l. search (rules, chains) in
    let other : get_or ws i 0 ≡ 2 ^ 64 - 1 → ⊥ = search (rules, chains) in
    let same : min (64 * i + c.trailing_ones.result) 1568 ≡ c.min.result = omega arith in
    let run : RunTo ws c.min.result = subst (RunTo ws) same (run_at ws i c.trailing_ones.result full (omega arith) c.trailing_ones.ensures) in
    record { value = is_unbroken ws c.min.result run; whole = run }

pub returns-in-None : goal.returns-in-None
returns-in-None c =
    let run = run_whole c.args.self.now.words (λ k l. search (rules, chains)) in
    record { value = is_unbroken c.args.self.now.words 1568 run; whole = run }
