use Rattle.std.proofs.Common.{◌≡◌, ℕ, ◌-◌, ◌≤◌, max, ◌||◌}
use Rattle.promise_words.specs.Timestamps.{has, with_next}
use Rattle.promise_words.proofs.Members.{before}
use Rattle.promise_words.proofs.timestamps.Timestamps.insert_range.Given as goal

abbrev pub invariant-loop-t : goal.invariant-loop-t
invariant-loop-t l =
    (l.self.words ≡ with_next l.initial.self.words l.from (l.t - l.from))
    × ((u : ℕ) → has l.self.words u ≡ (has l.initial.self.words u || before l.from l.t u))
    × (l.t ≤ max l.from l.end)
