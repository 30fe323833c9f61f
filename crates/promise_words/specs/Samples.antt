-- Small cases of the rules.
use Rattle.std.specs.Prelude.{◌≡◌, ℕ, ◌∷◌, replicate, Ok, Result}
use Rattle.promise_words.specs.Timestamps.{no_words, with_range}
use Rattle.promise_words.specs.declared.clock.Clock.{Clock}
use Rattle.promise_words.specs.declared.clock.ClockFault.{ClockFault}
use Rattle.promise_words.specs.declared.timestamps.Timestamps.{Timestamps}

-- the set of 1 to last
abbrev pub from_one : ℕ → Timestamps
from_one last = record { words = with_range no_words 1 last }

-- 6 was promised, and 2 to 5, the bits 1 to 4 of the first word, are detached
abbrev pub Skipped : Result ℕ ClockFault → Clock → Type 0
Skipped answer after = (answer ≡ Ok 6) × (after ≡ record { time = 6; detached = record { words = 30 ∷ replicate 24 0 } })
