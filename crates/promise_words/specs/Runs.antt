-- The unbroken run of a set from timestamp 1.
use Rattle.std.specs.Prelude.{◌≡◌, ℕ, zero, suc, Bool, true, false, cond, ◌&&◌, List}
use Rattle.schedule.specs.Group.{last_timestamp}
use Rattle.promise_words.specs.Timestamps.{has}

-- 1 to s are all in
abbrev pub all_in : List ℕ → ℕ → Bool
all_in ws zero = true
all_in ws (suc s) = all_in ws s && has ws (suc s)

-- the run goes to s: all of 1 to s are in, and s + 1 is not
pub record RunTo (ws : List ℕ) (s : ℕ) : Type 0 where
  pub whole : all_in ws s ≡ true
  pub ends : has ws (suc s) ≡ false

-- 1 to s are in: how far it goes, looking at n more
unfoldable pub run_past : List ℕ → ℕ → ℕ → ℕ
run_past ws s zero = s
run_past ws s (suc n) = cond (has ws (suc s)) (run_past ws (suc s) n) s

unfoldable pub unbroken : List ℕ → ℕ
unbroken ws = run_past ws 0 last_timestamp
