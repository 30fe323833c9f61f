-- The stable timestamp of a group of r: the greatest s for which a majority's promises 1 to s are all known.
use Rattle.std.specs.Prelude.{ℕ, ◌<◌, ◌≤◌, max, cond, List, [], ◌∷◌, take, count_by, nat_le}
use Rattle.schedule.specs.Group.{majority}
use Rattle.promise_words.specs.Runs.{all_in, unbroken}
use Rattle.promise_words.specs.declared.timestamps.Timestamps.{Timestamps}

-- how many of these sets hold all of 1 to s
abbrev pub holders : ℕ → List Timestamps → ℕ
holders s sets = count_by (λ known. all_in known.words s) sets

pub record StableAt (r : ℕ) (known : List Timestamps) (s : ℕ) : Type 0 where
  pub held : majority r ≤ holders s (take r known)
  pub greatest : (u : ℕ) → s < u → holders u (take r known) < majority r

-- the greatest of these runs that at least m of the group hold, else 0
abbrev pub greatest_run : ℕ → List Timestamps → List Timestamps → ℕ
greatest_run m group [] = 0
greatest_run m group (k ∷ ks) =
    cond (nat_le m (holders (unbroken k.words) group)) (max (unbroken k.words) (greatest_run m group ks)) (greatest_run m group ks)

abbrev pub stable_of : ℕ → List Timestamps → ℕ
stable_of r known = greatest_run (majority r) (take r known) (take r known)
