-- Small runs to which the laws apply: the premises of the laws are met.
use Rattle.std.specs.Prelude.{◌≡◌, List, [], ◌∷◌, ℕ}
use Rattle.agreement.specs.Runs.{Legal, outcome}
use Rattle.agreement.specs.OneChange.{Group, Instant, Replied, Picked, Move, Allowed, first, after}
use Rattle.agreement.specs.OneChange.Move.{enter, answer, quick, slow, follow, decide, join, lead}
use Rattle.agreement.specs.OneChange.Picked.{by_ballot, by_all, by_fast}
use Rattle.agreement.specs.Order as order
use Rattle.agreement.specs.Order.Step.{commit, settle, carry_out}
use Rattle.agreement.specs.Promises as promises
use Rattle.agreement.specs.Promises.Move.{promise, tell, hear, commit as commits}

-- ---- one change: five controllers, of which two may be silent

-- The moves may be made one after the other, and t is committed.
abbrev pub Commits : List Move → ℕ → Type 0
Commits ms t =
    (g : Group) × (g.r ≡ 5) × (g.f ≡ 2) × Legal (Allowed g) (after g) first ms
    × ((outcome (after g) first ms).commits ≡ t ∷ [])

-- How the owner of a ballot came to its choice.
pub data Way : Type 0 where
  -- a replier had accepted
  of_greatest_ballot : Way
  -- none had, and the home replied, or one of the fast set that had not promised early
  of_all : Way
  -- none had, and the home was silent
  of_fast_set : Way

abbrev pub way : {g : Group} {i : Instant} {b t : ℕ} {q : Replied g i b} → Picked g q t → Way
way (by_ballot _ _ _ _ _) = of_greatest_ballot
way (by_all _ _ _ _) = of_all
way (by_fast _ _ _ _) = of_fast_set

-- After the first moves the owner of b chooses t in the way w, and after the last ones t is committed.
abbrev pub TakesOver : Way → List Move → (b t : ℕ) → List Move → Type 0
TakesOver w ms b t rest =
    (g : Group) × (g.r ≡ 5) × (g.f ≡ 2) × Legal (Allowed g) (after g) first ms
    × (choice : Allowed g (outcome (after g) first ms) (lead b t)) × (way choice.2 ≡ w)
    × Legal (Allowed g) (after g) (after g (outcome (after g) first ms) (lead b t)) rest
    × ((outcome (after g) (after g (outcome (after g) first ms) (lead b t)) rest).commits ≡ t ∷ [])

-- Promises 6, 7 and 11, then 11 once more: enough gave the greatest.
abbrev pub fast_run : List Move
fast_run = enter 6 ∷ answer 2 7 ∷ answer 3 11 ∷ answer 4 11 ∷ quick 11 ∷ []

-- The fourth promise is 6: too few gave the greatest, so it goes by the home's ballot.
abbrev pub slow_run : List Move
slow_run =
    enter 6 ∷ answer 2 7 ∷ answer 3 11 ∷ answer 4 6 ∷ slow 11 ∷ follow 2 1 11 ∷ follow 5 1 11 ∷ decide 1 ∷ []

-- Controller 5 takes over; 2 had accepted at the home's ballot.
abbrev pub accepted_before : List Move
accepted_before =
    enter 6 ∷ answer 2 7 ∷ answer 3 11 ∷ answer 4 6 ∷ slow 11 ∷ follow 2 1 11 ∷ join 5 10 1 ∷ join 2 10 1
    ∷ join 4 10 1
    ∷ []

-- Controller 5 takes over, and the home replies.
abbrev pub home_replies : List Move
home_replies = enter 6 ∷ answer 3 11 ∷ join 5 10 1 ∷ join 1 10 1 ∷ join 3 10 1 ∷ []

-- Controller 5 takes over while the home is silent.
abbrev pub home_silent : List Move
home_silent = enter 6 ∷ answer 3 11 ∷ answer 4 6 ∷ join 5 10 1 ∷ join 3 10 1 ∷ join 4 10 1 ∷ []

-- Two more accept at ballot 10, and its owner commits.
abbrev pub seen_through : List Move
seen_through = follow 3 10 11 ∷ follow 4 10 11 ∷ decide 10 ∷ []

-- ---- carrying out

-- Controller 1 commits the changes 2 and 1 under one timestamp, and carries out 1, then 2.
abbrev pub two_changes : ℕ → List order.Step
two_changes t = commit 1 2 t ∷ commit 1 1 t ∷ settle 1 t ∷ carry_out 1 1 ∷ carry_out 1 2 ∷ []

abbrev pub CarriesOutTwo : ℕ → Type 0
CarriesOutTwo t =
    Legal (order.Allowed order.lower) order.next order.blank (two_changes t)
    × ((outcome order.next order.blank (two_changes t) 1).carried ≡ order.entry t 1 ∷ order.entry t 2 ∷ [])

-- ---- promises: five controllers and one change

-- Controllers 1, 2 and 3 promise 1 to the change, and tell so; 4 commits the change, then hears them.
abbrev pub heard : List promises.Move
heard =
    promise 1 1 1 ∷ promise 2 1 1 ∷ promise 3 1 1 ∷ tell 1 ∷ tell 2 ∷ tell 3 ∷ commits 4 1 1 ∷ hear 4 1 1 ∷ hear 4 2 1
    ∷ hear 4 3 1
    ∷ []

-- At controller 4 timestamp 1 is stable.
abbrev pub Settles : Type 0
Settles =
    Legal (promises.Allowed 5 1) promises.after promises.first heard
    × promises.Stable 5 (outcome promises.after promises.first heard) 4 1

-- ---- all samples, over the timestamp t that they commit

pub record Samples (t : ℕ) : Type 0 where
  pub fast : Commits fast_run t
  pub slow : Commits slow_run t
  pub greatest_ballot : TakesOver of_greatest_ballot accepted_before 10 t seen_through
  pub all : TakesOver of_all home_replies 10 t seen_through
  pub fast_set : TakesOver of_fast_set home_silent 10 t seen_through
  pub carried : CarriesOutTwo t
  pub settled : Settles
