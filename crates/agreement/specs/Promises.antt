-- Clocks and promises: when nothing is left to come up to a timestamp.
-- Nothing here knows of ballots or orders. Of a commit it knows that a majority had promised the change up to its timestamp.
use Rattle.std.specs.Prelude.{◌≡◌, Bool, true, false, ◌&&◌, ◌||◌, List, [], ◌∷◌, ◌⊎◌, ℕ, zero, suc, ◌+◌, ◌*◌, ◌≤◌, ◌<◌, ltb}
use Rattle.agreement.specs.Sets.{Set, count, Among, majority}
use Rattle.agreement.specs.Runs.{◌∈◌, put, Legal, outcome}

-- What a controller holds.
pub record Book : Type 0 where
  -- the greatest timestamp that it promised
  pub clock : ℕ
  -- its own promise for each change, 0 for none
  pub own : ℕ → ℕ
  -- the timestamps that it will promise to no change
  pub detached : ℕ → Bool
  -- of each controller, the timestamps of whose promise it knows
  pub known : ℕ → ℕ → Bool
  -- under which timestamp it committed each change, 0 for not yet
  pub stamp : ℕ → ℕ

-- What a controller told of its promises: the detached ones, and its own for each change.
pub record Told : Type 0 where
  pub who : ℕ
  pub detached : ℕ → Bool
  pub own : ℕ → ℕ

-- Every book, and everything that was ever told, newest first.
pub record Instant : Type 0 where
  pub books : ℕ → Book
  pub told : List Told

abbrev pub first : Instant
first =
    record {
      books =
          λ _.
          record {
            clock = 0;
            own = λ _. 0;
            detached = λ _. false;
            known = λ _ _. false;
            stamp = λ _. 0;
          };
      told = [];
    }

pub data Move : Type 0 where
  -- controller j promises t to the change c, and detaches what its clock skips
  promise : (j c t : ℕ) → Move
  -- controller j raises its clock to t, and detaches what it passes
  bump : (j t : ℕ) → Move
  -- controller j tells of its promises
  tell : (j : ℕ) → Move
  -- controller i learns that j promised u
  hear : (i j u : ℕ) → Move
  -- controller i commits the change c under t
  commit : (i c t : ℕ) → Move

-- The set with all above m and below n.
abbrev pub with_between : Set → ℕ → ℕ → Set
with_between A m n u = A u || (ltb m u && ltb u n)

-- The book of the controller that makes the move, after it.
abbrev pub changed : Book → Move → Book
changed b (promise j c t) =
    record {
      clock = t;
      own = put b.own c t;
      detached = with_between b.detached b.clock t;
      known = b.known;
      stamp = b.stamp;
    }
changed b (bump j t) =
    record {
      clock = t;
      own = b.own;
      detached = with_between b.detached b.clock (t + 1);
      known = b.known;
      stamp = b.stamp;
    }
changed b (tell j) = b
changed b (hear i j u) =
    record {
      clock = b.clock;
      own = b.own;
      detached = b.detached;
      known = put b.known j (put (b.known j) u true);
      stamp = b.stamp;
    }
changed b (commit i c t) =
    record {
      clock = b.clock;
      own = b.own;
      detached = b.detached;
      known = b.known;
      stamp = put b.stamp c t;
    }

-- Whose book a move changes.
abbrev pub actor : Move → ℕ
actor (promise j c t) = j
actor (bump j t) = j
actor (tell j) = j
actor (hear i j u) = i
actor (commit i c t) = i

-- What a move tells.
abbrev pub telling : Instant → Move → List Told
telling x (promise j c t) = x.told
telling x (bump j t) = x.told
telling x (tell j) =
    record { who = j; detached = (x.books j).detached; own = (x.books j).own } ∷ x.told
telling x (hear i j u) = x.told
telling x (commit i c t) = x.told

abbrev pub after : Instant → Move → Instant
after x m =
    record {
      books = put x.books (actor m) (changed (x.books (actor m)) m);
      told = telling x m;
    }

-- A majority of r controllers has an own promise for the change c between 1 and t.
abbrev pub MajorityBelow : ℕ → Instant → ℕ → ℕ → Type 0
MajorityBelow r x c t =
    (who : Set) × (majority r ≤ count who r)
    × ((j : ℕ) → Among r who j → (1 ≤ (x.books j).own c) × ((x.books j).own c ≤ t))

-- Some clock of the group stands at t or above.
abbrev pub Reached : ℕ → Instant → ℕ → Type 0
Reached r x t = (k : ℕ) × (1 ≤ k) × (k ≤ r) × (t ≤ (x.books k).clock)

-- When a move may be made, in a group of r with the changes 1 to n.
abbrev pub Allowed : ℕ → ℕ → Instant → Move → Type 0
-- One own promise for a change, above the clock; at most one above some clock of the group.
Allowed r n x (promise j c t) =
    (1 ≤ j) × (j ≤ r) × (1 ≤ c) × (c ≤ n) × ((x.books j).own c ≡ 0) × ((x.books j).clock < t)
    × ((u : ℕ) × (t ≤ u + 1) × Reached r x u)
-- A clock is raised to a timestamp that the group has reached.
Allowed r n x (bump j t) = ((x.books j).clock < t) × Reached r x t
Allowed r n x (tell j) = Unit {0}
-- Told as detached; or told as the own promise for a change that is committed at i.
Allowed r n x (hear i j u) =
    (m : Told) × (m ∈ x.told) × (m.who ≡ j)
    × ((m.detached u ≡ true) ⊎ ((c : ℕ) × (1 ≤ (x.books i).stamp c) × (1 ≤ u) × (m.own c ≡ u)))
-- Committed once, and a majority promised the change up to t.
Allowed r n x (commit i c t) = ((x.books i).stamp c ≡ 0) × MajorityBelow r x c t

-- Controller i knows the promises 1 to s of a majority.
abbrev pub Stable : ℕ → Instant → ℕ → ℕ → Type 0
Stable r x i s =
    (who : Set) × (majority r ≤ count who r)
    × ((j : ℕ) → Among r who j → (u : ℕ) → 1 ≤ u → u ≤ s → (x.books i).known j u ≡ true)

-- How many own promises r controllers have made for the changes 1 to n.
unfoldable pub made : ℕ → Instant → ℕ → ℕ
made r x zero = 0
made r x (suc n) = count (λ j. ltb 0 ((x.books j).own (suc n))) r + made r x n

pub record Sound (r n : ℕ) (x : Instant) : Type 0 where
  -- what is committed anywhere up to a timestamp that is stable at i is committed at i
  pub complete :
      (i s : ℕ) → Stable r x i s → (k c : ℕ) → 1 ≤ (x.books k).stamp c → (x.books k).stamp c ≤ s
      → 1 ≤ (x.books i).stamp c
  -- what i may newly commit lies above what is stable at i
  pub above : (i c t : ℕ) → Allowed r n x (commit i c t) → (s : ℕ) → Stable r x i s → s < t
  -- no clock passes the number of own promises that were made
  pub counted : (j : ℕ) → 1 ≤ j → j ≤ r → (x.books j).clock ≤ made r x n
  -- so with n changes no clock passes n times r
  pub bounded : (j : ℕ) → 1 ≤ j → j ≤ r → (x.books j).clock ≤ n * r
  -- nor does any own promise
  pub own_bounded : (j c : ℕ) → 1 ≤ j → j ≤ r → (x.books j).own c ≤ n * r

-- Whatever the group does, up to a stable timestamp nothing is left to come.
abbrev pub NothingBelow : Type 0
NothingBelow = (r n : ℕ) (ms : List Move) → Legal (Allowed r n) after first ms → Sound r n (outcome after first ms)
