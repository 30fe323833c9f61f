-- The first in rank of a list of entries, given which are eligible and which are before which.
use Rattle.std.specs.Prelude.{◌≡◌, ℕ, suc, ◌<◌, Bool, true, false, cond, not, ◌&&◌, List, [], ◌∷◌, length, Some, None, Option}
use Rattle.std.specs.List.{slice_get}

-- whether no eligible one of the entries is before x
abbrev pub unbeaten : {X : Type 0} → (X → Bool) → (X → X → Bool) → X → List X → Bool
unbeaten eligible before x [] = true
unbeaten eligible before x (y ∷ ys) = not (eligible y && before y x) && unbeaten eligible before x ys

-- a place, counted from one entry earlier
abbrev pub one_on : Option ℕ → Option ℕ
one_on None = None
one_on (Some i) = Some (suc i)

-- the place of the first eligible entry that no eligible entry after it is before
abbrev pub first_in_rank : {X : Type 0} → (X → Bool) → (X → X → Bool) → List X → Option ℕ
first_in_rank eligible before [] = None
first_in_rank eligible before (x ∷ xs) =
    cond (eligible x && unbeaten eligible before x xs) (Some 0) (one_on (first_in_rank eligible before xs))

-- Of the first n entries, the one at i is eligible, no eligible one is before it, and it is before each
-- eligible one at a lower place.
pub record IsFirst {X : Type 0} (eligible : X → Bool) (before : X → X → Bool) (xs : List X) (n i : ℕ) : Type 0 where
  pub within : i < n
  pub entry : X
  pub stands : slice_get xs i ≡ Some entry
  pub counts : eligible entry ≡ true
  pub unbeaten : (k : ℕ) (z : X) → k < n → slice_get xs k ≡ Some z → eligible z ≡ true → before z entry ≡ false
  pub lowest : (k : ℕ) (z : X) → k < i → slice_get xs k ≡ Some z → eligible z ≡ true → before entry z ≡ true

-- no place exactly if none of the first n entries is eligible
abbrev pub FirstAmong : {X : Type 0} → (X → Bool) → (X → X → Bool) → List X → ℕ → Option ℕ → Type 0
FirstAmong {X} eligible before xs n None = (k : ℕ) (z : X) → k < n → slice_get xs k ≡ Some z → eligible z ≡ false
FirstAmong eligible before xs n (Some i) = IsFirst eligible before xs n i

-- the only place for which that holds
abbrev pub OnlyFirst : {X : Type 0} → (X → Bool) → (X → X → Bool) → List X → Option ℕ → Type 0
OnlyFirst eligible before xs place = (other : Option ℕ) → FirstAmong eligible before xs (length xs) other → other ≡ place

-- the entry at a place
abbrev pub entry_at : {X : Type 0} → List X → Option ℕ → Option X
entry_at xs None = None
entry_at xs (Some i) = slice_get xs i

-- every entry of xs is one of ys
abbrev pub AllIn : {X : Type 0} → List X → List X → Type 0
AllIn {X} xs ys = (k : ℕ) (x : X) → slice_get xs k ≡ Some x → (j : ℕ) × (slice_get ys j ≡ Some x)

-- eligible entries of which neither is before the other are the same
abbrev pub NoTies : {X : Type 0} → (X → Bool) → (X → X → Bool) → List X → Type 0
NoTies {X} eligible before xs =
    (j k : ℕ) (x y : X) → slice_get xs j ≡ Some x → slice_get xs k ≡ Some y → eligible x ≡ true → eligible y ≡ true → before x y ≡ false → before y x ≡ false → x ≡ y

-- Without ties, the same entries in any order have the same first.
abbrev pub AnyOrder : {X : Type 0} → (X → Bool) → (X → X → Bool) → List X → Option ℕ → Type 0
AnyOrder {X} eligible before xs place =
    (ys : List X) → AllIn xs ys → AllIn ys xs → NoTies eligible before xs → entry_at ys (first_in_rank eligible before ys) ≡ entry_at xs place

-- for the search: a place so far is one of the list
abbrev pub PlaceWithin : {X : Type 0} → List X → Option ℕ → Type 0
PlaceWithin xs None = Unit {0}
PlaceWithin xs (Some i) = i < length xs

-- x is before the entry, if there is one
abbrev pub ahead : {X : Type 0} → (X → X → Bool) → X → Option X → Bool
ahead before x None = true
ahead before x (Some y) = before x y

-- for the search: x is before the entry at the first place so far, if there is one
abbrev pub leads : {X : Type 0} → (X → X → Bool) → List X → Option ℕ → X → Bool
leads before xs first x = ahead before x (entry_at xs first)
