-- How many members sets have: the one fact on two sets, and what follows for quorums.
use mathlib.Core.Path.{◌≡◌, refl}
use mathlib.Core.Bool.{Bool, true, false, cond, ◌&&◌, ◌||◌}
use mathlib.Core.Logic.{◌⊎◌, inl, inr}
use Prim.Native.Nat.{ℕ, zero, suc, ◌+◌, ◌≤◌, ◌<◌}
use native.Mathlib.Decide.{ℕ_discrete}
use native.Mathlib.Omega.{arith}
use Rattle.agreement.specs.Sets.{Set, count, Among}
use Rattle.agreement.proofs.Truth.{and_both, or_either}

abbrev pub ◌∩◌ : Set → Set → Set
◌∩◌ A B j = A j && B j

abbrev pub ◌∪◌ : Set → Set → Set
◌∪◌ A B j = A j || B j

both_or_either : (a b : Bool) (m n x y : ℕ) → m + n ≡ x + y
    → (cond a 1 0 + m) + (cond b 1 0 + n) ≡ (cond (a && b) 1 0 + x) + (cond (a || b) 1 0 + y)
both_or_either true true m n x y h = omega arith
both_or_either true false m n x y h = omega arith
both_or_either false true m n x y h = omega arith
both_or_either false false m n x y h = omega arith

-- Two sets together count what they share and what either has.
pub count_two : (A B : Set) (n : ℕ) → count A n + count B n ≡ count (◌∩◌ A B) n + count (◌∪◌ A B) n
unfolding count
count_two A B zero = refl
count_two A B (suc n) = both_or_either (A (suc n)) (B (suc n)) _ _ _ _ (count_two A B n)

weigh : (a b : Bool) (m n : ℕ) → (a ≡ true → b ≡ true) → m ≤ n → cond a 1 0 + m ≤ cond b 1 0 + n
weigh true true m n s h = omega arith
weigh true false m n s h = grind (arith, s refl)
weigh false true m n s h = omega arith
weigh false false m n s h = omega arith

-- A part counts no more than the whole.
pub count_le : (A B : Set) (n : ℕ) → ((j : ℕ) → Among n A j → B j ≡ true) → count A n ≤ count B n
unfolding count
count_le A B zero s = omega arith
count_le A B (suc n) s =
    weigh (A (suc n)) (B (suc n)) _ _ (λ a. s (suc n) (omega arith, omega arith, a))
    (count_le A B n (λ j p. s j (p.0, omega arith, p.2)))

pub count_all : (A : Set) (n : ℕ) → count A n ≤ n
unfolding count
count_all A zero = omega arith
count_all A (suc n) = go (A (suc n)) (count_all A n)
  where
    go : (a : Bool) {m : ℕ} → m ≤ n → cond a 1 0 + m ≤ suc n
    go true h = omega arith
    go false h = omega arith

-- A set with a count has a member.
pub count_some : (A : Set) (n : ℕ) → 1 ≤ count A n → (j : ℕ) × Among n A j
unfolding count
count_some A zero h = absurd (omega arith)
count_some A (suc n) h = go (A (suc n)) refl h (count_some A n)
  where
    go : (a : Bool) → A (suc n) ≡ a → 1 ≤ cond a 1 0 + count A n
        → (1 ≤ count A n → (j : ℕ) × Among n A j)
        → (j : ℕ) × Among (suc n) A j
    go true e k ih = (suc n, (omega arith, omega arith, e))
    go false e k ih =
        let (j, p) = ih (omega arith) in
        (j, (p.0, omega arith, p.2))

-- A part that lacks a member of the whole counts fewer.
pub count_lt : (A B : Set) (n h : ℕ) → ((j : ℕ) → Among n A j → B j ≡ true) → Among n B h → A h ≡ false → count A n < count B n
unfolding count
count_lt A B zero h s m e = absurd (omega arith)
count_lt A B (suc n) h s m e = go (ℕ_discrete h (suc n)) (λ w. count_lt A B n h w)
  where
    below : (j : ℕ) → Among n A j → B j ≡ true
    below j p = s j (p.0, omega arith, p.2)

    go : Dec (h ≡ suc n)
        → (((j : ℕ) → Among n A j → B j ≡ true) → Among n B h → A h ≡ false → count A n < count B n)
        → cond (A (suc n)) 1 0 + count A n < cond (B (suc n)) 1 0 + count B n
    go (yes p) ih =
        let a : A (suc n) ≡ false = rw p at e in
        let b : B (suc n) ≡ true = (rw p at m).2 in
        rw (a, b) (omega (arith, count_le A B n below))
    go (no p) ih =
        let w =
        weigh (A (suc n)) (B (suc n)) (suc (count A n)) (count B n) (λ a. s (suc n) (omega arith, omega arith, a))
        (ih below (m.0, omega arith, m.2) e) in
        omega arith

-- Two sets that together count more than a whole that holds both share a member.
pub share : (A B C : Set) (n : ℕ)
    → ((j : ℕ) → Among n A j → C j ≡ true)
    → ((j : ℕ) → Among n B j → C j ≡ true)
    → count C n < count A n + count B n
    → (j : ℕ) × Among n (◌∩◌ A B) j
share A B C n a b h =
    count_some (◌∩◌ A B) n
    (omega (arith, count_two A B n, count_le (◌∪◌ A B) C n (λ j p. whole j p (or_either (A j) (B j) p.2))))
  where
    whole : (j : ℕ) → Among n (◌∪◌ A B) j → (A j ≡ true) ⊎ (B j ≡ true) → C j ≡ true
    whole j p (inl e) = a j (p.0, p.1, e)
    whole j p (inr e) = b j (p.0, p.1, e)

-- Two sets that together count more than n share one of 1 to n.
pub meet : (A B : Set) (n : ℕ) → n < count A n + count B n → (j : ℕ) × Among n A j × Among n B j
meet A B n l =
    let (j, m) = share A B (λ _. true) n (λ _ _. refl) (λ _ _. refl) (omega (arith, count_all (λ _. true) n)) in
    let (a, b) = and_both (A j) (B j) m.2 in
    (j, (m.0, m.1, a), (m.0, m.1, b))
