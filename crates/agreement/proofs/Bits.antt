-- A set as a number has as many members as the number has bits set.
use mathlib.Core.Path.{◌≡◌, refl, sym, ◌∙◌}
use mathlib.Core.Bool.{cond}
use Prim.Native.Nat.{ℕ, zero, suc, ◌+◌, ◌-◌, ◌/◌, ◌%◌, ◌^◌, ◌≤◌, ◌<◌}
use native.Mathlib.Nat.{div-div-eq-div-mul, div-one, mod-lt, pow-succ', zero-lt-suc}
use native.Mathlib.Omega.{arith}
use lib.Count.{ones, ones_step}
use lib.Dec.{eqb}
use Rattle.agreement.specs.Sets.{Set, count, bits, BitsAreMembers}
use Rattle.agreement.proofs.Counting.{count_le}

-- Counted from the other end: the first member, and the rest moved down by one.
count_front : (A : Set) (n : ℕ) → count A (suc n) ≡ cond (A 1) 1 0 + count (λ j. A (suc j)) n
unfolding count
count_front A zero = refl
count_front A (suc n) = let h = count_front A n in omega arith

-- The rest of the bits are those of half the number.
bits_half : (s j : ℕ) → 1 ≤ j → bits s (suc j) ≡ bits (s / 2) j
bits_half s zero l = absurd (omega arith)
bits_half s (suc k) l =
    let e : suc (suc k) - 1 ≡ suc k = omega arith in
    let f : suc k - 1 ≡ k = omega arith in
    rw (e, f, pow-succ' 2 k, ← div-div-eq-div-mul s 2 (2 ^ k)) refl

count_half : (s n : ℕ) → count (λ j. bits s (suc j)) n ≡ count (bits (s / 2)) n
count_half s n =
    omega (
      arith,
      count_le (λ j. bits s (suc j)) (bits (s / 2)) n (λ j m. sym (bits_half s j m.0) ∙ m.2),
      count_le (bits (s / 2)) (λ j. bits s (suc j)) n (λ j m. bits_half s j m.0 ∙ m.2),
    )

lowest : (s : ℕ) → cond (bits s 1) 1 0 ≡ s % 2
lowest s = rw div-one (go (s % 2) (mod-lt s (zero-lt-suc 1)))
  where
    go : (b : ℕ) → b < 2 → cond (eqb b 1) 1 0 ≡ b
    go b l = grind arith

pub bits_are_members : BitsAreMembers
bits_are_members s zero l =
    let z : s ≡ 0 = omega arith in
    rw z (unfold count ones in refl)
bits_are_members s (suc n) l =
    let h = bits_are_members (s / 2) n (omega arith) in
    omega (arith, count_front (bits s) n, count_half s n, lowest s, ones_step s)
