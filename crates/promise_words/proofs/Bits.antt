-- Single bits: of `or` and of a power of two, as tests.
use Rattle.std.proofs.Common.{◌≡◌, ℕ, ◌/◌, ◌%◌, ◌^◌, ◌<◌, max, ◌||◌, eqb, sym, ap, ◌∙◌, ⊎_elim, arith}
use lib.Bits.{bit_or}
use Rattle.std.proofs.lemmas.Nat.Bits.{bit_at_or, bit_at-pow_same, bit_at-pow_other}
use Rattle.std.proofs.lemmas.Bool.{cases_eq, eq-eqb, ne_eqb}
use Rattle.std.proofs.lemmas.Bool.Decides.{nat_tests}

digit_max : (a b : ℕ) → a < 2 → b < 2 → eqb (max a b) 1 ≡ (eqb a 1 || eqb b 1)
digit_max a b h k = grind (arith, nat_tests)

pub or_bit : (a b k : ℕ) → eqb (bit_or a b / 2 ^ k % 2) 1 ≡ (eqb (a / 2 ^ k % 2) 1 || eqb (b / 2 ^ k % 2) 1)
or_bit a b k = ap (λ (x : ℕ). eqb x 1) (bit_at_or a b k) ∙ digit_max (a / 2 ^ k % 2) (b / 2 ^ k % 2) (omega arith) (omega arith)

pub pow_bit : (k j : ℕ) → eqb (2 ^ k / 2 ^ j % 2) 1 ≡ eqb j k
pow_bit k j =
    ⊎_elim
    (λ (e : j ≡ k). ap (λ (x : ℕ). eqb (2 ^ k / 2 ^ x % 2) 1) e ∙ eq-eqb (2 ^ k / 2 ^ k % 2) 1 (bit_at-pow_same k) ∙ sym (eq-eqb j k e))
    (λ (n : j ≡ k → ⊥). ap (λ (x : ℕ). eqb x 1) (bit_at-pow_other k j n) ∙ sym (ne_eqb j k n))
    (cases_eq j k)
