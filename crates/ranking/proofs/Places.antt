-- What stands at a place of a list.
use Rattle.std.proofs.Common.{◌≡◌, ℕ, zero, suc, ◌+◌, ◌<◌, ◌⊎◌, List, [], ◌∷◌, length, Some, refl, inl, inr, ⊎_elim, arith}
use Rattle.std.specs.List.{slice_get}
use Rattle.std.proofs.lemmas.Bool.{cases_lt}

pub nth_some : {X : Type 0} (xs : List X) (k : ℕ) → k < length xs → (z : X) × (slice_get xs k ≡ Some z)
nth_some [] k l = absurd (omega arith)
nth_some (x ∷ xs) zero l = (x, refl)
nth_some (x ∷ xs) (suc k) l = nth_some xs k (omega arith)

-- one of the first n + 1 entries is one of the first n, or the one at n
pub earlier_or_last : {X : Type 0} (xs : List X) (n k : ℕ) (x z : X) → slice_get xs n ≡ Some x → k < n + 1 → slice_get xs k ≡ Some z → (k < n) ⊎ (x ≡ z)
earlier_or_last xs n k x z at l e = ⊎_elim (λ h. inl h) (λ h. let same : k ≡ n = omega arith in inr (cc)) (cases_lt k n)
