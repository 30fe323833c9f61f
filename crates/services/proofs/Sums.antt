-- What a ledger's rows come to after a booking.
use Rattle.std.proofs.Common.{◌≡◌, ℕ, zero, suc, ◌+◌, ◌-◌, ◌≤◌, true, List, [], ◌∷◌, get_or, set, sum, refl, arith}
use Rattle.std.proofs.lemmas.List.Sums.{sum_by-cons}
use Rattle.std.proofs.lemmas.Bool.{and_parts, and_from, leb-true, le-leb}
use Rattle.services.specs.Places.{Table, row, hour_seconds, hours_within}

pub row_within : (t : Table) (h : ℕ) → hours_within t ≡ true → sum (row t h) ≤ hour_seconds
row_within [] h w = omega arith
row_within (r ∷ rs) zero w = leb-true (sum r) hour_seconds (and_parts _ _ w).0
row_within (r ∷ rs) (suc h) w = row_within rs h (and_parts _ _ w).1

pub set_within : (t : Table) (h : ℕ) (r : List ℕ) → hours_within t ≡ true → sum r ≤ hour_seconds → hours_within (set t h r) ≡ true
set_within [] h r w few = refl
set_within (q ∷ rs) zero r w few = and_from _ _ (le-leb _ _ few) (and_parts _ _ w).1
set_within (q ∷ rs) (suc h) r w few = and_from _ _ (and_parts _ _ w).0 (set_within rs h r (and_parts _ _ w).1 few)

-- a row that holds v in one place instead of what it held
pub sum_set : (r : List ℕ) (s v : ℕ) → sum (set r s v) ≤ sum r - get_or r s 0 + v
sum_set [] s v = omega arith
sum_set (x ∷ xs) zero v = omega (arith, sum_by-cons (λ x. x) x xs, sum_by-cons (λ x. x) v xs)
sum_set (x ∷ xs) (suc s) v = omega (arith, sum_set xs s v, sum_by-cons (λ x. x) x xs, sum_by-cons (λ x. x) x (set xs s v), held_in xs s)
  where
    held_in : (xs : List ℕ) (s : ℕ) → get_or xs s 0 ≤ sum xs
    held_in [] s = omega arith
    held_in (x ∷ xs) zero = omega (arith, sum_by-cons (λ x. x) x xs)
    held_in (x ∷ xs) (suc s) = omega (arith, held_in xs s, sum_by-cons (λ x. x) x xs)
