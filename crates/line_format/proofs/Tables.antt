-- Fields one after the other: how many there are, one more at the end, and a table that is filled with them.
use Rattle.std.proofs.Common.{◌≡◌, ℕ, zero, suc, ◌+◌, ◌*◌, ◌<◌, List, [], ◌∷◌, ◌++◌, length, get_or, drop, set, refl, ap, ◌∙◌, append_assoc, add-zero, mul-zero, mul-suc, add-one, arith}
use Rattle.std.proofs.lemmas.List.{drop_more, set_at}
use Rattle.line_format.specs.Fields.{fields_at}

module _ {A : Type 0} (at : List ℕ → ℕ → A) (size : ℕ) (bytes : List ℕ) where
  pub fields_at_none : (p : ℕ) → fields_at at size bytes p 0 ≡ []
  unfolding fields_at
  fields_at_none p = refl

  pub fields_at_first : (p n : ℕ) → fields_at at size bytes p (suc n) ≡ at bytes p ∷ fields_at at size bytes (p + size) n
  unfolding fields_at
  fields_at_first p n = refl

  pub length_fields_at : (p n : ℕ) → length (fields_at at size bytes p n) ≡ n
  unfolding fields_at
  length_fields_at p zero = refl
  length_fields_at p (suc n) = ap suc (length_fields_at (p + size) n)

  -- one more field at the end
  pub fields_at_more : (p n : ℕ) → fields_at at size bytes p (n + 1) ≡ fields_at at size bytes p n ++ (at bytes (p + size * n) ∷ [])
  unfolding fields_at
  fields_at_more p zero = simp (mul-zero, add-zero)
  fields_at_more p (suc n) =
      let e : p + size + size * n ≡ p + size * suc n = omega (arith, mul-suc size n) in
      let more = fields_at_more (p + size) n in
      rw (add-one, ← e) (ap (λ l. at bytes p ∷ l) (rw add-one at more))

  -- a table whose first i places are filled, and one more
  pub fill_none : (p : ℕ) (xs : List A) → xs ≡ fields_at at size bytes p 0 ++ xs
  unfolding fields_at
  fill_none p xs = refl

  pub fill_more : (p i : ℕ) (xs : List A) → i < length xs → set (fields_at at size bytes p i ++ drop i xs) i (at bytes (p + size * i)) ≡ fields_at at size bytes p (i + 1) ++ drop (i + 1) xs
  fill_more p i xs h =
      let x = at bytes (p + size * i) in
      rw (drop_more xs i x h) (set_at (fields_at at size bytes p i) (get_or xs i x) (drop (i + 1) xs) x i (length_fields_at p i) ∙ rw fields_at_more (simp append_assoc))
