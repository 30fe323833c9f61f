-- The words of a line.
use Rattle.std.proofs.Common.{◌≡◌, ℕ, true, not, eqb, List, [], ◌∷◌, length, filter, refl, ap, ◌∙◌, arith}
use Rattle.std.proofs.lemmas.Bool.{cond-true}
use Rattle.std.proofs.lemmas.Bool.Decides.{nat_tests}
use Rattle.line_text.specs.Lists.{filled}

-- the pieces that are not empty are words
pub filled_is : (ps : List (List ℕ)) → filter (λ p. not (eqb (length p) 0)) ps ≡ filled ps
filled_is [] = refl
filled_is ([] ∷ ps) = filled_is ps
filled_is ((c ∷ cs) ∷ ps) = let some : not (eqb (length (c ∷ cs)) 0) ≡ true = grind (arith, nat_tests) in cond-true _ _ _ some ∙ ap (λ l. (c ∷ cs) ∷ l) (filled_is ps)

pub one_word : (x : List ℕ) (ps : List (List ℕ)) → (length x ≡ 0 → ⊥) → filled (x ∷ ps) ≡ x ∷ filled ps
one_word [] ps e = absurd (e refl)
one_word (c ∷ cs) ps e = refl
