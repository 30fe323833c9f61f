-- What `array::from_fn` makes of a closure that computes h.
use Rattle.std.proofs.Common.{◌≡◌, ℕ, zero, suc, ◌+◌, ◌<◌, ◌≤◌, List, get_or, sym, ap, ◌∙◌, subst, ⊎_elim, arith}
use Rattle.std.proofs.lemmas.Bool.{cases_eq}
use Rattle.std.specs.Array.{IsFromFnResultFrom}
use Rattle.std.specs.Fn.{Called}
use denote.Param.Members.{Mut}

module _ {F B : Type 0} (g : Mut F (ℕ × Unit {0}) B) (f : F) (h : ℕ → B) (computes : (k : ℕ) (y : B) (q : F) → Called g f (k, tt) y q → (q ≡ f) × (y ≡ h k)) where
  pub made_from : (ys : List B) (n i : ℕ) → IsFromFnResultFrom g f ys i n → (k : ℕ) (d : B) → i ≤ k → k < i + n → get_or ys k d ≡ h k
  made_from ys zero i all k d low high = absurd (omega arith)
  made_from ys (suc n) i all k d low high =
      let one = computes i all.1 all.0 all.3 in
      ⊎_elim
      (λ (e : k ≡ i). ap (λ (j : ℕ). get_or ys j d) e ∙ all.2.1 d ∙ one.1 ∙ ap h (sym e))
      (λ (other : k ≡ i → ⊥). made_from ys n (i + 1) (subst (λ (q : F). IsFromFnResultFrom g q ys (i + 1) n) one.0 all.4) k d (omega arith) (omega arith))
      (cases_eq k i)
