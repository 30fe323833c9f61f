-- One entry more: what the first in rank of the first n entries becomes.
use Rattle.std.proofs.Common.{◌≡◌, ℕ, ◌+◌, ◌<◌, Bool, true, false, cond, ◌&&◌, ◌⊎◌, List, Some, None, Option, sym, refl, ap, ◌∙◌, subst, ⊎_elim, arith}
use Rattle.std.specs.List.{slice_get}
use Rattle.std.proofs.lemmas.Bool.{both_ways, cases_Bool, and_parts, and_cases, cond_both}
use Rattle.ranking.specs.Ranking.{IsFirst, FirstAmong, ahead, leads}
use Rattle.ranking.proofs.Places.{earlier_or_last}

module _ {X : Type 0} (eligible : X → Bool) (before : X → X → Bool) (xs : List X) (n : ℕ) (x : X) (at : slice_get xs n ≡ Some x) where
  pub keeps : (p : Option ℕ) → FirstAmong eligible before xs n p → (eligible x ≡ false) ⊎ (leads before xs p x ≡ false) → FirstAmong eligible before xs (n + 1) p
  keeps None h f =
      λ k z l e. ⊎_elim (λ m. h k z m e) (λ (s : x ≡ z). ⊎_elim (λ c. ap eligible (sym s) ∙ c) (λ t. absurd (both_ways true t refl)) f) (earlier_or_last xs n k x z at l e)
  keeps (Some i) h f = record {
    within = omega (arith, h.within);
    entry = h.entry;
    stands = h.stands;
    counts = h.counts;
    unbeaten = λ k z l e d.
        ⊎_elim (λ m. h.unbeaten k z m e d)
        (λ (s : x ≡ z). ⊎_elim (λ c. absurd (both_ways (eligible z) (ap eligible (sym s) ∙ c) d)) (λ t. ap (λ w. before w h.entry) (sym s) ∙ sym (ap (ahead before x) h.stands) ∙ t) f)
        (earlier_or_last xs n k x z at l e);
    lowest = h.lowest;
  }

module _ {X : Type 0} {before : X → X → Bool} (asymmetric : (x y : X) → before x y ≡ true → before y x ≡ false) (chains : (x y z : X) → before x y ≡ false → before y z ≡ false → before x z ≡ false) where
  not_itself : (x : X) → before x x ≡ false
  not_itself x = ⊎_elim (asymmetric x x) (λ h. h) (cases_Bool (before x x))

  over : (x y z : X) → before x z ≡ true → before y z ≡ false → before x y ≡ true
  over x y z a b = ⊎_elim (λ h. h) (λ h. absurd (both_ways (before x z) (chains x y z h b) a)) (cases_Bool (before x y))

  module _ (eligible : X → Bool) (xs : List X) (n : ℕ) (x : X) (at : slice_get xs n ≡ Some x) where
    before_all : (p : Option ℕ) → FirstAmong eligible before xs n p → leads before xs p x ≡ true → (k : ℕ) (z : X) → k < n → slice_get xs k ≡ Some z → eligible z ≡ true → before x z ≡ true
    before_all None h t k z l e c = absurd (both_ways (eligible z) (h k z l e) c)
    before_all (Some i) h t k z l e c = over x z h.entry (sym (ap (ahead before x) h.stands) ∙ t) (h.unbeaten k z l e c)

    pub takes : (p : Option ℕ) → FirstAmong eligible before xs n p → eligible x ≡ true → leads before xs p x ≡ true → IsFirst eligible before xs (n + 1) n
    takes p h c t = record {
      within = omega arith;
      entry = x;
      stands = at;
      counts = c;
      unbeaten = λ k z l e d.
          ⊎_elim (λ m. asymmetric x z (before_all p h t k z m e d)) (λ (s : x ≡ z). subst (λ w. before w x ≡ false) s (not_itself x)) (earlier_or_last xs n k x z at l e);
      lowest = before_all p h t;
    }

    pub more : (p : Option ℕ) → FirstAmong eligible before xs n p → FirstAmong eligible before xs (n + 1) (cond (eligible x && leads before xs p x) (Some n) p)
    more p h =
        cond_both (eligible x && leads before xs p x) (Some n) p (FirstAmong eligible before xs (n + 1))
        (λ t. let both = and_parts (eligible x) (leads before xs p x) t in takes p h both.0 both.1)
        (λ f. keeps eligible before xs n x at p h (and_cases (eligible x) (leads before xs p x) f))
