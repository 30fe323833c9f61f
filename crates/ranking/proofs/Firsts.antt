-- The first in rank is the only place of its kind, and the order of the entries does not matter to it.
use Rattle.std.proofs.Common.{◌≡◌, ℕ, zero, suc, ◌+◌, ◌<◌, ◌≤◌, Bool, true, false, cond, ◌&&◌, List, [], ◌∷◌, length, Some, None, Option, sym, refl, ap, ◌∙◌, subst, ⊎_elim, arith}
use Rattle.std.specs.List.{slice_get}
use Rattle.std.proofs.lemmas.Bool.{both_ways, cases_Bool, and_from, and_left, and_right, not_from_false, not_from_true, cond-true, cond-false}
use Rattle.std.proofs.lemmas.Option.{none-some, slice_get_within}
use Rattle.ranking.specs.Ranking.{unbeaten, one_on, first_in_rank, IsFirst, FirstAmong, entry_at, AllIn, NoTies, AnyOrder, leads}
use Rattle.ranking.proofs.Places.{nth_some}
use Rattle.ranking.proofs.Steps.{more}

module _ {X : Type 0} (eligible : X → Bool) (before : X → X → Bool) where
  unbeaten_from : (x : X) (xs : List X) → ((k : ℕ) (z : X) → k < length xs → slice_get xs k ≡ Some z → eligible z ≡ true → before z x ≡ false) → unbeaten eligible before x xs ≡ true
  unbeaten_from x [] h = refl
  unbeaten_from x (y ∷ ys) h =
      and_from _ _
      (not_from_false (eligible y && before y x) (⊎_elim (λ c. and_right (eligible y) (before y x) (h 0 y (omega arith) refl c)) (and_left (eligible y) (before y x)) (cases_Bool (eligible y))))
      (unbeaten_from x ys (λ k z l. h (suc k) z (omega arith)))

  beaten_from : (x z : X) (xs : List X) (k : ℕ) → slice_get xs k ≡ Some z → eligible z ≡ true → before z x ≡ true → unbeaten eligible before x xs ≡ false
  beaten_from x z [] k e c b = absurd (none-some z e)
  beaten_from x z (y ∷ ys) zero e c b =
      let same : y ≡ z = cc in
      and_left _ _ (not_from_true (eligible y && before y x) (and_from _ _ (ap eligible same ∙ c) (ap (λ w. before w x) same ∙ b)))
  beaten_from x z (y ∷ ys) (suc k) e c b = and_right _ _ (beaten_from x z ys k e c b)

  -- a place that is the first of all is what the search is defined to find
  pub only_first : (xs : List X) (p : Option ℕ) → FirstAmong eligible before xs (length xs) p → p ≡ first_in_rank eligible before xs
  only_first [] None h = refl
  only_first [] (Some i) h = absurd (omega (arith, h.within))
  only_first (x ∷ xs) None h =
      let rest = only_first xs None (λ k z l. h (suc k) z (omega arith)) in
      ap one_on rest ∙ sym (cond-false _ _ _ (and_left _ _ (h 0 x (omega arith) refl)))
  only_first (x ∷ xs) (Some zero) h =
      let e = h.stands in
      let same : h.entry ≡ x = cc in
      sym
      (cond-true _ _ _
      (and_from _ _ (ap eligible (sym same) ∙ h.counts)
      (unbeaten_from x xs (λ k z l f c. ap (before z) (sym same) ∙ h.unbeaten (suc k) z (omega arith) f c))))
  only_first (x ∷ xs) (Some (suc i)) h =
      let
      rest : Some i ≡ first_in_rank eligible before xs
      = only_first xs (Some i)
      (record {
        within = omega (arith, h.within);
        entry = h.entry;
        stands = h.stands;
        counts = h.counts;
        unbeaten = λ k z l. h.unbeaten (suc k) z (omega arith);
        lowest = λ k z l. h.lowest (suc k) z (omega arith);
      }) in
      ap one_on rest
      ∙ sym
      (cond-false _ _ _
      (⊎_elim (λ c. and_right _ _ (beaten_from x h.entry xs i h.stands h.counts (h.lowest 0 x (omega arith) refl c))) (and_left _ _) (cases_Bool (eligible x))))

module _ {X : Type 0} (eligible : X → Bool) {before : X → X → Bool} (asymmetric : (x y : X) → before x y ≡ true → before y x ≡ false) (chains : (x y z : X) → before x y ≡ false → before y z ≡ false → before x z ≡ false) where
  some_first : (xs : List X) (n : ℕ) → n ≤ length xs → (p : Option ℕ) × FirstAmong eligible before xs n p
  some_first xs zero l = (None, λ k z m. absurd (omega arith))
  some_first xs (suc n) l =
      let h = some_first xs n (omega arith) in
      let a = nth_some xs n (omega arith) in
      let next = cond (eligible a.0 && leads before xs h.0 a.0) (Some n) h.0 in
      let on : n + 1 ≡ suc n = omega arith in
      (next, subst (λ m. FirstAmong eligible before xs m next) on (more asymmetric chains eligible xs n a.0 a.1 h.0 h.1))

  first_holds : (xs : List X) → FirstAmong eligible before xs (length xs) (first_in_rank eligible before xs)
  first_holds xs =
      let h = some_first xs (length xs) (omega arith) in
      subst (FirstAmong eligible before xs (length xs)) (only_first eligible before xs h.0 h.1) h.1

  -- the first of xs is eligible in ys, where none is
  not_none : (xs ys : List X) (i : ℕ) → AllIn xs ys → IsFirst eligible before xs (length xs) i → FirstAmong eligible before ys (length ys) None → ⊥
  not_none xs ys i to h none =
      let a = to i h.entry h.stands in
      both_ways (eligible h.entry) (none a.0 h.entry (slice_get_within ys a.0 h.entry a.1) a.1) h.counts

  same_entry : (xs ys : List X) (p q : Option ℕ) → AllIn xs ys → AllIn ys xs → NoTies eligible before xs → FirstAmong eligible before xs (length xs) p → FirstAmong eligible before ys (length ys) q → entry_at ys q ≡ entry_at xs p
  same_entry xs ys None None to from apart h g = refl
  same_entry xs ys None (Some j) to from apart h g = absurd (not_none ys xs j from g h)
  same_entry xs ys (Some i) None to from apart h g = absurd (not_none xs ys i to h g)
  same_entry xs ys (Some i) (Some j) to from apart h g =
      let a = to i h.entry h.stands in
      let b = from j g.entry g.stands in
      let
      same : h.entry ≡ g.entry
      = apart i b.0 h.entry g.entry h.stands b.1 h.counts g.counts (g.unbeaten a.0 h.entry (slice_get_within ys a.0 h.entry a.1) a.1 h.counts) (h.unbeaten b.0 g.entry (slice_get_within xs b.0 g.entry b.1) b.1 g.counts) in
      g.stands ∙ ap Some (sym same) ∙ sym h.stands

  pub any_order : (xs : List X) (p : Option ℕ) → FirstAmong eligible before xs (length xs) p → AnyOrder eligible before xs p
  any_order xs p h ys to from apart = same_entry xs ys p (first_in_rank eligible before ys) to from apart h (first_holds ys)
