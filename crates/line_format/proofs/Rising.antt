-- Pairs whose numbers rise, tried in turn by a fold that breaks off.
use Rattle.std.proofs.Common.{◌≡◌, ℕ, Bool, true, false, cond, ◌&&◌, List, [], ◌∷◌, length, is_some, Some, None, Option, sym, refl, ap, ◌∙◌, subst, ap₂, arith}
use Rattle.std.proofs.lemmas.Option.{cond_some}
use Rattle.std.specs.ControlFlow.{continue_value}
use Rattle.std.specs.Fn.{Called}
use Rattle.std.specs.Iterator.{Yields, TryFoldTurn, TryFoldsItems}
use Rattle.std.specs.List.{FoldsTo}
use Rattle.std.specs.Option.{MatchOption}
use Rattle.std.specs.declared.ops.ControlFlow.{ControlFlow}
use Rattle.std.specs.declared.ops.ControlFlow.TheVariants.{Continue, Break}
use denote.Param.Members.{Mut}
use denote.Ref.{Bor}
use Rattle.line_format.specs.Limits.{pair_fits, pairs_rise}
use Rattle.line_format.specs.declared.message.Pair.{Pair}

none_left : (r last : ℕ) (ps : List Pair) → length ps ≡ 0 → true ≡ pairs_rise r last ps
none_left r last [] h = refl
none_left r last (p ∷ ps) h = absurd (omega arith)

refused : (b : Bool) (n : ℕ) → cond b (Some n) None ≡ None → false ≡ b
refused true n e = cc
refused false n e = refl

-- where `?` goes on from an Option, and where it breaks off
abbrev pub branches : {E : Type 0} → Option ℕ → ControlFlow E ℕ → Type 0
branches v c = v ≡ continue_value c

module _ {S F : Type 0} (steps : S → Option (Bor Pair) → S → Type 0) (rest : S → List Pair)
    (next : (s t : S) (x : Bor Pair) → steps s (Some x) t → rest s ≡ x.now ∷ rest t) (over : (s t : S) → steps s None t → length (rest s) ≡ 0)
    (r : ℕ) (g : Mut F (ℕ × (Bor Pair × Unit {0})) (Option ℕ)) (f : F) (E : Type 0) where
  abbrev pub Computes : Type 0
  Computes = (n : ℕ) (x : Bor Pair) (v : Option ℕ) (q : F) → Called g f (n, (x, tt)) v q → (q ≡ f) × (v ≡ cond (pair_fits r n x.now) (Some x.now.id) None)

  through : Computes → (xs : List (Bor Pair)) (s t : S) (n m : ℕ) (q : F) → Yields steps s xs t → FoldsTo {P = F × ℕ} (TryFoldTurn g (branches {E = E})) (f, n) xs (q, m) → (q ≡ f) × (pairs_rise r n (rest s) ≡ pairs_rise r m (rest t))
  through computes [] s t n m q y e =
      (sym (ap (λ (p : F × ℕ). p.0) e), ap₂ (λ (u : S) (k : ℕ). pairs_rise r k (rest u)) y (ap (λ (p : F × ℕ). p.1) e))
  through computes (x ∷ xs) s t n m q y e =
      let one = computes n x e.1.0 e.0.0 e.1.1 in
      let fit = cond_some (pair_fits r n x.now) x.now.id e.0.1 (sym one.1 ∙ e.1.2) in
      let
      others
      = through computes xs y.0 t e.0.1 m q y.2 (subst (λ (k : F). FoldsTo {P = F × ℕ} (TryFoldTurn g (branches {E = E})) (k, e.0.1) xs (q, m)) one.0 e.2) in
      let first : pairs_rise r n (rest s) ≡ pairs_rise r n (x.now ∷ rest y.0) = ap (pairs_rise r n) (next s y.0 x y.1) in
      let then : pairs_rise r n (x.now ∷ rest y.0) ≡ pairs_rise r e.0.1 (rest y.0) = ap₂ (λ (b : Bool) (k : ℕ). b && pairs_rise r k (rest y.0)) fit.0 fit.1 in
      (others.0, first ∙ then ∙ others.1)

  last : Computes → (o : Option (Bor Pair)) (t u : S) (q : F) (n : ℕ) (v : Option ℕ) → steps t o u → q ≡ f → MatchOption o (branches {E = E} v (Continue n)) (λ x. (w : Option ℕ) × (h : F) × (e : E) × Called g q (n, (x, tt)) w h × branches w (Break e) × (v ≡ None)) → is_some v ≡ pairs_rise r n (rest t)
  last computes None t u q n v p same m = ap is_some m ∙ none_left r n (rest t) (over t u p)
  last computes (Some x) t u q n v p same m =
      let one = computes n x m.0 m.1 (subst (λ (k : F). Called g k (n, (x, tt)) m.0 m.1) same m.3) in
      let no = refused (pair_fits r n x.now) x.now.id (sym one.1 ∙ m.4) in
      ap is_some m.5 ∙ ap₂ (λ (b : Bool) (k : Bool). b && k) no refl ∙ sym (ap (pairs_rise r n) (next t u x p))

  pub rise_by_turns : (s u : S) (n : ℕ) (v : Option ℕ) → TryFoldsItems steps g (branches {E = E}) (λ _ w. w ≡ None) s f n v u → Computes → is_some v ≡ pairs_rise r n (rest s)
  rise_by_turns s u n v d computes =
      let so_far = through computes d.0 s d.4.0 n d.3 d.2 d.4.1 d.5 in
      last computes d.1 d.4.0 u d.2 d.3 v d.4.2 so_far.0 d.6 ∙ sym so_far.1
