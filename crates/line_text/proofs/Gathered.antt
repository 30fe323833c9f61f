-- What the pieces of a list add, tried in turn by a fold that breaks off.
use Rattle.std.proofs.Common.{◌≡◌, ℕ, true, List, [], ◌∷◌, Some, None, Option, sym, ap, ap₂, ◌∙◌, subst, lit<}
use Rattle.std.specs.ControlFlow.{continue_value}
use Rattle.std.specs.Fn.{Called}
use Rattle.std.specs.Iterator.{Yields, TryFoldTurn, TryFoldsItems}
use Rattle.std.specs.List.{FoldsTo}
use Rattle.std.specs.Option.{MatchOption}
use Rattle.std.specs.Str.Iter.{split_steps, split_text, split_has_more, split_pattern}
use Rattle.std.specs.Str.Pattern.{FindsChar}
use Rattle.std.specs.declared.ops.ControlFlow.{ControlFlow}
use Rattle.std.specs.declared.ops.ControlFlow.TheVariants.{Continue, Break}
use denote.Param.Members.{Mut}
use denote.Ref.{Bor}
use Rattle.line_text.specs.Lists.{gathered, and_then, pieces}
use Rattle.line_text.proofs.Cuts.{left, at_next, begun}

-- where `?` goes on from an Option, and where it breaks off
abbrev pub branches : {E A : Type 0} → Option A → ControlFlow E A → Type 0
branches v c = v ≡ continue_value c

-- what a turn of the fold computes
abbrev pub Computes : {F A : Type 0} → (A → List ℕ → Option A) → Mut F (A × (Bor (List ℕ) × Unit {0})) (Option A) → F → Type 0
Computes {F} {A} adds g f = (a : A) (x : Bor (List ℕ)) (v : Option A) (q : F) → Called g f (a, (x, tt)) v q → (q ≡ f) × (v ≡ adds a x.now)

module _ {S F A : Type 0} (steps : S → Option (Bor (List ℕ)) → S → Type 0) (rest : S → List (List ℕ)) (P : S → Type 0)
    (next : (s t : S) (x : Bor (List ℕ)) → P s → steps s (Some x) t → P t × (rest s ≡ x.now ∷ rest t)) (over : (s t : S) → P s → steps s None t → rest s ≡ [])
    (adds : A → List ℕ → Option A) (g : Mut F (A × (Bor (List ℕ) × Unit {0})) (Option A)) (f : F) (E : Type 0) where
  through : Computes adds g f → (xs : List (Bor (List ℕ))) (s t : S) (a b : A) (q : F) → P s → Yields steps s xs t → FoldsTo {P = F × A} (TryFoldTurn g (branches {E = E})) (f, a) xs (q, b) → (q ≡ f) × (gathered adds a (rest s) ≡ gathered adds b (rest t)) × P t
  through computes [] s t a b q p y e =
      (sym (ap (λ (k : F × A). k.0) e), ap₂ (λ (u : S) (k : A). gathered adds k (rest u)) y (ap (λ (k : F × A). k.1) e), subst P y p)
  through computes (x ∷ xs) s t a b q p y e =
      let one = computes a x e.1.0 e.0.0 e.1.1 in
      let more = next s y.0 x p y.1 in
      let others
      = through computes xs y.0 t e.0.1 b q more.0 y.2 (subst (λ (k : F). FoldsTo {P = F × A} (TryFoldTurn g (branches {E = E})) (k, e.0.1) xs (q, b)) one.0 e.2) in
      let first : gathered adds a (rest s) ≡ gathered adds a (x.now ∷ rest y.0) = ap (gathered adds a) more.1 in
      let then : gathered adds a (x.now ∷ rest y.0) ≡ gathered adds e.0.1 (rest y.0) = ap (λ (o : Option A). and_then o (λ k. gathered adds k (rest y.0))) (sym one.1 ∙ e.1.2) in
      (others.0, first ∙ then ∙ others.1, others.2)

  last : Computes adds g f → (o : Option (Bor (List ℕ))) (t u : S) (q : F) (a : A) (v : Option A) → P t → steps t o u → q ≡ f → MatchOption o (branches {E = E} v (Continue a)) (λ x. (w : Option A) × (h : F) × (e : E) × Called g q (a, (x, tt)) w h × branches w (Break e) × (v ≡ None)) → v ≡ gathered adds a (rest t)
  last computes None t u q a v p k same m = m ∙ sym (ap (gathered adds a) (over t u p k))
  last computes (Some x) t u q a v p k same m =
      let one = computes a x m.0 m.1 (subst (λ (h : F). Called g h (a, (x, tt)) m.0 m.1) same m.3) in
      let more = next t u x p k in
      m.5 ∙ sym (ap (gathered adds a) more.1 ∙ ap (λ (o : Option A). and_then o (λ b. gathered adds b (rest u))) (sym one.1 ∙ m.4))

  by_turns : (s u : S) (a : A) (v : Option A) → P s → TryFoldsItems steps g (branches {E = E}) (λ _ w. w ≡ None) s f a v u → Computes adds g f → v ≡ gathered adds a (rest s)
  by_turns s u a v p d computes =
      let so_far = through computes d.0 s d.4.0 a d.3 d.2 p d.4.1 d.5 in
      last computes d.1 d.4.0 u d.2 d.3 v so_far.2 d.4.2 so_far.0 d.6 ∙ sym so_far.1

-- the pieces of a text between commas
module _ {F A : Type 0} (adds : A → List ℕ → Option A) (g : Mut F (A × (Bor (List ℕ) × Unit {0})) (Option A)) (f : F) (E : Type 0) where
  pub gathered_by_turns : {s u : _} (text : List ℕ) (a : A) (v : Option A) → split_text s ≡ text → split_has_more s ≡ true → split_pattern {P = ℕ} s ≡ 44
      → TryFoldsItems (split_steps FindsChar (λ a b. b ≡ a)) g (branches {E = E}) (λ _ w. w ≡ None) s f a v u → Computes adds g f → v ≡ gathered adds a (pieces 44 text)
  gathered_by_turns {s} {u} text a v same more at ran computes =
      by_turns (split_steps FindsChar (λ a b. b ≡ a)) (λ t. left 44 (split_has_more t) (split_text t)) (λ t. split_pattern {P = ℕ} t ≡ 44)
      (λ t w x p k. (k.1.0 ∙ p, at_next 44 _ _ _ _ _ _ (lit< tt) p (sym k.0) k.1.1))
      (λ t w p k. ap (λ b. left 44 b (split_text t)) (sym k.0))
      adds g f E s u a v at ran computes
      ∙ ap (gathered adds a) (begun 44 _ _ _ more same)
