-- Lists with one more entry, tables with one place put, and what a run keeps.
use mathlib.Core.Path.{◌≡◌, refl, subst}
use mathlib.Core.Bool.{Bool, true, false, cond}
use mathlib.Core.List.{List, [], ◌∷◌}
use mathlib.Core.Logic.{◌⊎◌, inl, inr}
use Prim.Native.Nat.{ℕ}
use lib.Dec.{eqb, eqb_refl, T}
use Rattle.agreement.proofs.Truth.{same_number}
use Rattle.agreement.specs.Runs.{◌∈◌, put, Legal, outcome}

pub either : {A B : Type 0} → A ⊎ B → (A → B) → B
either (inl a) f = f a
either (inr b) f = b

-- An entry of a list with a new one of which P holds is an old one, or P holds of it.
pub one_more : {A : Type 0} (P : A → Type 0) (x : A) (xs : List A) → P x → (m : A) → m ∈ (x ∷ xs) → (m ∈ xs) ⊎ P m
one_more P x xs new m (inl e) = inr (subst P e new)
one_more P x xs new m (inr q) = inl q

-- What holds of a new entry and of all old ones holds of each.
pub each : {A : Type 0} (P : A → Type 0) (x : A) (xs : List A) → P x → ((m : A) → m ∈ xs → P m) → (m : A) → m ∈ (x ∷ xs) → P m
each P x xs new old m p = either (one_more P x xs new m p) (old m)

module _ {A : Type 0} (table : ℕ → A) (j : ℕ) (x : A) where
  -- Of a table with one place put, each place holds the new thing or an old one.
  pub put_each : (P : ℕ → A → Type 0) → P j x → ((k : ℕ) → P k (table k)) → (k : ℕ) → P k (put table j x k)
  put_each P new old k = go (eqb j k) refl
    where
      go : (b : Bool) → eqb j k ≡ b → P k (cond b x (table k))
      go true e = subst (λ (n : ℕ). P n x) (same_number j k e) new
      go false e = old k

  -- What was put stands at its place.
  pub at_put : (P : A → Type 0) → P x → P (put table j x j)
  at_put P h = go (eqb j j) (eqb_refl j)
    where
      go : (b : Bool) → T b → P (cond b x (table j))
      go true t = h
      go false t = absurd t

-- What holds at first and is kept by every move holds after a run.
pub run_keeps : {S M : Type 0} (Allowed : S → M → Type 0) (after : S → M → S) (Inv : S → Type 0)
    → ((s : S) (m : M) → Inv s → Allowed s m → Inv (after s m))
    → (ms : List M) (s : S) → Inv s → Legal Allowed after s ms → Inv (outcome after s ms)
run_keeps Allowed after Inv step [] s inv l = inv
run_keeps Allowed after Inv step (m ∷ ms) s inv (a, l) =
    run_keeps Allowed after Inv step ms (after s m) (step s m inv a) l
