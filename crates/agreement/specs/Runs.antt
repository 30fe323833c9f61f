-- What is common to the three laws: lists of what was said, tables of what is held, and runs of moves.
use Rattle.std.specs.Prelude.{◌≡◌, cond, List, [], ◌∷◌, ◌⊎◌, ℕ, eqb}

infixr 60 ◌∈◌
-- x is an entry of the list.
abbrev pub ◌∈◌ : {A : Type 0} → A → List A → Type 0
x ∈ [] = ⊥
x ∈ (y ∷ ys) = (y ≡ x) ⊎ (x ∈ ys)

-- The table with x at place j.
abbrev pub put : {A : Type 0} → (ℕ → A) → ℕ → A → ℕ → A
put table j x k = cond (eqb j k) x (table k)

-- Each move of the list may be made where it stands.
abbrev pub Legal : {S M : Type 0} → (S → M → Type 0) → (S → M → S) → S → List M → Type 0
Legal Allowed after s [] = Unit {0}
Legal Allowed after s (m ∷ ms) = Allowed s m × Legal Allowed after (after s m) ms

-- What stands after the moves of the list.
abbrev pub outcome : {S M : Type 0} → (S → M → S) → S → List M → S
outcome after s [] = s
outcome after s (m ∷ ms) = outcome after (after s m) ms
