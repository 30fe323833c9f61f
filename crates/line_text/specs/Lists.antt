-- Texts cut at a character, and lists joined by commas.
use Rattle.std.specs.Prelude.{ℕ, Bool, true, false, cond, List, [], ◌∷◌, ◌++◌, Some, None, codes, Option, ◌==◌}
use Rattle.std.specs.Borrow.{Bor}
use Rattle.std.specs.List.{slice_split}
use Rattle.std.specs.Str.{bytes_eq}

-- one more byte at the front of what stands before the cut
abbrev pub longer : ℕ → Option (List ℕ × List ℕ) → Option (List ℕ × List ℕ)
longer x None = None
longer x (Some p) = Some (x ∷ p.0, p.1)

-- what stands before and after the first c
abbrev pub cut : ℕ → List ℕ → Option (List ℕ × List ℕ)
cut c [] = None
cut c (x ∷ xs) = cond (x == c) (Some ([], xs)) (longer x (cut c xs))

-- both ends of a text that was cut
abbrev pub ends : Bor (List ℕ) × Bor (List ℕ) → List ℕ × List ℕ
ends p = (p.0.now, p.1.now)

-- what stands between the c's
abbrev pub pieces : ℕ → List ℕ → List (List ℕ)
pieces c text = slice_split (λ x. x == c) text

-- the pieces that are not empty
abbrev pub filled : List (List ℕ) → List (List ℕ)
filled [] = []
filled ([] ∷ ps) = filled ps
filled ((x ∷ p) ∷ ps) = (x ∷ p) ∷ filled ps

-- the words of a line stand between its spaces
abbrev pub words : List ℕ → List (List ℕ)
words line = filled (pieces 32 line)

abbrev pub and_then : {A B : Type 0} → Option A → (A → Option B) → Option B
and_then None next = None
and_then (Some a) next = next a

-- what pieces add, one after the other
abbrev pub gathered : {A : Type 0} → (A → List ℕ → Option A) → A → List (List ℕ) → Option A
gathered adds a [] = Some a
gathered adds a (p ∷ ps) = and_then (adds a p) (λ b. gathered adds b ps)

-- what a list adds: `none`, or pieces with commas between
abbrev pub listed : {A : Type 0} → (A → List ℕ → Option A) → A → List ℕ → Option A
listed adds a text = cond (bytes_eq text (codes "none")) (Some a) (gathered adds a (pieces 44 text))

-- a comma before every piece of a list but the first
abbrev pub comma : Bool → List ℕ
comma first = cond first [] (44 ∷ [])

-- a list as text, from its first piece or a later one on
abbrev pub list_from : List (List ℕ) → Bool → List ℕ
list_from [] first = cond first (codes "none") []
list_from (p ∷ ps) first = comma first ++ (p ++ list_from ps false)

abbrev pub list_text : List (List ℕ) → List ℕ
list_text ps = list_from ps true
