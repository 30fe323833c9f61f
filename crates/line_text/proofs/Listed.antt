-- A list as text, read back: its pieces again.
use Rattle.std.proofs.Common.{◌≡◌, ℕ, ◌^◌, ◌<◌, true, false, eqb, List, [], ◌∷◌, ◌++◌, codes, decimal, Option, refl, ap, ◌∙◌, subst, ⊎_elim, append-nil}
use Rattle.std.proofs.lemmas.Slice.Eq.{bytes_eq-Decides}
use Rattle.std.proofs.lemmas.Bool.{cases_Bool, cond-false, false≢true}
use Rattle.std.specs.Str.{bytes_eq}
use Rattle.line_format.proofs.Rows.{Each}
use Rattle.line_text.specs.Lists.{pieces, gathered, listed, list_from, list_text}
use Rattle.line_text.proofs.Cuts.{pieces_at, pieces_whole}
use Rattle.line_text.proofs.Back.{lacks, lacks_at, lacks_append, decimal_lacks}

-- a piece with no space, no comma and no `n`, so that it is never `none`
abbrev pub Plain : List ℕ → Type 0
Plain p = (lacks 32 p ≡ true) × (lacks 44 p ≡ true) × (lacks 110 p ≡ true)

pub plain_decimal : (n : ℕ) → n < 2 ^ 32 → Plain (decimal n)
plain_decimal n h = (decimal_lacks 32 refl n h, decimal_lacks 44 refl n h, decimal_lacks 110 refl n h)

pub plain_append : (a b : List ℕ) → Plain a → Plain b → Plain (a ++ b)
plain_append a b g h = (lacks_append 32 a b g.0 h.0, lacks_append 44 a b g.1 h.1, lacks_append 110 a b g.2 h.2)

list_pieces : (p : List ℕ) (ps : List (List ℕ)) → Each Plain (p ∷ ps) → pieces 44 (p ++ list_from ps false) ≡ p ∷ ps
list_pieces p [] h = ap (pieces 44) (append-nil p) ∙ pieces_whole 44 p (lacks_at 44 p h.0.1)
list_pieces p (q ∷ qs) h = pieces_at 44 p (q ++ list_from qs false) (lacks_at 44 p h.0.1) ∙ ap (λ l. p ∷ l) (list_pieces q qs h.1)

list_lacks : (c : ℕ) → eqb 44 c ≡ false → ((p : List ℕ) → Plain p → lacks c p ≡ true) → (p : List ℕ) (ps : List (List ℕ)) → Each Plain (p ∷ ps) → lacks c (p ++ list_from ps false) ≡ true
list_lacks c apart each p [] h = lacks_append c p [] (each p h.0) refl
list_lacks c apart each p (q ∷ qs) h =
    let rest = list_lacks c apart each q qs h.1 in
    lacks_append c p (44 ∷ (q ++ list_from qs false)) (each p h.0) (rw apart rest)

pub list_plain : (ps : List (List ℕ)) → Each Plain ps → lacks 32 (list_text ps) ≡ true
list_plain [] h = refl
list_plain (p ∷ ps) h = list_lacks 32 refl (λ _ g. g.0) p ps h

pub listed_back : {A : Type 0} (adds : A → List ℕ → Option A) (a : A) (ps : List (List ℕ)) → Each Plain ps → listed adds a (list_text ps) ≡ gathered adds a ps
listed_back adds a [] h = refl
listed_back adds a (p ∷ ps) h =
    let text : List ℕ = list_text (p ∷ ps) in
    let some = list_lacks 110 refl (λ _ g. g.2) p ps h in
    let other : bytes_eq text (codes "none") ≡ false = ⊎_elim (λ same. absurd (false≢true (subst (λ l. lacks 110 l ≡ true) ((bytes_eq-Decides text (codes "none")).0 same) some))) (λ other. other) (cases_Bool (bytes_eq text (codes "none"))) in
    cond-false _ _ _ other ∙ ap (gathered adds a) (list_pieces p ps h)
