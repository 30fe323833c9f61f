-- Texts cut at a character: the first cut, and the pieces.
use Rattle.std.proofs.Common.{◌≡◌, ℕ, suc, ◌<◌, Bool, true, false, cond, eqb, List, [], ◌∷◌, ◌++◌, length, take, drop, Some, None, Option, sym, refl, ap, ◌∙◌, subst, arith, length-drop, take-append-drop, Bor, MatchOption}
use Rattle.std.proofs.lemmas.Str.Pattern.{NoCharPasses-char, drop_at_char}
use Rattle.std.proofs.lemmas.Bool.Decides.{eqb_tells}
use Rattle.std.specs.Str.Pattern.{FindsChar, IsSplitAtFirstMatch}
use Rattle.std.specs.List.{onto_first}
use Rattle.std.specs.Option.{option_map}
use Rattle.std.specs.Str.Iter.{LacksByte}
use Rattle.line_text.specs.Lists.{longer, cut, ends, pieces}

unlike : {A : Type 0} (x c : ℕ) (a b : A) → (x ≡ c → ⊥) → cond (eqb x c) a b ≡ b
unlike x c a b apart = let e = eqb_tells x c in grind arith

alike : {A : Type 0} (c : ℕ) (a b : A) → cond (eqb c c) a b ≡ a
alike c a b = let e = eqb_tells c c in grind arith

later : (c x : ℕ) (xs : List ℕ) → LacksByte c (x ∷ xs) → LacksByte c xs
later c x xs lacks = λ k h. lacks (suc k) (omega arith)

pub cut_none : (c : ℕ) (xs : List ℕ) → LacksByte c xs → cut c xs ≡ None
cut_none c [] lacks = refl
cut_none c (x ∷ xs) lacks = unlike x c (Some ([], xs)) (longer x (cut c xs)) (lacks 0 (omega arith)) ∙ ap (longer x) (cut_none c xs (later c x xs lacks))

pub cut_at : (c : ℕ) (xs ys : List ℕ) → LacksByte c xs → cut c (xs ++ (c ∷ ys)) ≡ Some (xs, ys)
cut_at c [] ys lacks = alike c (Some ([], ys)) (longer c (cut c ys))
cut_at c (x ∷ xs) ys lacks =
    unlike x c (Some ([], xs ++ (c ∷ ys))) (longer x (cut c (xs ++ (c ∷ ys)))) (lacks 0 (omega arith)) ∙ ap (longer x) (cut_at c xs ys (later c x xs lacks))

pub pieces_whole : (c : ℕ) (xs : List ℕ) → LacksByte c xs → pieces c xs ≡ xs ∷ []
pieces_whole c [] lacks = refl
pieces_whole c (x ∷ xs) lacks = unlike x c ([] ∷ pieces c xs) (onto_first x (pieces c xs)) (lacks 0 (omega arith)) ∙ ap (onto_first x) (pieces_whole c xs (later c x xs lacks))

pub pieces_at : (c : ℕ) (xs ys : List ℕ) → LacksByte c xs → pieces c (xs ++ (c ∷ ys)) ≡ xs ∷ pieces c ys
pieces_at c [] ys lacks = alike c ([] ∷ pieces c ys) (onto_first c (pieces c ys))
pieces_at c (x ∷ xs) ys lacks =
    unlike x c ([] ∷ pieces c (xs ++ (c ∷ ys))) (onto_first x (pieces c (xs ++ (c ∷ ys)))) (lacks 0 (omega arith)) ∙ ap (onto_first x) (pieces_at c xs ys (later c x xs lacks))

-- what `split_once` answers
pub cut_is : (c : ℕ) (bs : List ℕ) (r : Option (Bor (List ℕ) × Bor (List ℕ))) → MatchOption r (LacksByte c bs) (λ x. (bs ≡ x.0.now ++ (c ∷ x.1.now)) × LacksByte c x.0.now) → option_map ends r ≡ cut c bs
cut_is c bs None lacks = sym (cut_none c bs lacks)
cut_is c bs (Some x) h = sym (ap (cut c) h.0 ∙ cut_at c x.0.now x.1.now h.1)

-- the pieces that `split` has yet to give
abbrev pub left : ℕ → Bool → List ℕ → List (List ℕ)
left c live text = cond live (pieces c text) []

-- what a call of its `next` gives
pub next_piece : (c : ℕ) (w x rest : List ℕ) (live : Bool) → c < 128 → IsSplitAtFirstMatch (FindsChar c) w x live rest → pieces c w ≡ x ∷ left c live rest
next_piece c w x rest live low h = by h.1.0 h.1.1 h.1.2
  where
    by : (o : Option (ℕ × ℕ)) → FindsChar c w o → MatchOption o ((x ≡ w) × (live ≡ false)) (λ q. 0 < q.1 → (x ≡ take q.0 w) × (live ≡ true) × (rest ≡ drop q.1 w)) → pieces c w ≡ x ∷ left c live rest
    by None found e =
        let whole = pieces_whole c w (λ k. NoCharPasses-char c w k found low) in
        let none : left c live rest ≡ [] = ap (λ b. left c b rest) e.1 in
        let same = e.0 in cc
    by (Some q) found e =
        let at = drop_at_char c w q.0 q.1 found.1 low in
        let far : 0 < q.1 = omega (arith, ap length at, length-drop q.0 w, length-drop q.1 w) in
        let lacks : LacksByte c (take q.0 w) = λ k. NoCharPasses-char c (take q.0 w) k found.0 low in
        let split = pieces_at c (take q.0 w) (drop q.1 w) lacks in
        let again : w ≡ take q.0 w ++ (c ∷ drop q.1 w) = sym (take-append-drop q.0 w) ∙ ap (λ l. take q.0 w ++ l) at in
        let parts = e far in
        let more : left c live rest ≡ pieces c (drop q.1 w) = ap (λ b. left c b rest) parts.1 ∙ ap (pieces c) parts.2 in
        ap (pieces c) again ∙ split ∙ (λ i. sym parts.0 i ∷ sym more i)

-- the same of an iterator that looks for k
pub at_next : (c k : ℕ) (live : Bool) (w x rest : List ℕ) (live' : Bool) → c < 128 → k ≡ c → live ≡ true → IsSplitAtFirstMatch (FindsChar k) w x live' rest → left c live w ≡ x ∷ left c live' rest
at_next c k live w x rest live' low same on h =
    ap (λ b. left c b w) on ∙ next_piece c w x rest live' low (subst (λ d. IsSplitAtFirstMatch (FindsChar d) w x live' rest) same h)

pub begun : (c : ℕ) (live : Bool) (w text : List ℕ) → live ≡ true → w ≡ text → left c live w ≡ pieces c text
begun c live w text on same = ap (λ b. left c b w) on ∙ ap (pieces c) same
