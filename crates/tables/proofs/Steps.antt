-- A step of the loop over the records, one place on.
use Rattle.std.proofs.Common.{◌≡◌, ℕ, ◌+◌, ◌<◌, ◌≤◌, List, ◌∷◌, ◌++◌, length, get_or, take, drop, set, Option, sym, ap, ◌∙◌, add-one}
use Rattle.std.proofs.lemmas.List.{at_drop_more, at_drop_all, take_more_set, take_all, append_assoc, append-nil}
use Rattle.ranking.specs.declared.due.Due.{Due}
use Rattle.record.specs.declared.row.Row.{Row}
use Rattle.tables.specs.Tables.{due_entry, due_from}

-- one more entry written, one record on
pub due_more : (s : ℕ) (es : List (Option Due)) (ws : List Row) (i : ℕ) (d : Row) → i < length es → i < length ws
    → take (i + 1) (set es i (due_entry s (i + 1) (get_or ws i d))) ++ due_from s (i + 1 + 1) (drop (i + 1) ws) ≡ take i es ++ due_from s (i + 1) (drop i ws)
due_more s es ws i d k l =
    let e : Option Due = due_entry s (i + 1) (get_or ws i d) in
    let rest : List (Option Due) = due_from s (i + 1 + 1) (drop (i + 1) ws) in
    ap (λ (t : List (Option Due)). t ++ rest) (take_more_set es i e k)
    ∙ append_assoc (take i es) _ rest
    ∙ ap (λ (j : ℕ). take i es ++ e ∷ due_from s j (drop (i + 1) ws)) (add-one (i + 1))
    ∙ ap (λ (t : List (Option Due)). take i es ++ t) (sym (at_drop_more (due_from s (i + 1)) ws i d l))

pub due_all : (s : ℕ) (es : List (Option Due)) (ws : List Row) (i : ℕ) → length es ≤ i → length ws ≤ i → take i es ++ due_from s (i + 1) (drop i ws) ≡ es
due_all s es ws i k l =
    ap (λ (t : List (Option Due)). take i es ++ t) (at_drop_all (due_from s (i + 1)) ws i l) ∙ append-nil (take i es) ∙ take_all i es k
