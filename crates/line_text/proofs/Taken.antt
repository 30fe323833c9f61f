-- The numbers of fields, read one after the other.
use Rattle.std.proofs.Common.{◌≡◌, ℕ, ◌+◌, ◌<◌, ◌≤◌, List, [], ◌∷◌, ◌++◌, length, get_or, drop, Ok, Err, Result, suc, zero, sym, refl, ap, ◌∙◌, append_assoc, append-nil, arith}
use Rattle.std.proofs.Math.Seq.{drop-nil}
use Rattle.std.proofs.lemmas.List.{at_drop_more, at_drop_all}
use Rattle.line_format.specs.declared.limits.Field.{Field}
use Rattle.line_text.specs.Reading.{then, number_first, numbers_first}
use Rattle.line_text.specs.declared.fault.NotUnderstood.{NotUnderstood}

-- the numbers read so far, and those to come
abbrev pub joined : List ℕ → Result (List ℕ) NotUnderstood → Result (List ℕ) NotUnderstood
joined ms r = then r (λ ns. Ok (ms ++ ns))

pub joined_more : (ms : List ℕ) (n : ℕ) (r : Result (List ℕ) NotUnderstood) → joined ms (then r (λ ns. Ok (n ∷ ns))) ≡ joined (ms ++ n ∷ []) r
joined_more ms n (Err e) = refl
joined_more ms n (Ok ns) = ap (λ l. Ok l) (sym (append_assoc ms (n ∷ []) ns))

pub joined_none : (r : Result (List ℕ) NotUnderstood) → joined [] r ≡ r
joined_none (Err e) = refl
joined_none (Ok ns) = refl

drop_suc : (ws : List (List ℕ)) (i : ℕ) → drop 1 (drop i ws) ≡ drop (suc i) ws
drop_suc [] i = simp drop-nil
drop_suc (w ∷ ws) zero = refl
drop_suc (w ∷ ws) (suc i) = drop_suc ws i

pub drop_one : (ws : List (List ℕ)) (i : ℕ) → drop 1 (drop i ws) ≡ drop (i + 1) ws
drop_one ws i = let e : suc i ≡ i + 1 = omega arith in drop_suc ws i ∙ ap (λ n. drop n ws) e

module _ (fs : List Field) (ws : List (List ℕ)) (ms : List ℕ) (i : ℕ) (f₀ : Field) (inside : i < length fs) (sofar : numbers_first fs ws ≡ joined ms (numbers_first (drop i fs) (drop i ws))) where
  next : (r : Result ℕ NotUnderstood) → r ≡ number_first (get_or fs i f₀) (drop i ws) → numbers_first fs ws ≡ joined ms (then r (λ n. then (numbers_first (drop (i + 1) fs) (drop 1 (drop i ws))) (λ ns. Ok (n ∷ ns))))
  unfolding numbers_first
  next r e =
      sofar ∙ ap (joined ms) (at_drop_more (λ l. numbers_first l (drop i ws)) fs i f₀ inside
      ∙ ap (λ o. then o (λ n. then (numbers_first (drop (i + 1) fs) (drop 1 (drop i ws))) (λ ns. Ok (n ∷ ns)))) (sym e))

  pub one_read : (n : ℕ) → Ok n ≡ number_first (get_or fs i f₀) (drop i ws) → numbers_first fs ws ≡ joined (ms ++ n ∷ []) (numbers_first (drop (i + 1) fs) (drop (i + 1) ws))
  one_read n e =
      next (Ok n) e ∙ joined_more ms n (numbers_first (drop (i + 1) fs) (drop 1 (drop i ws)))
      ∙ ap (λ l. joined (ms ++ n ∷ []) (numbers_first (drop (i + 1) fs) l)) (drop_one ws i)

  pub one_refused : (e : NotUnderstood) → Err e ≡ number_first (get_or fs i f₀) (drop i ws) → Err e ≡ numbers_first fs ws
  one_refused e h = sym (next (Err e) h)

pub all_read : (fs : List Field) (ws : List (List ℕ)) (ms : List ℕ) (i : ℕ) → length fs ≤ i → numbers_first fs ws ≡ joined ms (numbers_first (drop i fs) (drop i ws)) → Ok ms ≡ numbers_first fs ws
unfolding numbers_first
all_read fs ws ms i past sofar = sym (sofar ∙ ap (joined ms) (at_drop_all (λ l. numbers_first l (drop i ws)) fs i past) ∙ ap (λ l. Ok l) (append-nil ms))

-- numbers and one more
drop_after : (n : ℕ) (ws : List (List ℕ)) → drop n (drop 1 ws) ≡ drop (suc n) ws
drop_after n [] = simp drop-nil
drop_after n (w ∷ ws) = refl

abbrev pub and_one : Result (List ℕ) NotUnderstood → Result ℕ NotUnderstood → Result (List ℕ) NotUnderstood
and_one a t = then a (λ ns. then t (λ n. Ok (ns ++ n ∷ [])))

first_of : (r : Result ℕ NotUnderstood) (a b : Result (List ℕ) NotUnderstood) (t : Result ℕ NotUnderstood) → b ≡ and_one a t → then r (λ m. then b (λ ns. Ok (m ∷ ns))) ≡ and_one (then r (λ m. then a (λ ns. Ok (m ∷ ns)))) t
first_of (Err e) a b t h = refl
first_of (Ok m) a b t h = ap (λ o. then o (λ ns. Ok (m ∷ ns))) h ∙ under a t
  where
    under : (a : Result (List ℕ) NotUnderstood) (t : Result ℕ NotUnderstood) → then (and_one a t) (λ ns. Ok (m ∷ ns)) ≡ and_one (then a (λ ns. Ok (m ∷ ns))) t
    under (Err e) t = refl
    under (Ok ns) (Err e) = refl
    under (Ok ns) (Ok n) = refl

pub numbers_and : (fs : List Field) (f : Field) (ws : List (List ℕ)) → numbers_first (fs ++ f ∷ []) ws ≡ and_one (numbers_first fs ws) (number_first f (drop (length fs) ws))
unfolding numbers_first
numbers_and [] f ws = refl
numbers_and (g ∷ fs) f ws =
    first_of (number_first g ws) (numbers_first fs (drop 1 ws)) _ (number_first f (drop (length fs) (drop 1 ws))) (numbers_and fs f (drop 1 ws))
    ∙ ap (λ l. and_one (numbers_first (g ∷ fs) ws) (number_first f l)) (drop_after (length fs) ws)

pub numbers_long : (fs : List Field) (ws : List (List ℕ)) (ns : List ℕ) → Ok ns ≡ numbers_first fs ws → length ns ≡ length fs
unfolding numbers_first
numbers_long [] ws ns h = let none : ns ≡ [] = cc in ap length none
numbers_long (f ∷ fs) ws ns h = each (number_first f ws) (numbers_first fs (drop 1 ws)) (numbers_long fs (drop 1 ws)) ns h
  where
    each : (r : Result ℕ NotUnderstood) (a : Result (List ℕ) NotUnderstood) → ((ms : List ℕ) → Ok ms ≡ a → length ms ≡ length fs) → (ns : List ℕ) → Ok ns ≡ then r (λ m. then a (λ ms. Ok (m ∷ ms))) → length ns ≡ suc (length fs)
    each (Err e) a long ns h = absurd (cc)
    each (Ok m) (Err e) long ns h = absurd (cc)
    each (Ok m) (Ok ms) long ns h = let is : ns ≡ m ∷ ms = cc in ap length is ∙ ap suc (long ms refl)
