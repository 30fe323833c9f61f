-- The detached timestamps of a message of promises, read back.
use Rattle.std.proofs.Common.{◌≡◌, ℕ, zero, suc, ◌+◌, ◌-◌, ◌*◌, ◌/◌, ◌%◌, ◌^◌, ◌<◌, ◌≤◌, true, false, ◌&&◌, eqb, leb, List, [], ◌∷◌, ◌++◌, map, length, get_or, set, replicate, Some, None, decimal, Option, sym, refl, ap, ◌∙◌, subst, ap₂, ⊎_elim, mod-eq_of_lt, arith}
use lib.Bits.{bit_or}
use Rattle.std.proofs.lemmas.Nat.{or_comm, or_shifted, mod-pow-add, mod_below, pow_pos}
use Rattle.std.proofs.lemmas.Bool.{cases_lt, cond-true, cond_both}
use Rattle.std.proofs.lemmas.Bool.Decides.{nat_tests}
use Rattle.line_format.proofs.Rows.{Each}
use Rattle.line_format.specs.Limits.{words}
use Rattle.line_text.specs.Lists.{and_then, gathered, listed}
use Rattle.line_text.specs.Promises.{bits, has, with_bit, with_bits, with_range, no_words, no_detached, range_cut, range_in, with_detached, ranges_from, range_text, detached_text}
use Rattle.line_text.specs.declared.promises.Detached.{Detached}
use Rattle.line_text.proofs.Cuts.{cut_at, cut_none}
use Rattle.line_text.proofs.Back.{lacks, lacks_at, decimal_lacks, number_back}
use Rattle.line_text.proofs.Listed.{Plain, plain_decimal, plain_append, list_plain, listed_back}

-- one bit more of a number
bit_more : (w k : ℕ) → w % 2 ^ (k + 1) ≡ w / 2 ^ k % 2 * 2 ^ k + w % 2 ^ k
bit_more w k = let e : k + 1 ≡ 1 + k = omega arith in ap (λ (x : ℕ). w % 2 ^ x) e ∙ mod-pow-add w 1 k

bit_set : (w k : ℕ) → w / 2 ^ k % 2 ≡ 1 → bit_or (w % 2 ^ k) (2 ^ k) ≡ w % 2 ^ (k + 1)
bit_set w k e =
    let one : 2 ^ k ≡ 1 * 2 ^ k = omega arith in
    or_comm (w % 2 ^ k) (2 ^ k) ∙ ap (λ (x : ℕ). bit_or x (w % 2 ^ k)) one ∙ or_shifted 1 k (w % 2 ^ k) (mod_below w (2 ^ k) (pow_pos k))
    ∙ sym (bit_more w k ∙ ap (λ (x : ℕ). x * 2 ^ k + w % 2 ^ k) e)

bit_clear : (w k : ℕ) → w / 2 ^ k % 2 ≡ 0 → w % 2 ^ k ≡ w % 2 ^ (k + 1)
bit_clear w k e = sym (bit_more w k ∙ ap (λ (x : ℕ). x * 2 ^ k + w % 2 ^ k) e ∙ omega arith)

-- the words with their bits below bit k of word i, and no others
low : List ℕ → ℕ → ℕ → List ℕ
low [] i k = []
low (w ∷ ws) zero k = w % 2 ^ k ∷ replicate (length ws) 0
low (w ∷ ws) (suc i) k = w ∷ low ws i k

low_set : (ws : List ℕ) (i k : ℕ) → get_or ws i 0 / 2 ^ k % 2 ≡ 1 → set (low ws i k) i (bit_or (get_or (low ws i k) i 0) (2 ^ k)) ≡ low ws i (k + 1)
unfolding low
low_set [] i k e = refl
low_set (w ∷ ws) zero k e = ap (λ x. x ∷ replicate (length ws) 0) (bit_set w k e)
low_set (w ∷ ws) (suc i) k e = ap (λ l. w ∷ l) (low_set ws i k e)

low_clear : (ws : List ℕ) (i k : ℕ) → get_or ws i 0 / 2 ^ k % 2 ≡ 0 → low ws i k ≡ low ws i (k + 1)
unfolding low
low_clear [] i k e = refl
low_clear (w ∷ ws) zero k e = ap (λ x. x ∷ replicate (length ws) 0) (bit_clear w k e)
low_clear (w ∷ ws) (suc i) k e = ap (λ l. w ∷ l) (low_clear ws i k e)

low_none : (ws : List ℕ) → low ws 0 0 ≡ replicate (length ws) 0
unfolding low
low_none [] = refl
low_none (w ∷ ws) = let e : w % 2 ^ 0 ≡ 0 = omega arith in ap (λ x. x ∷ replicate (length ws) 0) e

-- words of 64 bits
abbrev Fit : List ℕ → Type 0
Fit ws = (i : ℕ) → get_or ws i 0 < 2 ^ 64

low_full : (ws : List ℕ) (i : ℕ) → Fit ws → low ws i 64 ≡ low ws (suc i) 0
unfolding low
low_full [] i fit = refl
low_full (w ∷ ws) zero fit = ap₂ ◌∷◌ (mod-eq_of_lt (fit 0)) (sym (low_none ws))
low_full (w ∷ ws) (suc i) fit = ap (λ l. w ∷ l) (low_full ws i (λ j. fit (suc j)))

low_all : (ws : List ℕ) (i k : ℕ) → length ws ≤ i → low ws i k ≡ ws
unfolding low
low_all [] i k h = refl
low_all (w ∷ ws) zero k h = absurd (omega arith)
low_all (w ∷ ws) (suc i) k h = ap (λ l. w ∷ l) (low_all ws i k (omega arith))

-- timestamps set one after the other, from the front
bits_one : (vs : List ℕ) (t : ℕ) → with_bits vs t 1 ≡ with_bit vs t
unfolding with_bits
bits_one vs t = refl

bits_last : (vs : List ℕ) (t n : ℕ) → with_bits vs t (suc n) ≡ with_bit (with_bits vs t n) (t + n)
unfolding with_bits
bits_last vs t zero = let e : t ≡ t + 0 = omega arith in ap (with_bit vs) e
bits_last vs t (suc n) = let e : t + 1 + n ≡ t + suc n = omega arith in bits_last (with_bit vs t) (t + 1) n ∙ ap (with_bit (with_bits (with_bit vs t) (t + 1) n)) e

-- a range of timestamps
abbrev Small : ℕ × ℕ → Type 0
Small r = (1 ≤ r.0) × (r.0 ≤ r.1) × (r.1 ≤ bits)

range_plain : (r : ℕ × ℕ) → Small r → Plain (range_text r)
range_plain r h =
    cond_both (eqb r.0 r.1) (decimal r.0) (decimal r.0 ++ (45 ∷ decimal r.1)) Plain
    (λ _. plain_decimal r.0 (omega (arith, h.1, h.2)))
    (λ _. plain_append (decimal r.0) (45 ∷ decimal r.1) (plain_decimal r.0 (omega (arith, h.1, h.2))) (plain_decimal r.1 (omega (arith, h.2))))

ranges_plain : (rs : List (ℕ × ℕ)) → Each Small rs → Each Plain (map range_text rs)
ranges_plain [] h = tt
ranges_plain (r ∷ rs) h = (range_plain r h.0, ranges_plain rs h.1)

no_dash : (n : ℕ) → n < 2 ^ 32 → (k : ℕ) → k < length (decimal n) → get_or (decimal n) k 0 ≡ 45 → ⊥
no_dash n h = lacks_at 45 (decimal n) (decimal_lacks 45 refl n h)

range_back : (first last : ℕ) → first < 2 ^ 32 → last < 2 ^ 32 → range_in (range_text (first, last)) ≡ Some (first, last)
range_back first last f l =
    cond_both (eqb first last) (decimal first) (decimal first ++ (45 ∷ decimal last)) (λ piece. range_in piece ≡ Some (first, last))
    (λ e. let same : first ≡ last = grind (arith, nat_tests) in ap (range_cut (decimal first)) (cut_none 45 (decimal first) (no_dash first f)) ∙ rw (number_back first f) (ap (λ n. Some (first, n)) same))
    (λ _. ap (range_cut (decimal first ++ (45 ∷ decimal last))) (cut_at 45 (decimal first) (decimal last) (no_dash first f)) ∙ rw (number_back first f, number_back last l) refl)

range_added : (d : Detached) (first last : ℕ) → Small (first, last) → with_detached d (range_text (first, last)) ≡ Some (record { words = with_bits d.words first (last + 1 - first) })
range_added d first last h =
    let one = h.0 in let two = h.1 in let three = h.2 in
    let inside : (leb 1 first && leb first last && leb last bits) ≡ true = grind (arith, nat_tests) in
    ap (λ o. and_then o (λ r. with_range d r.0 r.1)) (range_back first last (omega arith) (omega arith)) ∙ cond-true _ _ _ inside

module _ (ws : List ℕ) (long : length ws ≡ words) (fit : Fit ws) where
  -- the words as they are once p timestamps were read
  abbrev upto : ℕ → List ℕ
  upto p = low ws (p / 64) (p % 64)

  upto_next : (p : ℕ) → low ws (p / 64) (p % 64 + 1) ≡ upto (p + 1)
  upto_next p =
      ⊎_elim
      (λ less.
      let i : p / 64 ≡ (p + 1) / 64 = omega arith in
      let k : p % 64 + 1 ≡ (p + 1) % 64 = omega arith in
      ap₂ (low ws) i k)
      (λ more.
      let k : p % 64 + 1 ≡ 64 = omega arith in
      let i : suc (p / 64) ≡ (p + 1) / 64 = omega arith in
      let z : 0 ≡ (p + 1) % 64 = omega arith in
      ap (low ws (p / 64)) k ∙ low_full ws (p / 64) fit ∙ ap₂ (low ws) i z)
      (cases_lt (p % 64 + 1) 64)

  upto_all : (p : ℕ) → bits ≤ p → upto p ≡ ws
  upto_all p h = low_all ws (p / 64) (p % 64) (omega (arith, long))

  read_one : (t : ℕ) → has ws t ≡ true → with_bit (upto (t - 1)) t ≡ upto t
  read_one t e =
      let bit : get_or ws ((t - 1) / 64) 0 / 2 ^ ((t - 1) % 64) % 2 ≡ 1 = grind (arith, nat_tests) in
      let some : t - 1 + 1 ≡ t = grind (arith, nat_tests) in
      low_set ws ((t - 1) / 64) ((t - 1) % 64) bit ∙ upto_next (t - 1) ∙ ap upto some

  read_none : (t : ℕ) → 1 ≤ t → has ws t ≡ false → upto (t - 1) ≡ upto t
  read_none t some e =
      ⊎_elim
      (λ (inside : t < bits + 1).
      let other : get_or ws ((t - 1) / 64) 0 / 2 ^ ((t - 1) % 64) % 2 ≡ 1 → ⊥ = grind (arith, nat_tests) in
      let bit : get_or ws ((t - 1) / 64) 0 / 2 ^ ((t - 1) % 64) % 2 ≡ 0 = omega arith in
      let same : t - 1 + 1 ≡ t = omega arith in
      low_clear ws ((t - 1) / 64) ((t - 1) % 64) bit ∙ upto_next (t - 1) ∙ ap upto same)
      (λ (past : bits + 1 ≤ t). upto_all (t - 1) (omega arith) ∙ sym (upto_all t (omega arith)))
      (cases_lt t (bits + 1))

  -- ranges that, added to words, make the words
  abbrev Goes : List ℕ → List (ℕ × ℕ) → Type 0
  Goes vs rs = Each Small rs × (gathered with_detached (record { words = vs }) (map range_text rs) ≡ Some (record { words = ws }))

  -- the words before an open range, and what its timestamps make of them
  abbrev start : Option ℕ → ℕ → List ℕ
  start None t = upto (t - 1)
  start (Some first) t = upto (first - 1)

  abbrev Ready : Option ℕ → ℕ → Type 0
  Ready None t = Unit {0}
  Ready (Some first) t = (1 ≤ first) × (first < t) × (t ≤ bits + 1) × (with_bits (upto (first - 1)) first (t - first) ≡ upto (t - 1))

  waits : (t : ℕ) (rs : List (ℕ × ℕ)) → 1 ≤ t → has ws t ≡ false → Goes (upto (t + 1 - 1)) rs → Goes (upto (t - 1)) rs
  waits t rs some e more = let z : t ≡ t + 1 - 1 = omega arith in subst (λ vs. Goes vs rs) (sym (read_none t some e ∙ ap upto z)) more

  opens : (t : ℕ) → has ws t ≡ true → Ready (Some t) (t + 1)
  opens t e =
      let some : 1 ≤ t = grind (arith, nat_tests) in
      let inside : t ≤ bits = grind (arith, nat_tests) in
      let one : t + 1 - t ≡ 1 = omega arith in
      let z : t ≡ t + 1 - 1 = omega arith in
      (some, omega arith, omega arith, ap (with_bits (upto (t - 1)) t) one ∙ bits_one (upto (t - 1)) t ∙ read_one t e ∙ ap upto z)

  goes_on : (first t : ℕ) → has ws t ≡ true → Ready (Some first) t → Ready (Some first) (t + 1)
  goes_on first t e ready =
      let below = ready.1 in
      let inside : t ≤ bits = grind (arith, nat_tests) in
      let one : t + 1 - first ≡ suc (t - first) = omega arith in
      let last : first + (t - first) ≡ t = omega arith in
      let z : t ≡ t + 1 - 1 = omega arith in
      (ready.0, omega arith, omega arith, ap (with_bits (upto (first - 1)) first) one ∙ bits_last (upto (first - 1)) first (t - first) ∙ ap₂ with_bit ready.3 last ∙ read_one t e ∙ ap upto z)

  closes : (first t : ℕ) (rs : List (ℕ × ℕ)) → Ready (Some first) t → Goes (upto (t - 1)) rs → Goes (upto (first - 1)) ((first, t - 1) ∷ rs)
  closes first t rs ready more =
      let below = ready.1 in let top = ready.2 in
      let small : Small (first, t - 1) = (ready.0, omega arith, omega arith) in
      let n : t - 1 + 1 - first ≡ t - first = omega arith in
      let made = ap (with_bits (upto (first - 1)) first) n ∙ ready.3 in
      let before : Detached = record { words = upto (first - 1) } in
      let after : Detached = record { words = upto (t - 1) } in
      let added : with_detached before (range_text (first, t - 1)) ≡ Some after = range_added before first (t - 1) small ∙ ap (λ l. Some (record { words = l })) made in
      ((small, more.0), ap (λ o. and_then o (λ d. gathered with_detached d (map range_text rs))) {x = with_detached before (range_text (first, t - 1))} {y = Some after} added ∙ more.1)

  all_go : (n : ℕ) (run : Option ℕ) (t : ℕ) → 1 ≤ t → t + n ≡ bits + 2 → Ready run t → Goes (start run t) (ranges_from ws run t n)
  unfolding ranges_from
  all_go zero None t some end ready = (tt, ap (λ l. Some (record { words = l })) (upto_all (t - 1) (omega arith)))
  all_go zero (Some first) t some end ready = absurd (omega (arith, ready.2))
  all_go (suc n) None t some end ready =
      cond_both (has ws t) (ranges_from ws (Some t) (t + 1) n) (ranges_from ws None (t + 1) n) (Goes (upto (t - 1)))
      (λ e. all_go n (Some t) (t + 1) (omega arith) (omega arith) (opens t e))
      (λ e. waits t (ranges_from ws None (t + 1) n) some e (all_go n None (t + 1) (omega arith) (omega arith) tt))
  all_go (suc n) (Some first) t some end ready =
      cond_both (has ws t) (ranges_from ws (Some first) (t + 1) n) ((first, t - 1) ∷ ranges_from ws None (t + 1) n) (Goes (upto (first - 1)))
      (λ e. all_go n (Some first) (t + 1) (omega arith) (omega arith) (goes_on first t e ready))
      (λ e. closes first t (ranges_from ws None (t + 1) n) ready (waits t (ranges_from ws None (t + 1) n) some e (all_go n None (t + 1) (omega arith) (omega arith) tt)))

  abbrev ranges : List (ℕ × ℕ)
  ranges = ranges_from ws None 1 (bits + 1)

  all_ranges : Goes (upto 0) ranges
  all_ranges = all_go (bits + 1) None 1 (omega arith) refl tt

  begin : no_words ≡ upto 0
  unfolding no_words
  begin = sym (low_none ws ∙ ap (λ n. replicate n 0) long)

  pub detached_lacks : lacks 32 (detached_text ws) ≡ true
  detached_lacks = list_plain (map range_text ranges) (ranges_plain ranges all_ranges.0)

  pub detached_listed : listed with_detached no_detached (detached_text ws) ≡ Some (record { words = ws })
  detached_listed =
      listed_back with_detached no_detached (map range_text ranges) (ranges_plain ranges all_ranges.0)
      ∙ ap (λ l. gathered with_detached (record { words = l }) (map range_text ranges)) begin
      ∙ all_ranges.1
