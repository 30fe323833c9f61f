-- The unbroken run: there is one, and only one; and the run that bits make.
use Rattle.std.proofs.Common.{◌≡◌, ℕ, zero, suc, ◌+◌, ◌-◌, ◌*◌, ◌/◌, ◌%◌, ◌^◌, ◌<◌, ◌≤◌, min, Bool, true, false, ◌&&◌, eqb, leb, List, get_or, sym, refl, ap, ◌∙◌, subst, ap₂, ⊎_elim, w64, arith}
use Rattle.std.proofs.lemmas.Bool.{cases_lt, cases_eq, cases_Bool, and_parts, and_from, both_ways, le-leb, lt-leb, cond_both}
use Rattle.std.proofs.lemmas.Bool.Decides.{nat_tests}
use Rattle.std.proofs.lemmas.Nat.Bits.{bit_at_ones, bit_at-trailing_ones}
use Rattle.std.specs.Int.{trailing_ones}
use Rattle.schedule.specs.Group.{timestamp_fits}
use Rattle.promise_words.specs.Timestamps.{bit_at, has}
use Rattle.promise_words.specs.Runs.{all_in, RunTo, run_past, unbroken}

all_has : (ws : List ℕ) (s t : ℕ) → all_in ws s ≡ true → t < s → has ws (suc t) ≡ true
all_has ws zero t e l = absurd (omega arith)
all_has ws (suc s) t e l =
    let both = and_parts (all_in ws s) (has ws (suc s)) e in
    ⊎_elim (λ (q : t ≡ s). ap (λ (x : ℕ). has ws (suc x)) q ∙ both.1) (λ (n : t ≡ s → ⊥). all_has ws s t both.0 (omega arith)) (cases_eq t s)

all_down : (ws : List ℕ) (s u : ℕ) → all_in ws s ≡ true → u ≤ s → all_in ws u ≡ true
all_down ws s zero e l = refl
all_down ws s (suc u) e l = and_from (all_in ws u) (has ws (suc u)) (all_down ws s u e (omega arith)) (all_has ws s u e l)

-- all of 1 to u are in exactly if the run goes so far
pub all_in_run : (ws : List ℕ) (s u : ℕ) → RunTo ws s → all_in ws u ≡ leb u s
all_in_run ws s u run =
    ⊎_elim
    (λ (l : s < u).
    ⊎_elim
    (λ (e : all_in ws u ≡ true). absurd (both_ways (has ws (suc s)) run.ends (all_has ws u s e l)))
    (λ (e : all_in ws u ≡ false). e ∙ sym (lt-leb u s l))
    (cases_Bool (all_in ws u)))
    (λ (l : u ≤ s). all_down ws s u run.whole l ∙ sym (le-leb u s l))
    (cases_lt s u)

one_run : (ws : List ℕ) (a b : ℕ) → RunTo ws a → RunTo ws b → b ≤ a
one_run ws a b r q =
    ⊎_elim (λ (l : a < b). absurd (both_ways (has ws (suc a)) r.ends (all_has ws b a q.whole l))) (λ (l : b ≤ a). l) (cases_lt a b)

run_on : (ws : List ℕ) (n s : ℕ) → s + n ≡ 1568 → all_in ws s ≡ true → RunTo ws (run_past ws s n)
unfolding run_past
run_on ws zero s e all = record { whole = all; ends = grind (arith, nat_tests) }
run_on ws (suc n) s e all =
    cond_both (has ws (suc s)) (run_past ws (suc s) n) s (RunTo ws)
    (λ h. run_on ws n (suc s) (omega arith) (and_from (all_in ws s) (has ws (suc s)) all h))
    (λ h. record { whole = all; ends = h })

pub run_of : (ws : List ℕ) → RunTo ws (unbroken ws)
unfolding unbroken
run_of ws = run_on ws 1568 0 refl refl

pub is_unbroken : (ws : List ℕ) (s : ℕ) → RunTo ws s → s ≡ unbroken ws
is_unbroken ws s run =
    let a = one_run ws s (unbroken ws) run (run_of ws) in
    let b = one_run ws (unbroken ws) s (run_of ws) run in
    omega arith

has_next : (ws : List ℕ) (s : ℕ) (b : Bool) → timestamp_fits (suc s) && eqb (bit_at ws s) 1 ≡ b → has ws (suc s) ≡ b
has_next ws s b e = let q : suc s - 1 ≡ s = omega arith in subst (λ (x : ℕ). timestamp_fits (suc s) && eqb (bit_at ws x) 1 ≡ b) (sym q) e

all_bits : (ws : List ℕ) (n s : ℕ) → ((p : ℕ) → p < n → bit_at ws p ≡ 1) → s ≤ n → s ≤ 1568 → all_in ws s ≡ true
all_bits ws n zero bits l h = refl
all_bits ws n (suc s) bits l h =
    let one = bits s l in
    and_from (all_in ws s) (has ws (suc s)) (all_bits ws n s bits (omega arith) (omega arith)) (has_next ws s true (grind (arith, nat_tests)))

-- the n lowest bits are ones and the next is not, or is past the last timestamp
pub run_from_bits : (ws : List ℕ) (n : ℕ) → ((p : ℕ) → p < n → bit_at ws p ≡ 1) → (n < 1568 → bit_at ws n ≡ 0) → RunTo ws (min n 1568)
run_from_bits ws n bits stop =
    record {
      whole = all_bits ws n (min n 1568) bits (omega arith) (omega arith);
      ends =
          ⊎_elim
          (λ (l : n < 1568).
          let q : min n 1568 ≡ n = omega arith in
          let z = stop l in
          ap (λ (x : ℕ). has ws (suc x)) q ∙ has_next ws n false (grind (arith, nat_tests)))
          (λ (l : 1568 ≤ n). let q : min n 1568 ≡ 1568 = omega arith in ap (λ (x : ℕ). has ws (suc x)) q ∙ refl)
          (cases_lt n 1568);
    }

at_place : (ws : List ℕ) (i j p : ℕ) → j < 64 → p ≡ 64 * i + j → bit_at ws p ≡ get_or ws i 0 / 2 ^ j % 2
at_place ws i j p l e =
    let a : p / 64 ≡ i = omega arith in
    let b : p % 64 ≡ j = omega arith in
    ap₂ (λ (x y : ℕ). get_or ws x 0 / 2 ^ y % 2) a b

full_bits : (ws : List ℕ) (i : ℕ) → ((k : ℕ) → k < i → get_or ws k 0 ≡ 2 ^ 64 - 1) → (p : ℕ) → p < 64 * i → bit_at ws p ≡ 1
full_bits ws i full p l = ap (λ (w : ℕ). w / 2 ^ (p % 64) % 2) (full (p / 64) (omega arith)) ∙ bit_at_ones 64 (p % 64) (omega arith)

-- the words before word i are full, and it is not
pub run_at : (ws : List ℕ) (i n : ℕ) → ((k : ℕ) → k < i → get_or ws k 0 ≡ 2 ^ 64 - 1) → get_or ws i 0 + 1 < 2 ^ 64 → n ≡ trailing_ones w64 (get_or ws i 0) → RunTo ws (min (64 * i + n) 1568)
run_at ws i n full below e =
    let ends = bit_at-trailing_ones w64 (get_or ws i 0) below in
    let m : ℕ = trailing_ones w64 (get_or ws i 0) in
    let bits : (p : ℕ) → p < 64 * i + m → bit_at ws p ≡ 1 =
    λ p h.
    ⊎_elim (λ (b : p < 64 * i). full_bits ws i full p b)
    (λ (b : 64 * i ≤ p). at_place ws i (p - 64 * i) p (omega (arith, ends.0)) (omega arith) ∙ ends.2 (p - 64 * i) (omega arith))
    (cases_lt p (64 * i)) in
    subst (λ (x : ℕ). RunTo ws (min (64 * i + x) 1568)) (sym e)
    (run_from_bits ws (64 * i + m) bits (λ _. at_place ws i m (64 * i + m) ends.0 (omega arith) ∙ ends.1))

-- all words are full
pub run_whole : (ws : List ℕ) → ((k : ℕ) → k < 25 → get_or ws k 0 ≡ 2 ^ 64 - 1) → RunTo ws 1568
run_whole ws full = run_from_bits ws 1568 (λ p l. full_bits ws 25 full p (omega arith)) (λ l. absurd (omega arith))
