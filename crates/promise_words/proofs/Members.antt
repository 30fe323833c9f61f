-- What is in a set after each change of it.
use Rattle.std.proofs.Common.{◌≡◌, ℕ, zero, suc, ◌+◌, ◌-◌, ◌/◌, ◌%◌, ◌^◌, ◌<◌, ◌≤◌, min, max, Bool, true, false, ◌&&◌, ◌||◌, eqb, ltb, leb, List, [], ◌∷◌, length, get_or, sym, refl, ap, ◌∙◌, ap₂, ⊎_elim, arith}
use lib.Bits.{bit_or}
use Rattle.std.proofs.Math.Bool.{or-false, and-or_distrib_left}
use Rattle.std.proofs.lemmas.List.{get_or-set_same, get_or-set_other}
use Rattle.std.proofs.lemmas.Grind.{same_number_lists}
use Rattle.std.proofs.lemmas.Bool.{cases_eq, cases_Bool, cond-true, cond-false, ne_eqb}
use Rattle.std.proofs.lemmas.Bool.Decides.{nat_tests}
use Rattle.schedule.specs.Group.{timestamp_fits}
use Rattle.promise_words.specs.Timestamps.{bit_at, has, among, with_bit, with_one, joined}
use Rattle.promise_words.proofs.Bits.{or_bit, pow_bit}

bit_with : (ws : List ℕ) (p q : ℕ) → p / 64 < length ws → eqb (bit_at (with_bit ws p) q) 1 ≡ (eqb (bit_at ws q) 1 || eqb q p)
bit_with ws p q h =
    ⊎_elim
    (λ (e : q / 64 ≡ p / 64).
    let w : ℕ = get_or ws (p / 64) 0 in
    let v : ℕ = bit_or w (2 ^ (p % 64)) in
    let here : get_or (with_bit ws p) (q / 64) 0 ≡ v = ap (λ (i : ℕ). get_or (with_bit ws p) i 0) e ∙ get_or-set_same ws (p / 64) v 0 h in
    let same : eqb (q % 64) (p % 64) ≡ eqb q p = grind (arith, nat_tests) in
    ap (λ (x : ℕ). eqb (x / 2 ^ (q % 64) % 2) 1) here ∙ or_bit w (2 ^ (p % 64)) (q % 64)
    ∙ ap₂ (λ (i : ℕ) (b : Bool). eqb (get_or ws i 0 / 2 ^ (q % 64) % 2) 1 || b) (sym e) (pow_bit (p % 64) (q % 64) ∙ same))
    (λ (n : q / 64 ≡ p / 64 → ⊥).
    ap (λ (x : ℕ). eqb (x / 2 ^ (q % 64) % 2) 1) (get_or-set_other ws (p / 64) (q / 64) (bit_or (get_or ws (p / 64) 0) (2 ^ (p % 64))) 0 n)
    ∙ sym (ap (λ (b : Bool). eqb (bit_at ws q) 1 || b) (ne_eqb q p (λ (e : q ≡ p). n (ap (λ (x : ℕ). x / 64) e))) ∙ or-false (eqb (bit_at ws q) 1)))
    (cases_eq (q / 64) (p / 64))

pub one_has : (ws : List ℕ) (t u : ℕ) → length ws ≡ 25 → has (with_one ws t) u ≡ (has ws u || among t t u)
one_has ws t u l =
    ⊎_elim
    (λ (e : timestamp_fits t ≡ true).
    let
    h : (t - 1) / 64 < length ws
    = grind (arith, nat_tests) in
    let b = bit_with ws (t - 1) (u - 1) h in
    ap (λ (vs : List ℕ). has vs u) (cond-true (timestamp_fits t) (with_bit ws (t - 1)) ws e) ∙ ap (λ (b : Bool). timestamp_fits u && b) b ∙ grind (arith, nat_tests))
    (λ (e : timestamp_fits t ≡ false). ap (λ (vs : List ℕ). has vs u) (cond-false (timestamp_fits t) (with_bit ws (t - 1)) ws e) ∙ grind (arith, nat_tests))
    (cases_Bool (timestamp_fits t))

-- from first up to the one before t
abbrev pub before : ℕ → ℕ → ℕ → Bool
before first t u = timestamp_fits u && leb first u && ltb u t

pub range_none : (b : Bool) (first u : ℕ) → b ≡ (b || before first first u)
range_none b first u = grind (arith, nat_tests)

pub range_more : (b : Bool) (first t u : ℕ) → first ≤ t → (b || before first t u || among t t u) ≡ (b || before first (t + 1) u)
range_more b first t u l = grind (arith, nat_tests)

pub range_all : (b : Bool) (first last t u : ℕ) → max first 1 ≤ t → t ≤ max (max first 1) (min last 1568 + 1) → min last 1568 + 1 ≤ t → (b || before (max first 1) t u) ≡ (b || among first last u)
range_all b first last t u h k l = grind (arith, nat_tests)

pub length_joined : (ws vs : List ℕ) → length (joined ws vs) ≡ length ws
length_joined [] vs = refl
length_joined (w ∷ ws) [] = refl
length_joined (w ∷ ws) (v ∷ vs) = ap suc (length_joined ws vs)

get_or_joined : (ws vs : List ℕ) (i : ℕ) → length vs ≡ length ws → get_or (joined ws vs) i 0 ≡ bit_or (get_or ws i 0) (get_or vs i 0)
get_or_joined [] [] i l = refl
get_or_joined [] (v ∷ vs) i l = absurd (omega arith)
get_or_joined (w ∷ ws) [] i l = absurd (omega arith)
get_or_joined (w ∷ ws) (v ∷ vs) zero l = refl
get_or_joined (w ∷ ws) (v ∷ vs) (suc i) l = get_or_joined ws vs i (omega arith)

-- the list that has at each place what either has there
pub is_joined : (ws vs us : List ℕ) → length us ≡ length ws → length vs ≡ length ws → ((k : ℕ) → k < length us → get_or us k 0 ≡ bit_or (get_or ws k 0) (get_or vs k 0)) → us ≡ joined ws vs
is_joined ws vs us h l each =
    same_number_lists us (joined ws vs) (h ∙ sym (length_joined ws vs)) (λ k below. each k below ∙ sym (get_or_joined ws vs k l))

pub joined_has : (ws vs : List ℕ) (u : ℕ) → length vs ≡ length ws → has (joined ws vs) u ≡ (has ws u || has vs u)
joined_has ws vs u l =
    let i : ℕ = (u - 1) / 64 in
    let k : ℕ = (u - 1) % 64 in
    let
    e : eqb (bit_at (joined ws vs) (u - 1)) 1 ≡ (eqb (bit_at ws (u - 1)) 1 || eqb (bit_at vs (u - 1)) 1)
    = ap (λ (x : ℕ). eqb (x / 2 ^ k % 2) 1) (get_or_joined ws vs i l) ∙ or_bit (get_or ws i 0) (get_or vs i 0) k in
    ap (λ (b : Bool). timestamp_fits u && b) e ∙ and-or_distrib_left (timestamp_fits u) _ _
