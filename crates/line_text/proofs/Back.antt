-- A field as a word, read back: its number is the one that was shown, and its text has no space.
use Rattle.std.proofs.Common.{◌≡◌, ℕ, zero, suc, ◌^◌, ◌<◌, ◌≤◌, Bool, true, false, not, ◌&&◌, eqb, List, [], ◌∷◌, ◌++◌, length, get_or, Some, None, Ok, decimal, Option, sym, refl, ap, ◌∙◌, subst, ⊎_elim, arith}
use Rattle.std.proofs.iter.Next.{first_way}
use Rattle.std.proofs.lemmas.Fmt.{decimal_digit, decimal_nonempty, first_decimal, digits_decimal, digits_value-decimal}
use Rattle.std.proofs.lemmas.Slice.Eq.{bytes_eq-Decides}
use Rattle.std.proofs.lemmas.Bool.{cases_lt}
use Rattle.std.proofs.lemmas.Bool.Decides.{nat_tests}
use Rattle.std.specs.Fmt.{digits}
use Rattle.std.specs.Option.{ok_or}
use Rattle.std.specs.Str.{all_ascii_digits}
use Rattle.schedule.specs.Changes.{department_fits, kind_fits}
use Rattle.line_format.specs.Limits.{phase_fits}
use Rattle.line_format.specs.declared.limits.Field.{Field}
use Rattle.line_format.specs.declared.limits.Field.TheVariants.{Sender, Id, Department, Kind, Hour, Slot, Value, Set, Timestamp, Ballot, Phase, Accepted, Detached, Pairs}
use Rattle.line_text.specs.Labels.{label}
use Rattle.text_forms.specs.Numbers.{number, read_on}
use Rattle.line_text.specs.Reading.{value_first, number_first, then}
use Rattle.line_text.specs.Sets.{set_number, set_text, members_from}
use Rattle.line_text.specs.Values.{number_of, number_text, value_after, value_in, word}
use Rattle.line_text.specs.declared.fault.NotUnderstood.TheVariants as fault
use Rattle.line_text.proofs.Cuts.{cut_at}
use Rattle.text_forms.proofs.Numerals.{own, number_of_parsed}

-- decimal numbers
lead_alone : (n : ℕ) → n < 2 ^ 64 → get_or (decimal n) 0 0 ≡ 48 → length (decimal n) ≤ 1
lead_alone zero h e = subst (λ l. length l ≤ 1) (sym (decimal_digit 0 (omega arith))) (omega arith)
lead_alone (suc n) h e = absurd (omega (arith, first_decimal (suc n) (omega arith) h))

pub number_back : (n : ℕ) → n < 2 ^ 32 → number (decimal n) ≡ Some n
number_back n h =
    let big : n < 2 ^ 64 = omega arith in
    let same = digits_value-decimal own n big in
    let low : read_on 0 (decimal n) < 2 ^ 32 = omega arith in
    sym (number_of_parsed {E = ℕ} (decimal n) (Ok (read_on 0 (decimal n))) ((digits_decimal own n big, decimal_nonempty n big, low), refl) (lead_alone n big)) ∙ ap (λ k. Some k) same

-- a text without c
abbrev pub lacks : ℕ → List ℕ → Bool
lacks c [] = true
lacks c (x ∷ xs) = not (eqb x c) && lacks c xs

pub lacks_at : (c : ℕ) (xs : List ℕ) → lacks c xs ≡ true → (k : ℕ) → k < length xs → get_or xs k 0 ≡ c → ⊥
lacks_at c [] h k lt e = omega arith
lacks_at c (x ∷ xs) h zero lt e = grind (arith, nat_tests)
lacks_at c (x ∷ xs) h (suc k) lt e = let rest : lacks c xs ≡ true = grind arith in lacks_at c xs rest k (omega arith) e

pub lacks_append : (c : ℕ) (xs ys : List ℕ) → lacks c xs ≡ true → lacks c ys ≡ true → lacks c (xs ++ ys) ≡ true
lacks_append c [] ys h g = g
lacks_append c (x ∷ xs) ys h g =
    let rest : lacks c xs ≡ true = grind arith in
    let more = lacks_append c xs ys rest g in
    grind arith

digits_lack : (c : ℕ) → all_ascii_digits (c ∷ []) ≡ false → (ds : List ℕ) → all_ascii_digits ds ≡ true → lacks c ds ≡ true
digits_lack c other [] h = refl
digits_lack c other (d ∷ ds) h =
    let rest : all_ascii_digits ds ≡ true = grind arith in
    let more = digits_lack c other ds rest in
    grind (arith, nat_tests)

pub decimal_lacks : (c : ℕ) → all_ascii_digits (c ∷ []) ≡ false → (n : ℕ) → n < 2 ^ 32 → lacks c (decimal n) ≡ true
decimal_lacks c other n h = digits_lack c other (decimal n) (digits_decimal own n (omega arith))

-- a number that is read back from a text with no space
abbrev pub Good : Field → ℕ → Type 0
Good f n = (lacks 32 (number_text f n) ≡ true) × (number_of f (number_text f n) ≡ Some n)

pub decimal_good : (n : ℕ) → n < 2 ^ 32 → (lacks 32 (decimal n) ≡ true) × (number (decimal n) ≡ Some n)
decimal_good n h = (decimal_lacks 32 refl n h, number_back n h)

pub department_good : (n : ℕ) → department_fits n ≡ true → Good Department n
department_good zero h = absurd (grind (arith, nat_tests))
department_good (suc zero) h = (refl, refl)
department_good (suc (suc zero)) h = (refl, refl)
department_good (suc (suc (suc n))) h = absurd (grind (arith, nat_tests))

pub kind_good : (n : ℕ) → kind_fits n ≡ true → Good Kind n
kind_good zero h = absurd (grind (arith, nat_tests))
kind_good (suc zero) h = (refl, refl)
kind_good (suc (suc zero)) h = (refl, refl)
kind_good (suc (suc (suc zero))) h = (refl, refl)
kind_good (suc (suc (suc (suc zero)))) h = (refl, refl)
kind_good (suc (suc (suc (suc (suc zero))))) h = (refl, refl)
kind_good (suc (suc (suc (suc (suc (suc n)))))) h = absurd (grind (arith, nat_tests))

pub phase_good : (n : ℕ) → phase_fits n ≡ true → Good Phase n
phase_good zero h = absurd (grind (arith, nat_tests))
phase_good (suc zero) h = (refl, refl)
phase_good (suc (suc zero)) h = (refl, refl)
phase_good (suc (suc (suc zero))) h = (refl, refl)
phase_good (suc (suc (suc (suc zero)))) h = (refl, refl)
phase_good (suc (suc (suc (suc (suc n))))) h = absurd (grind (arith, nat_tests))

-- the sets of a group, each tried
abbrev same : Option ℕ → ℕ → Bool
same None n = false
same (Some m) n = eqb m n

same_some : (o : Option ℕ) (n : ℕ) → same o n ≡ true → o ≡ Some n
same_some None n h = absurd (grind arith)
same_some (Some m) n h = let e : m ≡ n = grind (arith, nat_tests) in ap (λ k. Some k) e

sets_good : ℕ → Bool
sets_good zero = true
sets_good (suc n) = lacks 32 (set_text n) && same (set_number (set_text n)) n && sets_good n

all_sets : sets_good 128 ≡ true
unfolding sets_good members_from digits
all_sets = refl

three : (a b c : Bool) → a && b && c ≡ true → (a ≡ true) × (b ≡ true) × (c ≡ true)
three true true true h = (refl, refl, refl)
three false b c h = absurd (grind arith)
three true false c h = absurd (grind arith)
three true true false h = absurd (grind arith)

set_among : (k n : ℕ) → sets_good k ≡ true → n < k → (lacks 32 (set_text n) ≡ true) × (same (set_number (set_text n)) n ≡ true)
unfolding sets_good
set_among zero n h lt = absurd (omega arith)
set_among (suc k) n h lt =
    let parts = three (lacks 32 (set_text k)) (same (set_number (set_text k)) k) (sets_good k) h in
    ⊎_elim (λ less. set_among k n parts.2 less)
    (λ more. let e : k ≡ n = omega arith in subst (λ j. (lacks 32 (set_text j) ≡ true) × (same (set_number (set_text j)) j ≡ true)) e (parts.0, parts.1))
    (cases_lt n k)

pub set_good : (n : ℕ) → n < 128 → Good Set n
set_good n h = let found = set_among 128 n all_sets h in (found.0, same_some (set_number (set_text n)) n found.1)

-- names of fields have no `=` and no space
pub label_plain : (f : Field) → (lacks 61 (label f) ≡ true) × (lacks 32 (label f) ≡ true)
label_plain Sender = (refl, refl)
label_plain Id = (refl, refl)
label_plain Department = (refl, refl)
label_plain Kind = (refl, refl)
label_plain Hour = (refl, refl)
label_plain Slot = (refl, refl)
label_plain Value = (refl, refl)
label_plain Set = (refl, refl)
label_plain Timestamp = (refl, refl)
label_plain Ballot = (refl, refl)
label_plain Phase = (refl, refl)
label_plain Accepted = (refl, refl)
label_plain Detached = (refl, refl)
label_plain Pairs = (refl, refl)

value_back : (f : Field) (v : List ℕ) → value_in f (word f v) ≡ Ok v
value_back f v =
    ap (value_after f) (cut_at 61 (label f) v (lacks_at 61 (label f) (label_plain f).0))
    ∙ sym (first_way _ _ ((bytes_eq-Decides (label f) (label f)).1 refl) refl)

pub value_first_back : (f : Field) (v : List ℕ) (ws : List (List ℕ)) → value_first f (word f v ∷ ws) ≡ Ok v
unfolding value_first
value_first_back f v ws = value_back f v

pub number_first_back : (f : Field) (n : ℕ) (ws : List (List ℕ)) → Good f n → number_first f (word f (number_text f n) ∷ ws) ≡ Ok n
unfolding number_first
number_first_back f n ws g =
    ap (λ r. then r (λ v. ok_or (number_of f v) (fault.Value f))) (value_first_back f (number_text f n) ws) ∙ ap (λ o. ok_or o (fault.Value f)) g.1
