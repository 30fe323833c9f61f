-- Words that differ from a text, and words that write a number.
use Rattle.std.proofs.Common.{◌≡◌, ℕ, ◌^◌, ◌<◌, Bool, true, false, cond, ◌&&◌, ltb, List, [], ◌∷◌, Some, None, Ok, Err, Decides, Option, Result, refl, ap, arith}
use Rattle.std.proofs.lemmas.Slice.Eq.{bytes_eq-Decides}
use Rattle.std.proofs.lemmas.Str.Parse.{IsNumeralModel, numerals_by_value, tells_all_ascii_digits}
use Rattle.std.proofs.lemmas.Bool.{false≢true, lt-ltb, ltb-true}
use Rattle.std.specs.Result.{OkIff, result_ok}
use Rattle.std.specs.Str.Parse.{IsNumeral, ParsesUnsigned, without_leading_plus, digits_value}
use Rattle.std.specs.Str.{bytes_eq, all_ascii_digits}
use Rattle.plans.specs.Lines.{some_digits, number_of}

pub differs : (w t : List ℕ) → (w ≡ t → ⊥) → bytes_eq w t ≡ false
differs w t apart = by (bytes_eq w t) (bytes_eq-Decides w t)
  where
    by : (b : Bool) → Decides b (w ≡ t) → b ≡ false
    by true d = absurd (apart (d.0 refl))
    by false d = refl

own : IsNumeralModel (λ ds. all_ascii_digits ds ≡ true) (digits_value 10)
own = numerals_by_value _ tells_all_ascii_digits

numeral_of : (ds : List ℕ) → some_digits ds ≡ true → IsNumeral 10 ds
numeral_of [] e = absurd (false≢true e)
numeral_of (c ∷ cs) e = (omega arith, own.to (c ∷ cs) e)

digits_of : (ds : List ℕ) → IsNumeral 10 ds → some_digits ds ≡ true
digits_of [] numeral = absurd (omega (arith, numeral.0))
digits_of (c ∷ cs) numeral = own.from (c ∷ cs) numeral.1

read_so : {E : Type 0} (ds : List ℕ) (r : Result ℕ E) → OkIff r (IsNumeral 10 ds × (digits_value 10 ds < 2 ^ 32)) (digits_value 10 ds) → result_ok r ≡ cond (some_digits ds && ltb (digits_value 10 ds) (2 ^ 32)) (Some (digits_value 10 ds)) None
read_so ds (Ok x) read =
    let d : some_digits ds ≡ true = digits_of ds read.0.0 in
    let f : ltb (digits_value 10 ds) (2 ^ 32) ≡ true = lt-ltb _ _ read.0.1 in
    rw (d, f) (ap Some read.1)
read_so ds (Err e) read = by (some_digits ds) refl (ltb (digits_value 10 ds) (2 ^ 32)) refl
  where
    by : (a : Bool) → some_digits ds ≡ a → (b : Bool) → ltb (digits_value 10 ds) (2 ^ 32) ≡ b → ◌≡◌ {A = Option ℕ} None (cond (a && b) (Some (digits_value 10 ds)) None)
    by true p true q = absurd (read (numeral_of ds p, ltb-true _ _ q))
    by true p false q = refl
    by false p b q = refl

pub reads : {E : Type 0} (w : List ℕ) (r : Result ℕ E) → ParsesUnsigned 32 10 w r → result_ok r ≡ number_of w
reads w r read = read_so (without_leading_plus w) r read
