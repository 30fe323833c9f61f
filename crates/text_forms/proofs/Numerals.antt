-- What `parse` reads, and the number of a plain text.
use Rattle.std.proofs.Common.{◌≡◌, ℕ, ◌^◌, ◌<◌, ◌≤◌, true, List, [], ◌∷◌, length, get_or, Ok, Err, Result, arith, rules}
use Rattle.std.proofs.lemmas.Str.Parse.{IsNumeralModel, numerals_by_fold, parse_plain}
use Rattle.std.proofs.lemmas.Bool.Decides.{nat_tests}
use Rattle.std.specs.Result.{OkIff, result_ok}
use Rattle.std.specs.Str.{all_ascii_digits}
use Rattle.std.specs.Str.Parse.{ParsesUnsigned}
use Rattle.text_forms.specs.Numbers.{read_on, number}

pub own : IsNumeralModel (λ ds. all_ascii_digits ds ≡ true) (read_on 0)
own = numerals_by_fold _ (search rules) read_on (search rules)

pub number_of_parsed : {E : Type 0} (ds : List ℕ) (r : Result ℕ E) → OkIff r ((all_ascii_digits ds ≡ true) × (0 < length ds) × (read_on 0 ds < 2 ^ 32)) (read_on 0 ds) → (get_or ds 0 0 ≡ 48 → length ds ≤ 1) → result_ok r ≡ number ds
number_of_parsed ds (Ok x) h short = grind (arith, nat_tests)
number_of_parsed ds (Err e) h short = grind (arith, nat_tests)

-- of a text that begins with neither `+` nor a zero in front of others
pub number_of_plain : {E : Type 0} (ds : List ℕ) (r : Result ℕ E) → ParsesUnsigned 32 10 ds r → (0 < length ds → get_or ds 0 0 ≡ 43 → ⊥) → (get_or ds 0 0 ≡ 48 → length ds ≤ 1) → result_ok r ≡ number ds
number_of_plain [] r h plus short = number_of_parsed [] r (parse_plain own 32 [] r h (λ e. omega arith)) short
number_of_plain (d ∷ ds) r h plus short = number_of_parsed (d ∷ ds) r (parse_plain own 32 (d ∷ ds) r h (plus (omega arith))) short
