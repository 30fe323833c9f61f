-- A field as a word: its name, `=`, and its value.
use Rattle.std.specs.Prelude.{ℕ, cond, List, ◌∷◌, ◌++◌, Some, None, Ok, Err, decimal, Option, Result}
use Rattle.std.specs.Option.{unwrap_or, option_or}
use Rattle.std.specs.Str.{bytes_eq}
use Rattle.line_format.specs.declared.limits.Field.{Field}
use Rattle.line_format.specs.declared.limits.Field.TheVariants as field
use Rattle.line_text.specs.Labels.{label, word_of, named}
use Rattle.line_text.specs.Lists.{cut}
use Rattle.text_forms.specs.Numbers.{number}
use Rattle.line_text.specs.Sets.{set_number, set_text}
use Rattle.line_text.specs.declared.fault.NotUnderstood.{NotUnderstood}
use Rattle.line_text.specs.declared.fault.NotUnderstood.TheVariants.{Expected}

-- the number that a word stands for, or that is written out; a set's members stand for its number
abbrev pub number_of : Field → List ℕ → Option ℕ
number_of field.Sender w = number w
number_of field.Id w = number w
number_of field.Department w = option_or (named field.Department w) (number w)
number_of field.Kind w = option_or (named field.Kind w) (number w)
number_of field.Hour w = number w
number_of field.Slot w = number w
number_of field.Value w = number w
number_of field.Set w = set_number w
number_of field.Timestamp w = number w
number_of field.Ballot w = number w
number_of field.Phase w = option_or (named field.Phase w) (number w)
number_of field.Accepted w = number w
number_of field.Detached w = number w
number_of field.Pairs w = number w

-- a field's number as text: a set's members, or a word where there is one, or the number
abbrev pub number_text : Field → ℕ → List ℕ
number_text field.Sender n = decimal n
number_text field.Id n = decimal n
number_text field.Department n = unwrap_or (word_of field.Department n) (decimal n)
number_text field.Kind n = unwrap_or (word_of field.Kind n) (decimal n)
number_text field.Hour n = decimal n
number_text field.Slot n = decimal n
number_text field.Value n = decimal n
number_text field.Set n = set_text n
number_text field.Timestamp n = decimal n
number_text field.Ballot n = decimal n
number_text field.Phase n = unwrap_or (word_of field.Phase n) (decimal n)
number_text field.Accepted n = decimal n
number_text field.Detached n = decimal n
number_text field.Pairs n = decimal n

-- the answer, with what it points to
abbrev pub told : {A B E : Type 0} → (A → B) → Result A E → Result B E
told f (Ok x) = Ok (f x)
told f (Err e) = Err e

-- the value in a word that should be this field
abbrev pub value_after : Field → Option (List ℕ × List ℕ) → Result (List ℕ) NotUnderstood
value_after f None = Err (Expected f)
value_after f (Some p) = cond (bytes_eq p.0 (label f)) (Ok p.1) (Err (Expected f))

abbrev pub value_in : Field → List ℕ → Result (List ℕ) NotUnderstood
value_in f word = value_after f (cut 61 word)

-- a field as a word
abbrev pub word : Field → List ℕ → List ℕ
word f value = label f ++ (61 ∷ value)
