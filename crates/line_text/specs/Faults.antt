-- Why a line is not understood, as text.
use Rattle.std.specs.Prelude.{ℕ, List, [], ◌∷◌, ◌++◌, codes}
use Rattle.line_text.specs.Labels.{label}
use Rattle.line_text.specs.declared.fault.NotUnderstood.{NotUnderstood}
use Rattle.line_text.specs.declared.fault.NotUnderstood.TheVariants.{Name, Expected, Value, Leftover}

abbrev pub not_understood_text : NotUnderstood → List ℕ
not_understood_text Name = codes "no message has this name"
not_understood_text (Expected f) = codes "expected " ++ (label f ++ (61 ∷ []))
not_understood_text (Value f) = label f ++ codes " has no such value"
not_understood_text Leftover = codes "words after the last field"
