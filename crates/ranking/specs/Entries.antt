-- Entries that may be missing.
use Rattle.std.specs.Prelude.{Bool, true, false, Some, None, Option}
use Rattle.std.specs.Option.{option_map_or}

-- a missing entry takes no part
abbrev pub some_eligible : {X : Type 0} → (X → Bool) → Option X → Bool
some_eligible eligible x = option_map_or eligible x false

-- a missing entry stands after every other
abbrev pub some_before : {X : Type 0} → (X → X → Bool) → Option X → Option X → Bool
some_before before None y = false
some_before before (Some x) None = true
some_before before (Some x) (Some y) = before x y
