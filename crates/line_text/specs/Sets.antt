-- A set of controllers as text: its members, as 1,2,4.
use Rattle.std.specs.Prelude.{ℕ, zero, suc, ◌+◌, ◌-◌, ◌^◌, cond, ◌&&◌, List, [], ◌∷◌, map, Some, None, decimal, Option, bit_or, nat_le}
use Rattle.std.specs.Option.{option_map}
use Rattle.schedule.specs.Sets.{member}
use Rattle.schedule.specs.declared.set.ControllerSet.{ControllerSet}
use Rattle.line_text.specs.Lists.{and_then, listed, list_text}
use Rattle.text_forms.specs.Numbers.{number}

-- a set with one member more; members are 1 to 32
abbrev pub with_number : ℕ → ℕ → Option ControllerSet
with_number bits m = cond (nat_le 1 m && nat_le m 32) (Some (record { bits = bit_or bits (2 ^ (m - 1)) })) None

abbrev pub with_member : ControllerSet → List ℕ → Option ControllerSet
with_member set piece = and_then (number piece) (with_number set.bits)

abbrev pub no_members : ControllerSet
no_members = record { bits = 0 }

-- the number of a set
abbrev pub set_number : List ℕ → Option ℕ
set_number text = option_map (λ set. set.bits) (listed with_member no_members text)

-- the members among n numbers from j on
unfoldable pub members_from : ℕ → ℕ → ℕ → List ℕ
members_from bits j zero = []
members_from bits j (suc n) = cond (member bits j) (j ∷ members_from bits (j + 1) n) (members_from bits (j + 1) n)

abbrev pub set_text : ℕ → List ℕ
set_text bits = list_text (map decimal (members_from bits 1 32))
