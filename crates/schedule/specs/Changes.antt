-- A change of the day: the numbers and names of departments and kinds, and the limits of its fields.
use Rattle.std.specs.Prelude.{ℕ, Bool, cond, ◌&&◌, List, ◌++◌, Some, None, codes, decimal, Option, ◌==◌, nat_le, nat_lt, slice_index}
use Rattle.std.specs.Str.{bytes_eq}
use Rattle.schedule.specs.declared.change.Change.{Change}
use Rattle.schedule.specs.declared.change.Department.{Department}
use Rattle.schedule.specs.declared.change.Department.TheVariants.{Sales, Programming}
use Rattle.schedule.specs.declared.change.Kind.{Kind}
use Rattle.schedule.specs.declared.change.Kind.TheVariants.{Put, Clear, Replace, Claim, Yield}
use Rattle.schedule.specs.declared.unknown.UnknownName.{UnknownName}
use Rattle.schedule.specs.declared.unknown.UnknownNumber.{UnknownNumber}

abbrev pub department_number : Department → ℕ
department_number Sales = 1
department_number Programming = 2

abbrev pub department_of : ℕ → Option Department
department_of n = cond (n == 1) (Some Sales) (cond (n == 2) (Some Programming) None)

abbrev pub kind_number : Kind → ℕ
kind_number Put = 1
kind_number Clear = 2
kind_number Replace = 3
kind_number Claim = 4
kind_number Yield = 5

abbrev pub kind_of : ℕ → Option Kind
kind_of n =
    cond (n == 1) (Some Put)
    (cond (n == 2) (Some Clear) (cond (n == 3) (Some Replace) (cond (n == 4) (Some Claim) (cond (n == 5) (Some Yield) None))))

-- names
abbrev pub department_name : Department → List ℕ
department_name Sales = codes "sales"
department_name Programming = codes "programming"

abbrev pub department_named : List ℕ → Option Department
department_named w = cond (bytes_eq w (codes "sales")) (Some Sales) (cond (bytes_eq w (codes "programming")) (Some Programming) None)

abbrev pub kind_name : Kind → List ℕ
kind_name Put = codes "put"
kind_name Clear = codes "clear"
kind_name Replace = codes "replace"
kind_name Claim = codes "claim"
kind_name Yield = codes "yield"

abbrev pub kind_named : List ℕ → Option Kind
kind_named w =
    cond (bytes_eq w (codes "put")) (Some Put)
    (cond (bytes_eq w (codes "clear")) (Some Clear)
    (cond (bytes_eq w (codes "replace")) (Some Replace)
    (cond (bytes_eq w (codes "claim")) (Some Claim) (cond (bytes_eq w (codes "yield")) (Some Yield) None))))

-- what is answered for a number that stands for nothing
abbrev pub unknown : ℕ → UnknownNumber
unknown n = record { 0 = n }

-- what is answered for a name that nothing has
abbrev pub nameless : UnknownName
nameless = record {}

-- what is said of either
abbrev pub unknown_text : ℕ → List ℕ
unknown_text n = codes "the number " ++ (decimal n ++ codes " stands for nothing")

abbrev pub nameless_text : List ℕ
nameless_text = codes "nothing has this name"

-- a change by its numbers, in the order in which they are written
abbrev pub change_by : List ℕ → Change
change_by ns =
    record { department = slice_index ns 0; kind = slice_index ns 1; hour = slice_index ns 2; slot = slice_index ns 3; value = slice_index ns 4 }

-- hours of a day and slots of an hour, both counted from 0; the greatest value
abbrev pub hours : ℕ
hours = 24

abbrev pub slots : ℕ
slots = 12

abbrev pub last_value : ℕ
last_value = 999999

abbrev pub department_fits : ℕ → Bool
department_fits d = nat_le 1 d && nat_le d 2

abbrev pub kind_fits : ℕ → Bool
kind_fits k = nat_le 1 k && nat_le k 5

abbrev pub hour_fits : ℕ → Bool
hour_fits h = nat_lt h hours

abbrev pub slot_fits : ℕ → Bool
slot_fits s = nat_lt s slots

abbrev pub value_fits : ℕ → Bool
value_fits v = nat_le v last_value

abbrev pub change_fits : Change → Bool
change_fits c =
    department_fits c.department && kind_fits c.kind && hour_fits c.hour && slot_fits c.slot && value_fits c.value
