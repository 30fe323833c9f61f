-- Numbers in decimal: one text for each.
use Rattle.std.specs.Prelude.{ℕ, ◌+◌, ◌-◌, ◌*◌, ◌^◌, Bool, cond, not, ◌&&◌, List, [], ◌∷◌, length, Some, None, Option, ◌==◌, nat_lt, slice_index}
use Rattle.std.specs.Str.{all_ascii_digits}

-- the number that digits write, after n
abbrev pub read_on : ℕ → List ℕ → ℕ
read_on n [] = n
read_on n (c ∷ cs) = read_on (10 * n + (c - 48)) cs

-- digits alone, at least one, and no zero in front of others
abbrev pub plain : List ℕ → Bool
plain ds = nat_lt 0 (length ds) && not (slice_index ds 0 == 48 && nat_lt 1 (length ds)) && all_ascii_digits ds

-- the number that a text stands for, where it is below 2^32
abbrev pub number : List ℕ → Option ℕ
number ds = cond (plain ds && nat_lt (read_on 0 ds) (2 ^ 32)) (Some (read_on 0 ds)) None
