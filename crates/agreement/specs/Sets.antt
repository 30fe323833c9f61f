-- Sets of controllers as truth-valued functions, how many members they have, and the quorums of a group.
use Rattle.std.specs.Prelude.{◌≡◌, Bool, true, cond, ℕ, zero, suc, ◌+◌, ◌-◌, ◌/◌, ◌%◌, ◌^◌, ◌≤◌, ◌<◌, eqb}
use Rattle.std.specs.Int.Count.{ones}

abbrev pub Set : Type 0
Set = ℕ → Bool

-- How many of the controllers 1 to n are in the set.
unfoldable pub count : Set → ℕ → ℕ
count A zero = 0
count A (suc n) = cond (A (suc n)) 1 0 + count A n

-- The set that a number stands for: its bit j − 1, the lowest being bit 0, says whether controller j is in it.
abbrev pub bits : ℕ → Set
bits s j = eqb ((s / 2 ^ (j - 1)) % 2) 1

-- A set as a number has as many members as the number has bits set.
abbrev pub BitsAreMembers : Type 0
BitsAreMembers = (s n : ℕ) → s < 2 ^ n → count (bits s) n ≡ ones s

-- Controller j is one of 1 to n, and in the set.
abbrev pub Among : ℕ → Set → ℕ → Type 0
Among n A j = (1 ≤ j) × (j ≤ n) × (A j ≡ true)

-- More than half of a group of r.
abbrev pub majority : ℕ → ℕ
majority r = r / 2 + 1

-- So many promises on the home's proposal make a timestamp.
abbrev pub fast_quorum : ℕ → ℕ → ℕ
fast_quorum r f = r / 2 + f

-- So many acceptances at one ballot commit.
abbrev pub slow_quorum : ℕ → ℕ
slow_quorum f = f + 1

-- So many replies let the owner of a ballot choose.
abbrev pub take_over_quorum : ℕ → ℕ → ℕ
take_over_quorum r f = r - f
