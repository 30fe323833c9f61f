-- Sets of controllers as numbers: bit j − 1 stands for controller j.
use Rattle.std.specs.Prelude.{ℕ, ◌-◌, ◌/◌, ◌%◌, ◌^◌, Bool, ◌&&◌, ◌==◌, count_ones, nat_le, nat_lt}
use Rattle.schedule.specs.Group.{fast_quorum}

abbrev pub size : ℕ → ℕ
size set = count_ones set

abbrev pub member : ℕ → ℕ → Bool
member set j = nat_le 1 j && (set / 2 ^ (j - 1) % 2) == 1

-- nobody above r, as many members as a fast quorum, the home among them
abbrev pub fast_set : ℕ → ℕ → ℕ → ℕ → Bool
fast_set r f h set = nat_lt set (2 ^ r) && (size set) == fast_quorum r f && member set h
