-- No controller past the 32 bits of a set's number is a member.
use Rattle.std.proofs.Common.{◌≡◌, ℕ, ◌-◌, ◌/◌, ◌^◌, ◌<◌, ◌≤◌, false, lt_of_lt_of_le, arith, pow_mono}
use native.Mathlib.Nat.{div-eq_of_lt}
use Rattle.std.proofs.lemmas.Bool.Decides.{nat_tests}
use Rattle.schedule.specs.Sets.{member}

pub beyond : (set j : ℕ) → set < 2 ^ 32 → 32 < j → member set j ≡ false
beyond set j h k =
    let m : 32 ≤ j - 1 = omega arith in
    let e : set / 2 ^ (j - 1) ≡ 0 = div-eq_of_lt (lt_of_lt_of_le h (pow_mono m)) in
    grind (arith, nat_tests)
