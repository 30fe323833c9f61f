-- Timestamps set one after the other.
use Rattle.std.proofs.Common.{◌≡◌, ℕ, suc, ◌+◌, ◌-◌, ◌≤◌, List, refl, arith}
use Rattle.line_text.specs.Promises.{with_bit, with_bits}

pub with_bits_next : (ws : List ℕ) (t last : ℕ) → t ≤ last → with_bits ws t (last + 1 - t) ≡ with_bits (with_bit ws t) (t + 1) (last + 1 - (t + 1))
unfolding with_bits
with_bits_next ws t last h = let e : last + 1 - t ≡ suc (last + 1 - (t + 1)) = omega arith in rw e refl

pub with_bits_done : (ws : List ℕ) (t last : ℕ) → last + 1 ≤ t → with_bits ws t (last + 1 - t) ≡ ws
unfolding with_bits
with_bits_done ws t last h = let e : last + 1 - t ≡ 0 = omega arith in rw e refl
