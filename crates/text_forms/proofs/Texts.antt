-- Texts that are told apart.
use Rattle.std.proofs.Common.{◌≡◌, ℕ, Bool, true, false, cond, List, refl, arith}
use Rattle.std.proofs.lemmas.Slice.Eq.{bytes_eq-Decides}
use Rattle.std.specs.Str.{bytes_eq}

by_test : {A : Type 0} (b : Bool) {P : Type 0} (x : A) {z y : A} → (b ≡ true → P) → (P → ⊥) → z ≡ y → z ≡ cond b x y
by_test true x h no_p e = absurd (no_p (h refl))
by_test false x h no_p e = e

pub never : false ≡ true → ⊥
never e = grind arith

-- a text that is not v is passed on
pub passed : {A : Type 0} (w v : List ℕ) (x : A) {z y : A} → (w ≡ v → ⊥) → z ≡ y → z ≡ cond (bytes_eq w v) x y
passed w v x apart e = by_test (bytes_eq w v) x (bytes_eq-Decides w v).0 apart e
