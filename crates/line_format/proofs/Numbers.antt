-- A number as bytes, and the bytes as the number again.
use Rattle.std.proofs.Common.{◌≡◌, ℕ, ◌+◌, ◌*◌, ◌/◌, ◌%◌, ◌<◌, [], ◌∷◌, ◌++◌, ◌∙◌, mod-eq_of_lt, arith, lit<}
use native.Mathlib.Nat.{div-div-eq-div-mul}
use lib.Arith.{mod-mul, digits_div}
use Rattle.line_format.specs.Fields.{int_bytes, hyper_bytes}

-- four bytes as a number
abbrev pub value : ℕ → ℕ → ℕ → ℕ → ℕ
value a b c d = a * 16777216 + b * 65536 + c * 256 + d

low_int : (n : ℕ) → value (n / 16777216 % 256) (n / 65536 % 256) (n / 256 % 256) (n % 256) ≡ n % 4294967296
low_int n =
    omega (arith, mod-mul n {m = 256} {c = 16777216} (lit< tt) (lit< tt), mod-mul n {m = 256} {c = 65536} (lit< tt) (lit< tt), mod-mul n {m = 256} {c = 256} (lit< tt) (lit< tt))

pub int_same : (n : ℕ) → n < 4294967296 → value (n / 16777216 % 256) (n / 65536 % 256) (n / 256 % 256) (n % 256) ≡ n
int_same n h = low_int n ∙ mod-eq_of_lt h

pub int_again : (a b c d : ℕ) → a < 256 → b < 256 → c < 256 → d < 256 → int_bytes (value a b c d) ≡ a ∷ b ∷ c ∷ d ∷ []
int_again a b c d ha hb hc hd =
    let n = value a b c d in
    let e₁ : n / 16777216 % 256 ≡ a = omega arith in
    let e₂ : n / 65536 % 256 ≡ b = omega arith in
    let e₃ : n / 256 % 256 ≡ c = omega arith in
    let e₄ : n % 256 ≡ d = omega arith in
    cc

pub hyper_same : (n : ℕ) → n < 18446744073709551616 → value (n / 72057594037927936 % 256) (n / 281474976710656 % 256) (n / 1099511627776 % 256) (n / 4294967296 % 256) * 4294967296 + value (n / 16777216 % 256) (n / 65536 % 256) (n / 256 % 256) (n % 256) ≡ n
hyper_same n h =
    let m = n / 4294967296 in
    let high : m < 4294967296 = omega arith in
    let e₁ : m / 16777216 ≡ n / 72057594037927936 = div-div-eq-div-mul n 4294967296 16777216 in
    let e₂ : m / 65536 ≡ n / 281474976710656 = div-div-eq-div-mul n 4294967296 65536 in
    let e₃ : m / 256 ≡ n / 1099511627776 = div-div-eq-div-mul n 4294967296 256 in
    rw (← e₁, ← e₂, ← e₃, int_same m high, low_int n) (omega arith)

pub hyper_again : (x y : ℕ) → x < 4294967296 → y < 4294967296 → hyper_bytes (x * 4294967296 + y) ≡ int_bytes x ++ int_bytes y
hyper_again x y hx hy =
    let n = x * 4294967296 + y in
    let top : n / 4294967296 ≡ x = digits_div x hy in
    let e₁ : n / 72057594037927936 % 256 ≡ x / 16777216 % 256 = rw (← div-div-eq-div-mul n 4294967296 16777216, top) in
    let e₂ : n / 281474976710656 % 256 ≡ x / 65536 % 256 = rw (← div-div-eq-div-mul n 4294967296 65536, top) in
    let e₃ : n / 1099511627776 % 256 ≡ x / 256 % 256 = rw (← div-div-eq-div-mul n 4294967296 256, top) in
    let e₄ : n / 4294967296 % 256 ≡ x % 256 = rw top in
    let e₅ : n / 16777216 % 256 ≡ y / 16777216 % 256 = omega arith in
    let e₆ : n / 65536 % 256 ≡ y / 65536 % 256 = omega arith in
    let e₇ : n / 256 % 256 ≡ y / 256 % 256 = omega arith in
    let e₈ : n % 256 ≡ y % 256 = omega arith in
    cc
