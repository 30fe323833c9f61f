-- Bytes in hexadecimal.
use Rattle.std.specs.Prelude.{◌≡◌, ℕ, ◌+◌, ◌-◌, ◌*◌, ◌/◌, ◌%◌, ◌<◌, Bool, true, cond, ◌&&◌, ◌||◌, List, [], ◌∷◌, ◌++◌, is_some, Some, None, Option, ◌==◌, nat_le, nat_lt, slice_index}

-- the value of a digit, in small or capital letters
abbrev pub digit_value : ℕ → Option ℕ
digit_value c =
    cond (nat_le 48 c && nat_le c 57) (Some (c - 48))
    (cond (nat_le 97 c && nat_le c 102) (Some (c - 97 + 10)) (cond (nat_le 65 c && nat_le c 70) (Some (c - 65 + 10)) None))

-- digits and spaces alone
abbrev pub hexadecimal : List ℕ → Bool
hexadecimal [] = true
hexadecimal (c ∷ cs) = (c == 32 || is_some (digit_value c)) && hexadecimal cs

abbrev pub before : ℕ → Option (List ℕ) → Option (List ℕ)
before b None = None
before b (Some bs) = Some (b ∷ bs)

-- what a digit adds: it waits for its second, or makes a byte with its first
abbrev pub digit_added : Option ℕ → Option ℕ → Option (List ℕ) → Option (List ℕ) → Option (List ℕ)
digit_added None first waits made = None
digit_added (Some d) None waits made = waits
digit_added (Some d) (Some high) waits made = before (high * 16 + d) made

-- the bytes of the digits, two for each, after a first digit that waits for its second; spaces are left out
abbrev pub bytes_after : Option ℕ → List ℕ → Option (List ℕ)
bytes_after None [] = Some []
bytes_after (Some high) [] = None
bytes_after first (c ∷ cs) =
    cond (c == 32) (bytes_after first cs)
    (digit_added (digit_value c) first (bytes_after (digit_value c) cs) (bytes_after None cs))

-- the bytes that a text stands for
abbrev pub bytes_of : List ℕ → Option (List ℕ)
bytes_of text = bytes_after None text

-- the digit of a value below 16
abbrev pub digit_of : ℕ → ℕ
digit_of v = cond (nat_lt v 10) (48 + v) (87 + v)

abbrev pub byte_text : ℕ → List ℕ
byte_text b = digit_of (b / 16) ∷ digit_of (b % 16) ∷ []

-- a byte, after a space where there is one
abbrev pub spaced : Bool → ℕ → List ℕ
spaced space b = cond space (32 ∷ []) [] ++ byte_text b

-- bytes from the i-th on: a space before every fourth but the first
abbrev pub text_from : ℕ → List ℕ → List ℕ
text_from i [] = []
text_from i (b ∷ bs) = spaced (nat_lt 0 i && i % 4 == 0) b ++ text_from (i + 1) bs

-- groups of four bytes with a space between
abbrev pub bytes_text : List ℕ → List ℕ
bytes_text bs = text_from 0 bs

-- the text of bytes, read back, is the bytes
abbrev pub BytesBack : Type 0
BytesBack = (bs : List ℕ) → ((k : ℕ) → slice_index bs k < 256) → bytes_of (bytes_text bs) ≡ Some bs
