-- The fields of a message as bytes, most significant byte first.
use Rattle.std.specs.Prelude.{ℕ, zero, suc, ◌+◌, ◌*◌, ◌/◌, ◌%◌, List, [], ◌∷◌, ◌++◌, slice_index}
use Rattle.std.specs.List.{flat_map}
use Rattle.line_format.specs.declared.message.Pair.{Pair}

-- an unsigned int: four bytes
abbrev pub int_bytes : ℕ → List ℕ
int_bytes n = (n / 16777216 % 256) ∷ (n / 65536 % 256) ∷ (n / 256 % 256) ∷ (n % 256) ∷ []

-- an unsigned hyper: eight bytes
abbrev pub hyper_bytes : ℕ → List ℕ
hyper_bytes n =
    (n / 72057594037927936 % 256) ∷ (n / 281474976710656 % 256) ∷ (n / 1099511627776 % 256) ∷ (n / 4294967296 % 256) ∷ int_bytes n

-- a pair: the number of a change, then a timestamp
abbrev pub pair_bytes : Pair → List ℕ
pair_bytes p = int_bytes p.id ++ int_bytes p.timestamp

-- fields one after the other
abbrev pub fields : {A : Type 0} → (A → List ℕ) → List A → List ℕ
fields bytes xs = flat_map bytes xs

-- the unsigned int at a place
abbrev pub int_at : List ℕ → ℕ → ℕ
int_at bytes p =
    slice_index bytes p * 16777216 + slice_index bytes (p + 1) * 65536 + slice_index bytes (p + 2) * 256 + slice_index bytes (p + 3)

-- the unsigned hyper at a place
abbrev pub hyper_at : List ℕ → ℕ → ℕ
hyper_at bytes p = int_at bytes p * 4294967296 + int_at bytes (p + 4)

abbrev pub pair_at : List ℕ → ℕ → Pair
pair_at bytes p = record { id = int_at bytes p; timestamp = int_at bytes (p + 4) }

-- n fields from a place on, each of the given size
unfoldable pub fields_at : {A : Type 0} → (List ℕ → ℕ → A) → ℕ → List ℕ → ℕ → ℕ → List A
fields_at at size bytes p zero = []
fields_at at size bytes p (suc n) = at bytes p ∷ fields_at at size bytes (p + size) n
