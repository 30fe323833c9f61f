-- Sets of timestamps as words of 64 bits: bit k of word w, both from 0, is timestamp 64w + k + 1.
use Rattle.std.specs.Prelude.{ℕ, zero, suc, ◌+◌, ◌-◌, ◌/◌, ◌%◌, ◌^◌, min, max, Bool, cond, ◌&&◌, List, [], ◌∷◌, replicate, ◌==◌, bit_or, nat_le, slice_index, slice_set, Some, None, Option}
use Rattle.schedule.specs.Group.{timestamp_fits, last_timestamp}
use Rattle.line_format.specs.Limits.{words}

-- bit p, counted over all the words
abbrev pub bit_at : List ℕ → ℕ → ℕ
bit_at ws p = slice_index ws (p / 64) / 2 ^ (p % 64) % 2

abbrev pub has : List ℕ → ℕ → Bool
has ws t = timestamp_fits t && bit_at ws (t - 1) == 1

-- t is a timestamp from first to last
abbrev pub among : ℕ → ℕ → ℕ → Bool
among first last t = timestamp_fits t && nat_le first t && nat_le t last

unfoldable pub no_words : List ℕ
no_words = replicate words 0

-- the word and the bit of a timestamp
abbrev pub place : ℕ → Option (ℕ × ℕ)
place t = cond (timestamp_fits t) (Some ((t - 1) / 64, (t - 1) % 64)) None

abbrev pub with_bit : List ℕ → ℕ → List ℕ
with_bit ws p = slice_set ws (p / 64) (bit_or (slice_index ws (p / 64)) (2 ^ (p % 64)))

-- one more; a number that is no timestamp is left out
abbrev pub with_one : List ℕ → ℕ → List ℕ
with_one ws t = cond (timestamp_fits t) (with_bit ws (t - 1)) ws

-- n more: from, from + 1, ..
abbrev pub with_next : List ℕ → ℕ → ℕ → List ℕ
with_next ws from zero = ws
with_next ws from (suc n) = with_one (with_next ws from n) (from + n)

-- first to last, as far as they are timestamps
abbrev pub with_range : List ℕ → ℕ → ℕ → List ℕ
with_range ws first last = with_next ws (max first 1) (min last last_timestamp + 1 - max first 1)

-- what either has, word by word
abbrev pub joined : List ℕ → List ℕ → List ℕ
joined [] vs = []
joined (w ∷ ws) [] = w ∷ ws
joined (w ∷ ws) (v ∷ vs) = bit_or w v ∷ joined ws vs
