-- The promises of a message as text: detached timestamps as ranges, and pairs.
use Rattle.std.specs.Prelude.{ℕ, zero, suc, ◌+◌, ◌-◌, ◌*◌, ◌/◌, ◌%◌, ◌^◌, min, Bool, cond, ◌&&◌, List, [], ◌∷◌, ◌++◌, map, take, replicate, Some, None, decimal, Option, ◌==◌, bit_or, nat_le, nat_lt, slice_index, slice_set}
use Rattle.std.specs.Option.{option_map}
use Rattle.line_format.specs.Limits.{most_pairs, words}
use Rattle.line_format.specs.Reading.{no_pairs}
use Rattle.line_format.specs.declared.message.Pair.{Pair}
use Rattle.line_format.specs.declared.message.Promises.{Promises}
use Rattle.line_text.specs.Lists.{and_then, cut, list_text}
use Rattle.text_forms.specs.Numbers.{number}
use Rattle.line_text.specs.declared.promises.Detached.{Detached}
use Rattle.line_text.specs.declared.promises.Pairs.{Pairs}

-- how many timestamps the words have bits for
abbrev pub bits : ℕ
bits = 64 * words

-- whether timestamp t is among them: bit k of word w is 64w + k + 1
abbrev pub has : List ℕ → ℕ → Bool
has ws t = nat_le 1 t && nat_le t bits && slice_index ws ((t - 1) / 64) / 2 ^ ((t - 1) % 64) % 2 == 1

-- with timestamp t, and with n timestamps from t on
abbrev pub with_bit : List ℕ → ℕ → List ℕ
with_bit ws t = slice_set ws ((t - 1) / 64) (bit_or (slice_index ws ((t - 1) / 64)) (2 ^ ((t - 1) % 64)))

unfoldable pub with_bits : List ℕ → ℕ → ℕ → List ℕ
with_bits ws t zero = ws
with_bits ws t (suc n) = with_bits (with_bit ws t) (t + 1) n

abbrev pub with_range : Detached → ℕ → ℕ → Option Detached
with_range d first last =
    cond (nat_le 1 first && nat_le first last && nat_le last bits) (Some (record { words = with_bits d.words first (last + 1 - first) })) None

unfoldable pub no_words : List ℕ
no_words = replicate words 0

abbrev pub no_detached : Detached
no_detached = record { words = no_words }

-- a range is two numbers with `-` between, or one number
abbrev pub range_cut : List ℕ → Option (List ℕ × List ℕ) → Option (ℕ × ℕ)
range_cut piece None = option_map (λ only. (only, only)) (number piece)
range_cut piece (Some p) = and_then (number p.0) (λ first. option_map (λ last. (first, last)) (number p.1))

abbrev pub range_in : List ℕ → Option (ℕ × ℕ)
range_in piece = range_cut piece (cut 45 piece)

abbrev pub with_detached : Detached → List ℕ → Option Detached
with_detached d piece = and_then (range_in piece) (λ r. with_range d r.0 r.1)

-- a pair is two numbers with `:` between
abbrev pub pair_cut : Option (List ℕ × List ℕ) → Option Pair
pair_cut None = None
pair_cut (Some p) = and_then (number p.0) (λ i. option_map (λ t. record { id = i; timestamp = t }) (number p.1))

abbrev pub pair_in : List ℕ → Option Pair
pair_in piece = pair_cut (cut 58 piece)

-- with one pair more; past the last place only the count tells
abbrev pub with_next : Pairs → Pair → Pairs
with_next ps next =
    cond (nat_lt ps.count most_pairs) (record { count = ps.count + 1; pairs = slice_set ps.pairs ps.count next }) (record { count = most_pairs + 1; pairs = ps.pairs })

abbrev pub with_pair : Pairs → List ℕ → Option Pairs
with_pair ps piece = option_map (with_next ps) (pair_in piece)

abbrev pub none_yet : Pairs
none_yet = record { count = 0; pairs = no_pairs }

-- the ranges among n timestamps from t on, where a range may be open
unfoldable pub ranges_from : List ℕ → Option ℕ → ℕ → ℕ → List (ℕ × ℕ)
ranges_from ws run t zero = []
ranges_from ws None t (suc n) = cond (has ws t) (ranges_from ws (Some t) (t + 1) n) (ranges_from ws None (t + 1) n)
ranges_from ws (Some first) t (suc n) = cond (has ws t) (ranges_from ws (Some first) (t + 1) n) ((first, t - 1) ∷ ranges_from ws None (t + 1) n)

abbrev pub range_text : ℕ × ℕ → List ℕ
range_text r = cond (r.0 == r.1) (decimal r.0) (decimal r.0 ++ (45 ∷ decimal r.1))

abbrev pub detached_text : List ℕ → List ℕ
detached_text ws = list_text (map range_text (ranges_from ws None 1 (bits + 1)))

abbrev pub pair_text : Pair → List ℕ
pair_text p = decimal p.id ++ (58 ∷ decimal p.timestamp)

abbrev pub pairs_text : Promises → List ℕ
pairs_text p = list_text (map pair_text (take (min p.count most_pairs) p.pairs))
