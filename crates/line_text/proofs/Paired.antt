-- The pairs of a message of promises, read back.
use Rattle.std.proofs.Common.{◌≡◌, ℕ, ◌+◌, ◌<◌, ◌≤◌, min, true, ltb, List, [], ◌∷◌, ◌++◌, map, length, take, drop, Some, decimal, sym, refl, ap, ◌∙◌, append_assoc, append-nil, arith}
use Rattle.std.proofs.lemmas.List.{set_at, length_push, length-replicate, take-append-drop}
use Rattle.std.proofs.lemmas.Bool.{cond-true}
use Rattle.std.proofs.lemmas.Bool.Decides.{nat_tests}
use Rattle.std.specs.Option.{option_map}
use Rattle.line_format.proofs.Rows.{Each}
use Rattle.line_format.specs.Limits.{most_pairs, pairs_rise, pairs_fit}
use Rattle.line_format.specs.Reading.{no_pair, no_pairs}
use Rattle.line_format.specs.declared.message.Message.TheVariants.{MPromises}
use Rattle.line_format.specs.declared.message.Pair.{Pair}
use Rattle.line_format.specs.declared.message.Promises.{Promises}
use Rattle.line_format.specs.Laws.{Typed}
use Rattle.line_format.proofs.ReadsBack.{rising_ints, used_long, rest_zeros}
use Rattle.line_format.proofs.Rows.{IntPair}
use Rattle.line_text.specs.Lists.{and_then, gathered, listed, list_text}
use Rattle.line_text.specs.Promises.{pair_cut, pair_in, with_next, with_pair, none_yet, pair_text, pairs_text}
use Rattle.line_text.specs.declared.promises.Pairs.{Pairs}
use Rattle.line_text.proofs.Cuts.{cut_at}
use Rattle.line_text.proofs.Back.{lacks, lacks_at, decimal_lacks, number_back}
use Rattle.line_text.proofs.Listed.{Plain, plain_decimal, plain_append, list_plain, listed_back}

pair_plain : (p : Pair) → IntPair p → Plain (pair_text p)
pair_plain p h = plain_append (decimal p.id) (58 ∷ decimal p.timestamp) (plain_decimal p.id h.0) (plain_decimal p.timestamp h.1)

pairs_plain : (ps : List Pair) → Each IntPair ps → Each Plain (map pair_text ps)
pairs_plain [] h = tt
pairs_plain (p ∷ ps) h = (pair_plain p h.0, pairs_plain ps h.1)

pair_back : (p : Pair) → IntPair p → pair_in (pair_text p) ≡ Some p
pair_back p h =
    ap pair_cut (cut_at 58 (decimal p.id) (decimal p.timestamp) (lacks_at 58 (decimal p.id) (decimal_lacks 58 refl p.id h.0)))
    ∙ rw (number_back p.id h.0, number_back p.timestamp h.1) refl

-- pairs that were read, and what stands in the places after them
abbrev laid : List Pair → List Pair → Pairs
laid done rest = record { count = length done; pairs = done ++ rest }

one_laid : (done : List Pair) (x z : Pair) (rest : List Pair) → length done < most_pairs → with_next (laid done (z ∷ rest)) x ≡ laid (done ++ (x ∷ [])) rest
one_laid done x z rest few =
    let count = length_push done x in
    let places = set_at done z rest x (length done) refl ∙ sym (append_assoc done (x ∷ []) rest) in
    let inside : ltb (length done) most_pairs ≡ true = grind (arith, nat_tests) in
    cond-true _ _ _ inside ∙ (λ i. record { count = sym count i; pairs = places i })

all_laid : (xs done rest : List Pair) → Each IntPair xs → length done + length xs ≤ most_pairs → length xs ≤ length rest → gathered with_pair (laid done rest) (map pair_text xs) ≡ Some (laid (done ++ xs) (drop (length xs) rest))
all_laid [] done rest h few long = ap (λ l. Some (laid l rest)) (sym (append-nil done))
all_laid (x ∷ xs) done [] h few long = absurd (omega arith)
all_laid (x ∷ xs) done (z ∷ rest) h few long =
    let one : with_pair (laid done (z ∷ rest)) (pair_text x) ≡ Some (laid (done ++ (x ∷ [])) rest) = ap (option_map (with_next (laid done (z ∷ rest)))) (pair_back x h.0) ∙ ap (λ l. Some l) (one_laid done x z rest (omega arith)) in
    let more = all_laid xs (done ++ (x ∷ [])) rest h.1 (omega (arith, length_push done x)) (omega arith) in
    ap (λ o. and_then o (λ l. gathered with_pair l (map pair_text xs))) one ∙ more ∙ ap (λ l. Some (laid l (drop (length xs) rest))) (append_assoc done (x ∷ []) xs)

places_all : length no_pairs ≡ most_pairs
unfolding no_pairs
places_all = length-replicate most_pairs no_pair

module _ (r : ℕ) (small : r ≤ 7) (s : ℕ) (p : Promises) (ty : Typed (MPromises s p)) (h : pairs_fit r p ≡ true) where
  abbrev used : List Pair
  used = take p.count p.pairs

  ints : Each IntPair used
  ints = let rise : pairs_rise r 0 used ≡ true = grind (arith, nat_tests) in rising_ints r 0 small used rise

  few : p.count ≤ most_pairs
  few = grind (arith, nat_tests)

  all_used : take (min p.count most_pairs) p.pairs ≡ used
  all_used = let k = few in let e : min p.count most_pairs ≡ p.count = omega arith in ap (λ n. take n p.pairs) e

  pub pairs_lack : lacks 32 (pairs_text p) ≡ true
  pairs_lack = rw all_used (list_plain (map pair_text used) (pairs_plain used ints))

  pub pairs_listed : listed with_pair none_yet (pairs_text p) ≡ Some (record { count = p.count; pairs = p.pairs })
  pairs_listed =
      let count : length used ≡ p.count = used_long r small s p ty h in
      let rest = rest_zeros r small s p ty h in
      let places : used ++ drop (length used) no_pairs ≡ p.pairs = ap (λ n. used ++ drop n no_pairs) count ∙ ap (λ l. used ++ l) rest ∙ take-append-drop p.count p.pairs in
      ap (λ l. listed with_pair none_yet (list_text (map pair_text l))) all_used
      ∙ listed_back with_pair none_yet (map pair_text used) (pairs_plain used ints)
      ∙ all_laid used [] no_pairs ints (omega (arith, count, few)) (omega (arith, count, few, places_all))
      ∙ (λ i. Some (record { count = count i; pairs = places i }))
