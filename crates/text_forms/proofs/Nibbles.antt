-- Bytes read and written one after the other.
use Rattle.std.proofs.Common.{◌≡◌, ℕ, suc, ◌+◌, ◌*◌, ◌/◌, ◌%◌, ◌<◌, ◌≤◌, Bool, true, false, ◌&&◌, eqb, ltb, List, [], ◌∷◌, ◌++◌, length, get_or, drop, is_some, Some, None, Option, sym, refl, ap, ◌∙◌, append_assoc, append-nil, arith}
use lib.Utf8.{encode}
use Rattle.std.proofs.lemmas.Str.Ascii.{encode_ascii}
use Rattle.std.proofs.lemmas.List.{at_drop_more, at_drop_all}
use Rattle.std.proofs.lemmas.Bool.Decides.{nat_tests, eqb_tells}
use Rattle.text_forms.specs.Hexadecimal.{digit_value, digit_of, byte_text, before, digit_added, bytes_after, spaced, text_from, BytesBack}

pub digit_value_small : (c d : ℕ) → digit_value c ≡ Some d → d < 16
digit_value_small c d e = grind (arith, nat_tests)

digit_small : (v : ℕ) → v < 16 → digit_of v < 128
digit_small v h = grind (arith, nat_tests)

digit_encoded : (v c : ℕ) → v < 16 → c ≡ digit_of v → encode c ≡ digit_of v ∷ []
digit_encoded v c h e = rw e (encode_ascii (digit_of v) (digit_small v h))

-- the bytes read so far, and those to come
abbrev pub onto : List ℕ → Option (List ℕ) → Option (List ℕ)
onto bs None = None
onto bs (Some cs) = Some (bs ++ cs)

pub onto_before : (bs : List ℕ) (b : ℕ) (o : Option (List ℕ)) → onto bs (before b o) ≡ onto (bs ++ b ∷ []) o
onto_before bs b None = refl
onto_before bs b (Some cs) = ap (λ l. Some l) (simp append_assoc)

pub onto_none : (o : Option (List ℕ)) → o ≡ onto [] o
onto_none None = refl
onto_none (Some cs) = refl

module _ (text items : List ℕ) (i : ℕ) (first : Option ℕ) (h : i < length text) (sofar : bytes_after None text ≡ onto items (bytes_after first (drop i text))) where
  seen : bytes_after None text ≡ onto items (bytes_after first (get_or text i 0 ∷ drop (i + 1) text))
  seen = sofar ∙ ap (onto items) (at_drop_more (bytes_after first) text i 0 h)

  pub at_space : get_or text i 0 ≡ 32 → bytes_after None text ≡ onto items (bytes_after first (drop (i + 1) text))
  at_space e = seen ∙ ap (onto items) (rw e refl)

  pub at_digit : (o : Option ℕ) → (get_or text i 0 ≡ 32 → ⊥) → o ≡ digit_value (get_or text i 0) → bytes_after None text ≡ onto items (digit_added o first (bytes_after o (drop (i + 1) text)) (bytes_after None (drop (i + 1) text)))
  at_digit o apart e = seen ∙ ap (onto items) (let f = eqb_tells (get_or text i 0) 32 in grind arith)

  pub at_first : (d : ℕ) → first ≡ None → (get_or text i 0 ≡ 32 → ⊥) → Some d ≡ digit_value (get_or text i 0) → bytes_after None text ≡ onto items (bytes_after (Some d) (drop (i + 1) text))
  at_first d e apart v = at_digit (Some d) apart v ∙ ap (λ o. onto items (digit_added (Some d) o (bytes_after (Some d) (drop (i + 1) text)) (bytes_after None (drop (i + 1) text)))) e

  pub at_second : (d high : ℕ) → first ≡ Some high → (get_or text i 0 ≡ 32 → ⊥) → Some d ≡ digit_value (get_or text i 0) → bytes_after None text ≡ onto (items ++ (high * 16 + d) ∷ []) (bytes_after None (drop (i + 1) text))
  at_second d high e apart v = at_digit (Some d) apart v ∙ ap (λ o. onto items (digit_added (Some d) o (bytes_after (Some d) (drop (i + 1) text)) (bytes_after None (drop (i + 1) text)))) e ∙ onto_before items (high * 16 + d) (bytes_after None (drop (i + 1) text))

pub ended_none : (text items : List ℕ) (i : ℕ) (first : Option ℕ) → length text ≤ i → bytes_after None text ≡ onto items (bytes_after first (drop i text)) → is_some first ≡ false → Some items ≡ bytes_after None text
ended_none text items i None h sofar e = sym (sofar ∙ ap (onto items) (at_drop_all (bytes_after None) text i h) ∙ ap (λ l. Some l) (append-nil items))
ended_none text items i (Some d) h sofar e = absurd (let z : ◌≡◌ {A = Bool} true false = e in grind arith)

pub ended_some : (text items : List ℕ) (i : ℕ) (first : Option ℕ) → length text ≤ i → bytes_after None text ≡ onto items (bytes_after first (drop i text)) → is_some first ≡ true → None ≡ bytes_after None text
ended_some text items i None h sofar e = absurd (let z : ◌≡◌ {A = Bool} false true = e in grind arith)
ended_some text items i (Some d) h sofar e = sym (sofar ∙ ap (onto items) (at_drop_all (bytes_after (Some d)) text i h))

-- two digits as they are printed
pub byte_encoded : (b high low : ℕ) → b < 256 → high ≡ digit_of (b / 16) → low ≡ digit_of (b % 16) → encode high ++ encode low ≡ byte_text b
byte_encoded b high low h e f = rw (digit_encoded (b / 16) high (omega arith) e, digit_encoded (b % 16) low (omega arith) f) refl

-- hexadecimal text, read back
digit_back : (v : ℕ) → v < 16 → (eqb (digit_of v) 32 ≡ false) × (digit_value (digit_of v) ≡ Some v)
digit_back v h = (grind (arith, nat_tests), grind (arith, nat_tests))

byte_back : (b : ℕ) (rest : List ℕ) → b < 256 → bytes_after None (byte_text b ++ rest) ≡ before b (bytes_after None rest)
byte_back b rest h =
    let high = digit_back (b / 16) (omega arith) in
    let low = digit_back (b % 16) (omega arith) in
    let whole : b / 16 * 16 + b % 16 ≡ b = omega arith in
    rw (high.0, high.1, low.0, low.1) (ap (λ n. before n (bytes_after None rest)) whole)

space_back : (space : Bool) (b : ℕ) (rest : List ℕ) → bytes_after None (spaced space b ++ rest) ≡ bytes_after None (byte_text b ++ rest)
space_back true b rest = refl
space_back false b rest = refl

text_back : (i : ℕ) (bs : List ℕ) → ((k : ℕ) → get_or bs k 0 < 256) → bytes_after None (text_from i bs) ≡ Some bs
text_back i [] h = refl
text_back i (b ∷ bs) h =
    let space = ltb 0 i && eqb (i % 4) 0 in
    space_back space b (text_from (i + 1) bs) ∙ byte_back b (text_from (i + 1) bs) (h 0) ∙ ap (before b) (text_back (i + 1) bs (λ k. h (suc k)))

pub bytes_back : BytesBack
bytes_back bs h = text_back 0 bs h
