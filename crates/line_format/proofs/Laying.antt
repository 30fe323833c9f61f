-- Bytes laid into a buffer, one part after the other, and a field more.
use Rattle.std.proofs.Common.{◌≡◌, ℕ, ◌+◌, ◌*◌, ◌<◌, ◌≤◌, List, [], ◌∷◌, ◌++◌, length, get_or, take, drop, sym, ap, ◌∙◌, append_assoc, append-nil, add_assoc, mul-zero, mul-suc, arith, length-append}
use Rattle.std.proofs.lemmas.Grind.{flat_map-append}
use Rattle.std.proofs.lemmas.List.{take_at, take_more, drop_at, drop-drop, length-take-le}
use Rattle.line_format.specs.Fields.{fields}
use Rattle.line_format.specs.Writing.{Puts, laid_at}
use Rattle.line_format.specs.declared.writing.Writer.{Writer}

pub laid_next : (at : ℕ) (xs ys buffer : List ℕ) → at ≤ length buffer → laid_at (at + length xs) ys (laid_at at xs buffer) ≡ laid_at at (xs ++ ys) buffer
laid_next at xs ys buffer h =
    let front = take at buffer in
    let rest = drop (at + length xs) buffer in
    let n : length (front ++ xs) ≡ at + length xs = length-append front xs ∙ ap (λ k. k + length xs) (length-take-le at buffer h) in
    let whole : front ++ (xs ++ rest) ≡ (front ++ xs) ++ rest = sym (append_assoc front xs rest) in
    let before : take (at + length xs) (front ++ (xs ++ rest)) ≡ front ++ xs = rw whole (take_at (front ++ xs) rest (at + length xs) n) in
    let
    after : drop (at + length xs + length ys) (front ++ (xs ++ rest)) ≡ drop (length ys) rest
    = rw whole (sym (drop-drop (length ys) (at + length xs) ((front ++ xs) ++ rest)) ∙ ap (drop (length ys)) (drop_at (front ++ xs) rest (at + length xs) n)) in
    let
    last : drop (length ys) rest ≡ drop (at + length (xs ++ ys)) buffer
    = drop-drop (length ys) (at + length xs) buffer ∙ ap (λ k. drop k buffer) (add_assoc at (length xs) (length ys) ∙ ap (λ k. at + k) (sym (length-append xs ys))) in
    rw (before, after, last) (simp append_assoc)

-- a second part after a first
pub puts_then : (before mid after : Writer) (xs ys : List ℕ) → before.at ≤ length before.buffer.now → Puts before mid xs → Puts mid after ys → Puts before after (xs ++ ys)
puts_then before mid after xs ys h p q =
    let joined = laid_next before.at xs ys before.buffer.now h in
    record {
      same_buffer = q.same_buffer ∙ p.same_buffer;
      same_length = q.same_length ∙ p.same_length;
      place = simp length-append (omega arith);
      laid = q.laid ∙ rw (p.place, p.laid) joined;
    }

module _ {A : Type 0} (code : A → List ℕ) where
  pub length_fields : (size : ℕ) → ((x : A) → length (code x) ≡ size) → (xs : List A) → length (fields code xs) ≡ size * length xs
  length_fields size h [] = sym (mul-zero size)
  length_fields size h (x ∷ xs) =
      omega (arith, length-append (code x) (fields code xs), h x, length_fields size h xs, mul-suc size (length xs))

  -- the fields up to a place, and the one there
  pub fields_more : (xs : List A) (i : ℕ) (x : A) → i < length xs → x ≡ get_or xs i x → fields code (take (i + 1) xs) ≡ fields code (take i xs) ++ code x
  fields_more xs i x h e =
      ap (fields code) (take_more xs i x h) ∙ (flat_map-append code (take i xs) (get_or xs i x ∷ []) ∙ (rw (← e) (simp append-nil)))
