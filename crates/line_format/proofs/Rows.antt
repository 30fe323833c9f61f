-- Fields in a row: read from what they are written as they come back, and what they are read from is what they are written as.
use Rattle.std.proofs.Common.{◌≡◌, ℕ, zero, suc, ◌+◌, ◌*◌, ◌/◌, ◌%◌, ◌<◌, ◌≤◌, List, [], ◌∷◌, ◌++◌, length, get_or, drop, sym, refl, ap, ◌∙◌, subst, ap₂, append_assoc, add-zero, mul-zero, mul-suc, arith, length-append}
use Rattle.std.proofs.lemmas.List.{drop_more, get_or-append-add, get_or_at}
use Rattle.line_format.specs.Fields.{int_bytes, hyper_bytes, pair_bytes, fields, int_at, hyper_at, pair_at, fields_at}
use Rattle.line_format.specs.Laws.{Bytes}
use Rattle.line_format.specs.declared.message.Pair.{Pair}
use Rattle.line_format.proofs.Tables.{fields_at_none, fields_at_first}
use Rattle.line_format.proofs.Numbers.{value, int_same, int_again, hyper_same, hyper_again}

-- every field of a list fits
abbrev pub Each : {A : Type 0} → (A → Type 0) → List A → Type 0
Each P [] = Unit {0}
Each P (x ∷ xs) = P x × Each P xs

module _ {A : Type 0} (at : List ℕ → ℕ → A) (code : A → List ℕ) (size : ℕ) (Fit : A → Type 0) (long : (x : A) → length (code x) ≡ size)
    (back : (before after : List ℕ) (x : A) → Fit x → at (before ++ (code x ++ after)) (length before) ≡ x) where
  pub row_back : (before after : List ℕ) (xs : List A) → Each Fit xs → fields_at at size (before ++ (fields code xs ++ after)) (length before) (length xs) ≡ xs
  row_back before after [] h = fields_at_none at size (before ++ after) (length before)
  row_back before after (x ∷ xs) h =
      let rest = fields code xs ++ after in
      let
      whole : before ++ ((code x ++ fields code xs) ++ after) ≡ before ++ (code x ++ rest)
      = ap (λ l. before ++ l) (append_assoc (code x) (fields code xs) after) in
      let moved : before ++ (code x ++ rest) ≡ (before ++ code x) ++ rest = sym (append_assoc before (code x) rest) in
      let n : length (before ++ code x) ≡ length before + size = length-append before (code x) ∙ ap (λ k. length before + k) (long x) in
      let tail = row_back (before ++ code x) after xs h.1 in
      let
      tail' : fields_at at size (before ++ (code x ++ rest)) (length before + size) (length xs) ≡ xs
      = rw (moved, ← n) tail in
      let first = fields_at_first at size (before ++ (code x ++ rest)) (length before) (length xs) in
      let Back : List ℕ → Type 0 = λ bytes. fields_at at size bytes (length before) (length (x ∷ xs)) ≡ x ∷ xs in
      subst Back (sym whole) (first ∙ ap₂ ◌∷◌ (back before rest x h.0) tail')

module _ {A : Type 0} (at : List ℕ → ℕ → A) (code : A → List ℕ) (size : ℕ) (bytes : List ℕ)
    (again : (p : ℕ) → p + size ≤ length bytes → drop p bytes ≡ code (at bytes p) ++ drop (p + size) bytes) where
  pub row_again : (p n : ℕ) → p + size * n ≤ length bytes → drop p bytes ≡ fields code (fields_at at size bytes p n) ++ drop (p + size * n) bytes
  unfolding fields_at
  row_again p zero h = simp (mul-zero, add-zero)
  row_again p (suc n) h =
      let e : p + size + size * n ≡ p + size * suc n = omega (arith, mul-suc size n) in
      let here = again p (omega (arith, mul-suc size n)) in
      let rest = row_again (p + size) n (omega (arith, mul-suc size n)) in
      let tail : drop (p + size) bytes ≡ fields code (fields_at at size bytes (p + size) n) ++ drop (p + size * suc n) bytes = rw (← e) rest in
      here ∙ (ap (λ l. code (at bytes p) ++ l) tail ∙ sym (append_assoc (code (at bytes p)) (fields code (fields_at at size bytes (p + size) n)) (drop (p + size * suc n) bytes)))

-- four bytes in the midst of others
int_within : (before : List ℕ) (a b c d : ℕ) (after : List ℕ) → int_at (before ++ (a ∷ b ∷ c ∷ d ∷ after)) (length before) ≡ value a b c d
int_within before a b c d after =
    let l = a ∷ b ∷ c ∷ d ∷ after in
    let e₀ = get_or_at before a (b ∷ c ∷ d ∷ after) 0 (length before) refl in
    let e₁ = get_or-append-add before l 1 0 in
    let e₂ = get_or-append-add before l 2 0 in
    let e₃ = get_or-append-add before l 3 0 in
    cc

-- the same after four bytes more
int_next : (before : List ℕ) (q r s t a b c d : ℕ) (after : List ℕ) → int_at (before ++ (q ∷ r ∷ s ∷ t ∷ a ∷ b ∷ c ∷ d ∷ after)) (length before + 4) ≡ value a b c d
int_next before q r s t a b c d after =
    let front = before ++ (q ∷ r ∷ s ∷ t ∷ []) in
    let n : length front ≡ length before + 4 = length-append before (q ∷ r ∷ s ∷ t ∷ []) in
    let moved : front ++ (a ∷ b ∷ c ∷ d ∷ after) ≡ before ++ (q ∷ r ∷ s ∷ t ∷ a ∷ b ∷ c ∷ d ∷ after) = append_assoc before (q ∷ r ∷ s ∷ t ∷ []) (a ∷ b ∷ c ∷ d ∷ after) in
    rw (← n, ← moved) (int_within front a b c d after)

abbrev pub Int : ℕ → Type 0
Int n = n < 4294967296

abbrev pub Hyper : ℕ → Type 0
Hyper n = n < 18446744073709551616

abbrev pub IntPair : Pair → Type 0
IntPair p = Int p.id × Int p.timestamp

pub int_back : (before after : List ℕ) (n : ℕ) → Int n → int_at (before ++ (int_bytes n ++ after)) (length before) ≡ n
int_back before after n h = int_within before _ _ _ _ after ∙ int_same n h

pub hyper_back : (before after : List ℕ) (n : ℕ) → Hyper n → hyper_at (before ++ (hyper_bytes n ++ after)) (length before) ≡ n
hyper_back before after n h =
    let high = int_within before (n / 72057594037927936 % 256) (n / 281474976710656 % 256) (n / 1099511627776 % 256) (n / 4294967296 % 256) (int_bytes n ++ after) in
    let low = int_next before (n / 72057594037927936 % 256) (n / 281474976710656 % 256) (n / 1099511627776 % 256) (n / 4294967296 % 256) (n / 16777216 % 256) (n / 65536 % 256) (n / 256 % 256) (n % 256) after in
    ap₂ (λ x y. x * 4294967296 + y) high low ∙ hyper_same n h

pub pair_back : (before after : List ℕ) (p : Pair) → IntPair p → pair_at (before ++ (pair_bytes p ++ after)) (length before) ≡ p
pair_back before after p h =
    let first = int_back before (int_bytes p.timestamp ++ after) p.id h.0 in
    let second = int_next before _ _ _ _ _ _ _ _ after ∙ int_same p.timestamp h.1 in
    ap₂ (λ x y. record { id = x; timestamp = y }) first second

module _ (bytes : List ℕ) (fit : Bytes bytes) where
  int_fits : (p : ℕ) → Int (int_at bytes p)
  int_fits p = omega (arith, fit p, fit (p + 1), fit (p + 2), fit (p + 3))

  pub int_there : (p : ℕ) → p + 4 ≤ length bytes → drop p bytes ≡ int_bytes (int_at bytes p) ++ drop (p + 4) bytes
  int_there p h =
      let d₀ = drop_more bytes p 0 (omega arith) in
      let d₁ = drop_more bytes (p + 1) 0 (omega arith) in
      let d₂ = drop_more bytes (p + 2) 0 (omega arith) in
      let d₃ = drop_more bytes (p + 3) 0 (omega arith) in
      let n₂ : p + 1 + 1 ≡ p + 2 = omega arith in
      let n₃ : p + 2 + 1 ≡ p + 3 = omega arith in
      let n₄ : p + 3 + 1 ≡ p + 4 = omega arith in
      let same = int_again (get_or bytes p 0) (get_or bytes (p + 1) 0) (get_or bytes (p + 2) 0) (get_or bytes (p + 3) 0) (fit p) (fit (p + 1)) (fit (p + 2)) (fit (p + 3)) in
      let
      four : drop p bytes ≡ get_or bytes p 0 ∷ get_or bytes (p + 1) 0 ∷ get_or bytes (p + 2) 0 ∷ get_or bytes (p + 3) 0 ∷ drop (p + 4) bytes
      = cc in
      four ∙ sym (ap (λ l. l ++ drop (p + 4) bytes) same)

  two_ints : (p : ℕ) → p + 8 ≤ length bytes → drop p bytes ≡ (int_bytes (int_at bytes p) ++ int_bytes (int_at bytes (p + 4))) ++ drop (p + 8) bytes
  two_ints p h =
      let n : p + 4 + 4 ≡ p + 8 = omega arith in
      let next : drop (p + 4) bytes ≡ int_bytes (int_at bytes (p + 4)) ++ drop (p + 8) bytes = rw (← n) (int_there (p + 4) (omega arith)) in
      int_there p (omega arith) ∙ ap (λ l. int_bytes (int_at bytes p) ++ l) next

  pub hyper_there : (p : ℕ) → p + 8 ≤ length bytes → drop p bytes ≡ hyper_bytes (hyper_at bytes p) ++ drop (p + 8) bytes
  hyper_there p h =
      two_ints p h ∙ sym (ap (λ l. l ++ drop (p + 8) bytes) (hyper_again (int_at bytes p) (int_at bytes (p + 4)) (int_fits p) (int_fits (p + 4))))

  pub pair_there : (p : ℕ) → p + 8 ≤ length bytes → drop p bytes ≡ pair_bytes (pair_at bytes p) ++ drop (p + 8) bytes
  pair_there p h = two_ints p h
