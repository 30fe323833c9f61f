-- Bytes that are read as a message are that message's encoding.
use Rattle.std.proofs.Common.{◌≡◌, ℕ, suc, ◌+◌, ◌*◌, Bool, true, false, cond, ◌&&◌, eqb, ltb, List, [], ◌∷◌, ◌++◌, length, take, drop, Ok, Err, Result, sym, refl, ap, ◌∙◌, subst, ap₂, append-nil, arith}
use Rattle.std.proofs.lemmas.List.{drop_all, take_at}
use Rattle.std.proofs.lemmas.Bool.Decides.{nat_tests}
use Rattle.line_format.specs.Encoding.{ints, encode}
use Rattle.line_format.specs.Fields.{int_bytes, hyper_bytes, pair_bytes, fields, int_at, hyper_at, pair_at, fields_at}
use Rattle.line_format.specs.Laws.{Bytes, OneEncoding, NeverTwo}
use Rattle.line_format.specs.Limits.{within, words}
use Rattle.line_format.specs.Reading.{no_pairs, promises_in, promises_shaped, shape, limited}
use Rattle.line_format.specs.declared.fault.LineFault.{LineFault}
use Rattle.line_format.specs.declared.fault.LineFault.TheVariants.{Malformed, OutsideLimits}
use Rattle.line_format.specs.declared.message.Message.{Message}
use Rattle.line_format.specs.declared.message.Message.TheVariants.{MPromises}
use Rattle.line_format.proofs.Rows.{row_again, int_there, hyper_there, pair_there}
use Rattle.line_format.proofs.Tables.{fields_at_none, fields_at_first, length_fields_at}

-- a case of a test, with what the test says
by_test : {P : Type 0} (b : Bool) (x y : Result Message LineFault) (m : Message) → cond b x y ≡ Ok m → (b ≡ true → x ≡ Ok m → P) → (y ≡ Ok m → P) → P
by_test true x y m e then otherwise = then refl e
by_test false x y m e then otherwise = otherwise e

both : (a b : ℕ) (c : Bool) → (eqb a b && c) ≡ true → (a ≡ b) × (c ≡ true)
both a b c h = (grind (arith, nat_tests), grind (arith, nat_tests))

limited_ok : (r f : ℕ) (o : Result Message LineFault) (m : Message) → limited r f o ≡ Ok m → o ≡ Ok m
limited_ok r f (Ok k) m e = by_test (within r f k) (Ok k) (Err OutsideLimits) m e (λ _ same. same) (λ wrong. let z : ◌≡◌ {A = ℕ} 0 1 = cc in absurd (omega arith))
limited_ok r f (Err fault) m e = let z : ◌≡◌ {A = ℕ} 0 1 = cc in absurd (omega arith)

module _ (bs : List ℕ) (fit : Bytes bs) where
  -- bytes of a type that are only ints
  typed_ints : (type n : ℕ) → int_at bs 0 ≡ type → length bs ≡ 4 * suc n → bs ≡ ints (type ∷ fields_at int_at 4 bs 4 n)
  typed_ints type n t len =
      let row = row_again int_at int_bytes 4 bs (int_there bs fit) 0 (suc n) (omega arith) in
      let none = drop_all (0 + 4 * suc n) bs (omega arith) in
      let whole : bs ≡ ints (fields_at int_at 4 bs 0 (suc n)) = row ∙ rw none (append-nil (ints (fields_at int_at 4 bs 0 (suc n)))) in
      let first = fields_at_first int_at 4 bs 0 n in
      subst (λ k. bs ≡ ints (k ∷ fields_at int_at 4 bs 4 n)) t (whole ∙ ap ints first)

  kind_case : (type n : ℕ) (k m : Message) (next : Result Message LineFault) → cond (eqb (int_at bs 0) type && eqb (length bs) n) (Ok k) next ≡ Ok m → (int_at bs 0 ≡ type → length bs ≡ n → bs ≡ encode k) → (next ≡ Ok m → bs ≡ encode m) → bs ≡ encode m
  kind_case type n k m next e here later =
      by_test (eqb (int_at bs 0) type && eqb (length bs) n) (Ok k) next m e
      (λ test same.
      let t : int_at bs 0 ≡ type = grind (arith, nat_tests) in
      let len : length bs ≡ n = grind (arith, nat_tests) in
      let is : k ≡ m = cc in
      subst (λ j. bs ≡ encode j) is (here t len))
      later

  -- the pairs of a message of promises, and nothing after them
  pairs_there : length bs ≡ 212 + 8 * int_at bs 208 → drop 212 bs ≡ fields pair_bytes (take (int_at bs 208) (promises_in bs).pairs)
  pairs_there len =
      let n = int_at bs 208 in
      let row = row_again pair_at pair_bytes 8 bs (pair_there bs fit) 212 n (omega arith) in
      let none = drop_all (212 + 8 * n) bs (omega arith) in
      let used = take_at (fields_at pair_at 8 bs 212 n) (drop n no_pairs) n (length_fields_at pair_at 8 bs 212 n) in
      row ∙ rw (none, used) (append-nil (fields pair_bytes (fields_at pair_at 8 bs 212 n)))

  promises_again : int_at bs 0 ≡ 9 → promises_shaped bs ≡ true → bs ≡ encode (MPromises (int_at bs 4) (promises_in bs))
  promises_again t shaped =
      let n = int_at bs 208 in
      let len : length bs ≡ 212 + 8 * n = grind (arith, nat_tests) in
      let
      opening : fields_at int_at 4 bs 0 2 ≡ 9 ∷ int_at bs 4 ∷ []
      = fields_at_first int_at 4 bs 0 1 ∙ ap₂ ◌∷◌ t (fields_at_first int_at 4 bs 4 0 ∙ ap (λ l. int_at bs 4 ∷ l) (fields_at_none int_at 4 bs 8)) in
      let row = row_again int_at int_bytes 4 bs (int_there bs fit) 0 2 (omega arith) ∙ ap (λ l. ints l ++ drop 8 bs) opening in
      let words_there = row_again hyper_at hyper_bytes 8 bs (hyper_there bs fit) 8 words (omega arith) in
      let count_there = int_there bs fit 208 (omega arith) in
      row ∙ ap (λ l. ints (9 ∷ int_at bs 4 ∷ []) ++ l)
      (words_there ∙ ap (λ l. fields hyper_bytes (promises_in bs).detached ++ l) (count_there ∙ ap (λ l. int_bytes n ++ l) (pairs_there len)))

  shape_again : (m : Message) → shape bs ≡ Ok m → bs ≡ encode m
  unfolding fields_at
  shape_again m e =
      by_test (ltb (length bs) 4) (Err Malformed) _ m e (λ _ wrong. let z : ◌≡◌ {A = ℕ} 0 1 = cc in absurd (omega arith))
      (λ e₁. kind_case 1 36 _ m _ e₁ (typed_ints 1 8)
      (λ e₂. kind_case 2 40 _ m _ e₂ (typed_ints 2 9)
      (λ e₃. kind_case 3 16 _ m _ e₃ (typed_ints 3 3)
      (λ e₄. kind_case 4 16 _ m _ e₄ (typed_ints 4 3)
      (λ e₅. kind_case 5 20 _ m _ e₅ (typed_ints 5 4)
      (λ e₆. kind_case 6 16 _ m _ e₆ (typed_ints 6 3)
      (λ e₇. kind_case 7 16 _ m _ e₇ (typed_ints 7 3)
      (λ e₈. kind_case 8 28 _ m _ e₈ (typed_ints 8 6)
      (λ e₉. by_test (eqb (int_at bs 0) 9 && promises_shaped bs) _ _ m e₉
      (λ test same.
      let is : MPromises (int_at bs 4) (promises_in bs) ≡ m = cc in
      subst (λ j. bs ≡ encode j) is (promises_again (both (int_at bs 0) 9 (promises_shaped bs) test).0 (both (int_at bs 0) 9 (promises_shaped bs) test).1))
      (λ wrong. let z : ◌≡◌ {A = ℕ} 0 1 = cc in absurd (omega arith)))))))))))

pub one_encoding : (r f : ℕ) → OneEncoding r f
one_encoding r f bs fit m e = shape_again bs fit m (limited_ok r f (shape bs) m e)

pub never_two : (r f : ℕ) → NeverTwo r f
never_two r f xs ys fx fy m ex ey = one_encoding r f xs fx m ex ∙ sym (one_encoding r f ys fy m ey)
