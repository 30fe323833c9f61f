use Rattle.std.proofs.Common.{◌≡◌, ℕ, ◌<◌, List, [], ◌∷◌, ◌++◌, length, get_or, drop, slice_index, Ok, Err, Result, sym, refl, ap, ◌∙◌, arith, rules}
use Rattle.std.proofs.Math.Seq.{get_or-append_seam}
use Rattle.std.proofs.lemmas.List.{get_or_append_left}
use Rattle.std.specs.Slice.Iter.{iter_rest}
use Rattle.line_format.specs.declared.limits.Field.TheVariants.{Timestamp}
use Rattle.line_format.specs.declared.message.Message.{Message}
use Rattle.line_format.specs.declared.message.Message.TheVariants.{MPropose}
use Rattle.line_text.specs.Reading.{texts, then, number_first, numbers_first, numbers_all, ended, entry_fields, entry_change, entry_set, propose}
use Rattle.line_text.specs.declared.fault.NotUnderstood.{NotUnderstood}
use Rattle.line_text.proofs.Taken.{drop_one, and_one, numbers_and, numbers_long}
use Rattle.line_text.proofs.reading.propose.Goals as goal

make : List ℕ → Message
make ns = MPropose (slice_index ns 0) (slice_index ns 1) (entry_change ns) (entry_set ns) (slice_index ns 8)

module _ (ws w₁ w₂ : List (List ℕ)) (a : Result (List ℕ) NotUnderstood) (t : Result ℕ NotUnderstood) where
  by_parts : w₁ ≡ drop 8 ws → w₂ ≡ drop 1 w₁ → a ≡ numbers_first entry_fields ws → t ≡ number_first Timestamp w₁ → then (then (and_one a t) (λ ns. ended w₂ ns)) (λ ns. Ok (make ns)) ≡ propose ws
  unfolding numbers_all make
  by_parts one two p q =
      let past : w₂ ≡ drop 9 ws = two ∙ ap (drop 1) one ∙ drop_one ws 8 in
      let
      whole : and_one a t ≡ numbers_first (entry_fields ++ Timestamp ∷ []) ws
      = ap (λ r. and_one r t) p ∙ ap (and_one (numbers_first entry_fields ws)) (q ∙ ap (number_first Timestamp) one) ∙ sym (numbers_and entry_fields Timestamp ws) in
      λ i. then (then (whole i) (λ ns. ended (past i) ns)) (λ ns. Ok (make ns))

made : (ns : List ℕ) (n : ℕ) → length ns ≡ 8 → MPropose (slice_index ns 0) (slice_index ns 1) (entry_change ns) (entry_set ns) n ≡ make (ns ++ n ∷ [])
unfolding make
made ns n h =
    let at : (k : ℕ) → k < 8 → slice_index ns k ≡ slice_index (ns ++ n ∷ []) k = λ k lt. sym (get_or_append_left ns (n ∷ []) 0 k (omega arith)) in
    let last : n ≡ slice_index (ns ++ n ∷ []) 8 = sym (ap (λ k. get_or (ns ++ n ∷ []) k 0) (sym h) ∙ get_or-append_seam ns n [] 0) in
    λ i. MPropose (at 0 (omega arith) i) (at 1 (omega arith) i) (record { department = at 2 (omega arith) i; kind = at 3 (omega arith) i; hour = at 4 (omega arith) i; slot = at 5 (omega arith) i; value = at 6 (omega arith) i }) (record { bits = at 7 (omega arith) i }) (last i)

over : (ws : List (List ℕ)) (ns : List ℕ) (m : Message) → Ok (tt {0}) ≡ ended ws (tt {0}) → m ≡ make ns → Ok m ≡ then (ended ws ns) (λ ns. Ok (make ns))
over [] ns m e h = ap (λ x. Ok x) h
over (w ∷ ws) ns m e h = absurd (cc)

left_over : (ws : List (List ℕ)) (ns : List ℕ) (f : NotUnderstood) → Err f ≡ ended ws (tt {0}) → Err f ≡ then (ended ws ns) (λ ns. Ok (make ns))
left_over [] ns f e = absurd (cc)
left_over (w ∷ ws) ns f e = let is : f ≡ _ = cc in ap (λ x. Err x) is

pub returns-in_err-numbers : goal.returns-in_err-numbers
returns-in_err-numbers c =
    let ws = texts (iter_rest c.args.rest.words) in
    let refused : Err c.in_err-numbers.field-0.0 ≡ propose ws =
    by_parts ws _ _ (Err c.in_err-numbers.field-0.0) _ refl refl (sym c.in_err-numbers.was ∙ c.numbers.ensures.given) refl in
    search (rules, refused)

pub returns-in_err-timestamp : goal.returns-in_err-timestamp
returns-in_err-timestamp c =
    let ws = texts (iter_rest c.args.rest.words) in
    let refused : Err c.in_err-timestamp.field-0.0 ≡ propose ws =
    by_parts ws _ _ (Ok c.in_ok-numbers.field-0) (Err c.in_err-timestamp.field-0.0) c.in_ok-numbers.ensures.left refl (sym c.in_ok-numbers.was ∙ c.numbers.ensures.given) (sym c.in_err-timestamp.was ∙ c.number.ensures.given) in
    search (rules, refused)

pub returns-in_err-end : goal.returns-in_err-end
returns-in_err-end c =
    let ws = texts (iter_rest c.args.rest.words) in
    let refused : Err c.in_err-end.field-0.0 ≡ propose ws =
    left_over (texts (iter_rest c.number.new.self.words)) _ _ (sym c.in_err-end.was ∙ c.end.ensures)
    ∙ by_parts ws _ _ (Ok c.in_ok-numbers.field-0) (Ok c.in_ok-timestamp.timestamp) c.in_ok-numbers.ensures.left c.number.ensures.left (sym c.in_ok-numbers.was ∙ c.numbers.ensures.given) (sym c.in_ok-timestamp.was ∙ c.number.ensures.given) in
    search (rules, refused)

pub returns : goal.returns
returns c =
    let ws = texts (iter_rest c.args.rest.words) in
    let ns = c.in_ok-numbers.field-0 in
    let n = c.in_ok-timestamp.timestamp in
    let given = sym c.in_ok-numbers.was ∙ c.numbers.ensures.given in
    ap (λ e. Ok (MPropose e.0 e.1 e.2 e.3 n)) c.entry-sender.ensures
    ∙ over (texts (iter_rest c.number.new.self.words)) (ns ++ n ∷ []) _ (sym c.in_ok-end.was ∙ c.end.ensures) (made ns n (numbers_long entry_fields ws ns given))
    ∙ by_parts ws _ _ (Ok ns) (Ok n) c.in_ok-numbers.ensures.left c.number.ensures.left given (sym c.in_ok-timestamp.was ∙ c.number.ensures.given)
