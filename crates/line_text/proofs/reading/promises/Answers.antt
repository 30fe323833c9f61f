use Rattle.std.proofs.Common.{◌≡◌, ℕ, List, [], ◌∷◌, drop, Ok, Err, Result, sym, refl, ap, ◌∙◌, rules}
use Rattle.std.specs.Slice.Iter.{iter_rest}
use Rattle.line_format.specs.declared.limits.Field.TheVariants.{Sender, Detached, Pairs}
use Rattle.line_format.specs.declared.message.Message.{Message}
use Rattle.line_format.specs.declared.message.Message.TheVariants.{MPromises}
use Rattle.line_text.specs.Promises.{with_detached, no_words, no_detached, with_pair, none_yet}
use Rattle.line_text.specs.Reading.{texts, then, number_first, listed_first, ended, promises}
use Rattle.line_text.specs.declared.fault.NotUnderstood.{NotUnderstood}
use Rattle.line_text.specs.declared.promises.Detached as ranges
use Rattle.line_text.specs.declared.promises.Pairs as found
use Rattle.line_text.proofs.reading.promises.Goals as goal

module _ (ws w₁ w₂ w₃ : List (List ℕ)) (s : Result ℕ NotUnderstood) (d : Result ranges.Detached NotUnderstood) (p : Result found.Pairs NotUnderstood) where
  by_parts : w₁ ≡ drop 1 ws → w₂ ≡ drop 1 w₁ → w₃ ≡ drop 1 w₂ → s ≡ number_first Sender ws → d ≡ listed_first with_detached no_detached Detached w₁ → p ≡ listed_first with_pair none_yet Pairs w₂ → then s (λ n. then d (λ a. then p (λ b. ended w₃ (MPromises n (record { detached = a.words; count = b.count; pairs = b.pairs }))))) ≡ promises ws
  by_parts one two three given ranged paired =
      let second = two ∙ ap (drop 1) one in
      let third = three ∙ ap (drop 1) second in
      let d_is = ranged ∙ ap (listed_first with_detached no_detached Detached) one in
      let p_is = paired ∙ ap (listed_first with_pair none_yet Pairs) second in
      λ i. then (given i) (λ n. then (d_is i) (λ a. then (p_is i) (λ b. ended (third i) (MPromises n (record { detached = a.words; count = b.count; pairs = b.pairs })))))

over : (ws : List (List ℕ)) (m : Message) → Ok (tt {0}) ≡ ended ws (tt {0}) → Ok m ≡ ended ws m
over [] m e = refl
over (w ∷ ws) m e = absurd (cc)

pub returns-in_err-detached : goal.returns-in_err-detached
unfolding no_words
returns-in_err-detached c =
    let ws = texts (iter_rest c.args.rest.words) in
    let refused : Err c.in_err-detached.field-0.0 ≡ promises ws =
    by_parts ws _ _ _ (Ok c.in_ok-sender.sender) (Err c.in_err-detached.field-0.0) _ c.number.ensures.left refl refl (sym c.in_ok-sender.was ∙ c.number.ensures.given) (sym c.in_err-detached.was ∙ c.list.ensures.given) refl in
    search (rules, refused)

pub returns : goal.returns
unfolding no_words
returns c =
    let ws = texts (iter_rest c.args.rest.words) in
    over (texts (iter_rest c.list-2.new.self.words)) _ (sym c.in_ok-end.was ∙ c.end.ensures)
    ∙ by_parts ws _ _ _ (Ok c.in_ok-sender.sender) (Ok c.in_ok-detached.field-0) (Ok c.in_ok-count.field-0) c.number.ensures.left c.list.ensures.left c.list-2.ensures.left (sym c.in_ok-sender.was ∙ c.number.ensures.given) (sym c.in_ok-detached.was ∙ c.list.ensures.given) (sym c.in_ok-count.was ∙ c.list-2.ensures.given ∙ ap (λ z. listed_first with_pair z Pairs (texts (iter_rest c.list.new.self.words))) c.none.ensures)
