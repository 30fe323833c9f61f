use Rattle.std.proofs.Common.{◌≡◌, ℕ, List, [], ◌∷◌, refl, ap, ◌∙◌, ap₂}
use Rattle.promise_words.specs.Runs.{run_past, unbroken}
use Rattle.promise_words.specs.Samples.{from_one}
use Rattle.promise_words.specs.Stability.{stable_of}
use Rattle.promise_words.specs.Timestamps.{no_words, with_one}
use Rattle.promise_words.specs.declared.timestamps.Timestamps.{Timestamps}
use Rattle.promise_words.proofs.samples.sample_stable.Goals as goal

abbrev of_three : Timestamps → Timestamps → Timestamps → ℕ
of_three a b c = stable_of 3 (a ∷ b ∷ c ∷ [])

abbrev of_four : Timestamps → Timestamps → ℕ
of_four a b = stable_of 4 (a ∷ a ∷ b ∷ b ∷ [])

abbrev set_of : List ℕ → Timestamps
set_of ws = record { words = ws }

abbrev second : List ℕ → Timestamps
second ws = set_of (with_one ws 2)

three_is : of_three (second no_words) (from_one 3) (from_one 2) ≡ 2
unfolding no_words unbroken run_past
three_is = refl

four_is : of_four (from_one 3) (from_one 1) ≡ 1
unfolding no_words unbroken run_past
four_is = refl

pub returns : goal.returns
returns c =
    let two : c.insert.new.self ≡ second no_words = ap set_of c.insert.ensures.value ∙ ap second c.none-second.ensures in
    record {
      three =
          c.stable.ensures.value ∙ ap (λ (a : Timestamps). of_three a c.up_to-long.result c.up_to.result) two
          ∙ ap₂ (of_three (second no_words)) c.up_to-long.ensures c.up_to.ensures ∙ three_is;
      four = c.stable-2.ensures.value ∙ ap₂ of_four c.up_to-long.ensures c.up_to-short.ensures ∙ four_is;
    }
