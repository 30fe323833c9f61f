use Rattle.std.proofs.Common.{◌≡◌, ℕ, List, get_or, ap, ◌∙◌, rules, arith}
use lib.Bits.{bit_or}
use Rattle.promise_words.specs.Timestamps.{has, joined}
use Rattle.line_format.proofs.Made.{made_from}
use Rattle.promise_words.proofs.Members.{is_joined, joined_has}
use Rattle.promise_words.proofs.timestamps.Timestamps.join.Goals as goal

pub returns : goal.returns
returns c =
    let ws = c.args.self.now.words in
    let vs = c.args.other.now.words in
    let made = c.from_fn-self.ensures.items in
    let e : c.from_fn-self.result ≡ joined ws vs =
    is_joined ws vs c.from_fn-self.result (omega (arith, made.long)) (omega arith)
    (λ k l. made_from _ _ (λ k. bit_or (get_or ws k 0) (get_or vs k 0)) (λ k y q e. search rules) _ 25 0 made.each k 0 (omega arith) (omega (arith, made.long))) in
    record { value = e; members = λ u. ap (λ (l : List ℕ). has l u) e ∙ joined_has ws vs u (omega arith) }
