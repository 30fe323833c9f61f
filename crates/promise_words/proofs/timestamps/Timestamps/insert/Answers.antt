use Rattle.std.proofs.Common.{◌≡◌, ◌*◌, ◌%◌, ◌^◌, List, ℕ, set, get_or, ap, ◌∙◌, arith}
use lib.Bits.{bit_or}
use Rattle.std.proofs.lemmas.Grind.{common_steps}
use Rattle.promise_words.specs.Timestamps.{has, with_one}
use Rattle.promise_words.proofs.Members.{one_has}
use Rattle.promise_words.proofs.timestamps.Timestamps.insert.Goals as goal

pub returns-in-Some-clause-members : goal.returns-in-Some-clause-members
returns-in-Some-clause-members c u =
    let ws = c.args.self.now.words in
    let e : set ws c.in-Some.word (bit_or (get_or ws c.in-Some.word 0) (1 * 2 ^ c.in-Some.bit % 2 ^ 64)) ≡ with_one ws c.args.t = grind (arith, common_steps) in
    ap (λ (vs : List ℕ). has vs u) e ∙ one_has ws c.args.t u (omega arith)
