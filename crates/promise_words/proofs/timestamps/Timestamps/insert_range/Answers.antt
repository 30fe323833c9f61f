use Rattle.std.proofs.Common.{◌≡◌, ℕ, suc, ◌+◌, ◌-◌, min, max, Bool, ◌||◌, sym, ap, ◌∙◌, ap₂, arith}
use Rattle.promise_words.specs.Timestamps.{has, among, with_one, with_next}
use Rattle.promise_words.proofs.Members.{before, range_none, range_more, range_all}
use Rattle.promise_words.proofs.timestamps.Timestamps.insert_range.Goals as goal

pub loop-t-init : goal.loop-t-init
loop-t-init c =
    let ws = c.args.self.now.words in
    let from = c.max-from.result in
    let none : from - from ≡ 0 = omega arith in
    (sym (ap (with_next ws from) none), λ u. range_none (has ws u) from u, omega arith)

pub loop-t-preserved : goal.loop-t-preserved
loop-t-preserved c =
    let ws = c.args.self.now.words in
    let from = c.max-from.result in
    let t = c.loop-t.t in
    let more : t + 1 - from ≡ suc (t - from) = omega arith in
    let here : t ≡ from + (t - from) = omega arith in (
      c.insert.ensures.value ∙ ap₂ with_one c.loop-t.invariant.0 here ∙ sym (ap (with_next ws from) more),
      λ u. c.insert.ensures.members u ∙ ap (λ (b : Bool). b || among t t u) (c.loop-t.invariant.1 u) ∙ range_more (has ws u) from t u (omega arith),
      omega arith,
    )

pub returns : goal.returns
returns c =
    let ws = c.args.self.now.words in
    let first = c.args.first in
    let last = c.args.last in
    let t = c.loop-t.t in
    let from : c.max-from.result ≡ max first 1 = c.max-from.ensures in
    let n : t - c.max-from.result ≡ min last 1568 + 1 - max first 1 = omega arith in
    record {
      value = c.loop-t.invariant.0 ∙ ap₂ (with_next ws) from n;
      members =
          λ u.
          c.loop-t.invariant.1 u ∙ ap (λ (a : ℕ). has ws u || before a t u) from
          ∙ range_all (has ws u) first last t u (omega arith) (omega arith) (omega arith);
    }
