use Rattle.std.proofs.Common.{◌≡◌, ℕ, ◌+◌, length, Option, sym, refl, ◌∙◌, subst, inl, inr, arith}
use Rattle.std.proofs.lemmas.Option.{slice_get_read}
use Rattle.ranking.specs.Ranking.{FirstAmong, leads}
use Rattle.ranking.proofs.Firsts.{only_first, any_order}
use Rattle.ranking.proofs.Steps.{takes, keeps}
use Rattle.ranking.proofs.rank.first_in_rank.Goals as goal
use Rattle.ranking.proofs.rank.first_in_rank.Goals.{then-is_eligible+then-leads, else-is_eligible, else-is_eligible-via-then-is_eligible+else-leads, else-is_eligible-via-else-is_eligible}

pub loop-i-preserved : goal.loop-i-preserved
loop-i-preserved g c =
    let m = g.T.Ranked in
    let laws = g.met.T.Ranked in
    let xs = c.args.entries.now in
    let i = c.loop-i.i in
    let x = c.index-entries-i.result in
    let at = slice_get_read xs _ i x refl c.loop-i-test.true c.index-entries-i.is in
    let first = c.loop-i.first in
    let Now : Option ℕ → Type 0 = FirstAmong m.eligible m.before xs (i + 1) in
    elim c.if-is_eligible.branch [
      | then-is_eligible+then-leads w ↦
          subst Now (sym w.first-is) (takes laws.asymmetric laws.chains m.eligible xs i x at first c.loop-i.invariant (sym {b = m.eligible x} w.if-is_eligible.ensures) (sym {b = leads m.before xs first x} w.if-leads.ensures))
      | else-is_eligible w ↦
          subst Now (sym w.first-is)
          (keeps m.eligible m.before xs i x at first c.loop-i.invariant
          (elim w.else-is_eligible.branch [
            | else-is_eligible-via-then-is_eligible+else-leads v ↦ inr (sym {b = leads m.before xs first x} v.if-leads.ensures)
            | else-is_eligible-via-else-is_eligible v ↦ inl (sym {b = m.eligible x} v.if-is_eligible.ensures)
          ]))
    ]

pub returns : goal.returns
returns g c =
    let m = g.T.Ranked in
    let laws = g.met.T.Ranked in
    let xs = c.args.entries.now in
    let all : c.loop-i.i ≡ length xs = omega arith in
    let first = subst (λ n. FirstAmong m.eligible m.before xs n c.loop-i.first) all c.loop-i.invariant in
    let value = only_first m.eligible m.before xs c.loop-i.first first in
    record {
      value = value;
      first = first;
      only = λ p h. only_first m.eligible m.before xs p h ∙ sym value;
      order = any_order m.eligible laws.asymmetric laws.chains xs c.loop-i.first first;
    }
