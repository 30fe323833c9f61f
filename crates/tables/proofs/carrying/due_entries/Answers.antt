use Rattle.std.proofs.Common.{◌+◌, ◌++◌, take, drop, set, sym, ap, ◌∙◌, arith, length-set, Option}
use Rattle.ranking.specs.declared.due.Due.{Due}
use Rattle.tables.specs.Tables.{due_from}
use Rattle.tables.proofs.Steps.{due_more, due_all}
use Rattle.tables.proofs.carrying.due_entries.Goals as goal

pub loop-i-preserved : goal.loop-i-preserved
loop-i-preserved c =
    let es = c.loop-i.entries in
    let ws = c.args.rows.now in
    let i = c.loop-i.i in
    let s = c.args.stable in (
      ap (λ (e : Option Due). take (i + 1) (set es i e) ++ due_from s (i + 1 + 1) (drop (i + 1) ws)) c.due_entry.ensures
          ∙ due_more s es ws i _ (omega (arith, c.loop-i.invariant.1)) (omega arith)
          ∙ c.loop-i.invariant.0,
      length-set es i _ ∙ c.loop-i.invariant.1,
    )

pub returns : goal.returns
returns c =
    sym (due_all c.args.stable c.loop-i.entries c.args.rows.now c.loop-i.i (omega (arith, c.loop-i.invariant.1)) (omega arith)) ∙ c.loop-i.invariant.0
