use Rattle.std.proofs.Common.{◌≡◌, ℕ, ◌+◌, ◌-◌, Bool, List, ◌++◌, map, sym, ap, ◌∙◌, arith, rules}
use Rattle.std.proofs.Output.{has_written_append, has_written_of_eq}
use Rattle.line_text.specs.Lists.{comma, list_from}
use Rattle.line_text.specs.Promises.{range_text, ranges_from}
use Rattle.line_text.proofs.Shown.{one_more, no_more, run_opens, run_waits, run_goes_on, run_ends, ranges_done}
use Rattle.line_text.proofs.promises.ShownDetachedDisplay.fmt.Goals as goal
use Rattle.line_text.proofs.promises.ShownDetachedDisplay.fmt.Goals.{in-None+then-inside, in-None+else-inside, in-Some+then-not-inside+in_ok-add-in-Some, in-Some+else-not-inside}

-- where no range ends
goes_on : (done all : List ℕ) (first : Bool) (ranges rest : List (ℕ × ℕ)) → ranges ≡ rest → done ++ list_from (map range_text ranges) first ≡ all → done ++ list_from (map range_text rest) first ≡ all
goes_on done all first ranges rest e sofar = ap (λ l. done ++ list_from (map range_text l) first) (sym e) ∙ sofar

pub loop-t-preserved : goal.loop-t-preserved
loop-t-preserved g c = λ plain.
    let sofar = c.loop-t.invariant plain in
    let ws = c.args.self.now.0.now in
    let t = c.loop-t.t in
    let first = c.loop-t.first in
    let told = c.contains-inside.ensures in
    elim c.match-run.branch [
      | in-None+then-inside w ↦
          let next = ap (λ r. ranges_from ws r t (1602 - t)) w.in-None.is ∙ run_opens ws t 1602 (omega arith) (sym told ∙ w.if-inside.true) in
          rw (w.f-is, w.first-is, w.run-is) (sofar.0, sofar.1, goes_on sofar.0 _ first _ _ next sofar.2)
      | in-None+else-inside w ↦
          let next = ap (λ r. ranges_from ws r t (1602 - t)) w.in-None.is ∙ run_waits ws t 1602 (omega arith) (sym told ∙ w.if-inside.false) ∙ ap (λ r. ranges_from ws r (t + 1) (1602 - (t + 1))) (sym w.in-None.is) in
          rw (w.f-is, w.first-is, w.run-is) (sofar.0, sofar.1, goes_on sofar.0 _ first _ _ next sofar.2)
      | in-Some+then-not-inside+in_ok-add-in-Some w ↦
          let next = ap (map range_text) (ap (λ r. ranges_from ws r t (1602 - t)) w.in-Some.is ∙ run_ends ws t 1602 (omega arith) w.in-Some.begin (sym told ∙ w.if-not-inside.true)) in
          let text = range_text (w.in-Some.begin, t - 1) in
          rw (w.f-is, w.first-is, w.run-is) (sofar.0 ++ (comma first ++ text), has_written_append _ _ _ _ _ _ sofar.1 (w.add.ensures sofar.1.plain (search rules)), one_more sofar.0 text _ first _ _ next sofar.2)
      | in-Some+else-not-inside w ↦
          let next = ap (λ r. ranges_from ws r t (1602 - t)) w.in-Some.is ∙ run_goes_on ws t 1602 (omega arith) w.in-Some.begin (sym told ∙ w.if-not-inside.false) in
          rw (w.f-is, w.first-is, w.run-is) (sofar.0, sofar.1, goes_on sofar.0 _ first _ _ next sofar.2)
    ]

pub returns-clause-writes : goal.returns-clause-writes
returns-clause-writes g c = λ plain ok.
    let sofar = c.loop-t.invariant plain in
    let over = ap (map range_text) (ranges_done c.args.self.now.0.now c.loop-t.run c.loop-t.t 1602 (omega arith)) in
    has_written_of_eq _ _ _ _ _ (no_more sofar.0 _ c.loop-t.first _ over sofar.2) (has_written_append _ _ _ _ _ _ sofar.1 (c.finish.ensures sofar.1.plain ok))
