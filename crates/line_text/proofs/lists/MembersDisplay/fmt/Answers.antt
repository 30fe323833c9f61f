use Rattle.std.proofs.Common.{◌++◌, map, decimal, sym, ap, ◌∙◌, arith, rules}
use Rattle.std.proofs.Output.{has_written_append, has_written_of_eq}
use Rattle.line_text.specs.Lists.{comma, list_from}
use Rattle.line_text.proofs.Shown.{one_more, no_more, member_next, member_skip, members_done}
use Rattle.line_text.proofs.lists.MembersDisplay.fmt.Goals as goal
use Rattle.line_text.proofs.lists.MembersDisplay.fmt.Goals.{then-contains+in_ok-add, else-contains}

pub loop-member-preserved : goal.loop-member-preserved
loop-member-preserved g c = λ plain.
    let sofar = c.loop-member.invariant plain in
    let bits = c.args.self.now.0 in
    let j = c.loop-member.member-counter in
    let first = c.loop-member.first in
    elim c.if-contains.branch [
      | then-contains+in_ok-add w ↦
          let next = ap (map decimal) (member_next bits j 33 (omega arith) (sym w.if-contains.ensures)) in
          rw (w.f-is, w.first-is) (sofar.0 ++ (comma first ++ decimal j), has_written_append _ _ _ _ _ _ sofar.1 (w.add.ensures sofar.1.plain (search rules)), one_more sofar.0 (decimal j) _ first _ _ next sofar.2)
      | else-contains w ↦
          let next = member_skip bits j 33 (omega arith) (sym w.if-contains.ensures) in
          rw (w.f-is, w.first-is) (sofar.0, sofar.1, ap (λ l. sofar.0 ++ list_from (map decimal l) first) (sym next) ∙ sofar.2)
    ]

pub returns-clause-writes : goal.returns-clause-writes
returns-clause-writes g c = λ plain ok.
    let sofar = c.loop-member.invariant plain in
    let over = ap (map decimal) (members_done c.args.self.now.0 c.loop-member.member-counter 33 (omega arith)) in
    has_written_of_eq _ _ _ _ _ (no_more sofar.0 _ c.loop-member.first _ over sofar.2) (has_written_append _ _ _ _ _ _ sofar.1 (c.finish.ensures sofar.1.plain ok))
