use Rattle.std.proofs.Common.{length, ap, arith}
use Rattle.std.proofs.lemmas.List.Folds.{length-flat_map-take}
use Rattle.line_format.proofs.Laying.{puts_then, fields_more}
use Rattle.line_format.proofs.writing.Writer.put_all.Goals as goal

pub put-requires : goal.put-requires
put-requires g c =
    let code = g.F.Put.code in
    let here = ap (λ x. length (code x)) c.field-item.is in
    omega (arith, here, length-flat_map-take code c.args.all.now c.loop-field.field-index c.field-item.result c.loop-field-test.true)

pub loop-field-preserved : goal.loop-field-preserved
loop-field-preserved g c =
    rw (fields_more g.F.Put.code c.args.all.now c.loop-field.field-index c.field-item.result c.loop-field-test.true c.field-item.is)
    (puts_then _ _ _ _ _ (omega arith) c.loop-field.invariant c.put.ensures)
