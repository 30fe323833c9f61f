use Rattle.std.proofs.Common.{◌≡◌, arith}
use Rattle.line_format.proofs.Tables.{fill_none, fill_more}
use Rattle.line_format.proofs.reading.fill.Goals as goal

pub loop-i-init : goal.loop-i-init
loop-i-init g c = fill_none g.F.Wide.found 8 c.args.bytes.now c.args.at c.args.table.now

pub loop-i-preserved : goal.loop-i-preserved
loop-i-preserved g c =
    let e = fill_more g.F.Wide.found 8 c.args.bytes.now c.args.at c.loop-i.i c.args.table.now (omega arith) in
    let inv = c.loop-i.invariant in
    cc

pub returns : goal.returns
returns g c =
    let n : c.loop-i.i ≡ c.args.count = omega arith in
    let inv = c.loop-i.invariant in
    cc
