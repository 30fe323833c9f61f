use Rattle.std.proofs.Common.{arith}
use Rattle.line_format.proofs.Laying.{puts_then}
use Rattle.line_format.proofs.writing.PairPut.put.Goals as goal

pub returns : goal.returns
returns c = puts_then _ _ _ _ _ (omega arith) c.put.ensures c.put-2.ensures
