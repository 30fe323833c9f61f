use Rattle.std.proofs.Common.{arith}
use Rattle.line_format.proofs.Laying.{puts_then}
use Rattle.line_format.proofs.writing.Writer.put_message.Goals as goal

pub returns-in-MPromises : goal.returns-in-MPromises
returns-in-MPromises c =
    rw c.in-MPromises.is (puts_then _ _ _ _ _ (omega arith) c.put_all-in-MPromises.ensures c.put_promises.ensures)

pub returns-in-MPropose : goal.returns-in-MPropose
returns-in-MPropose c =
    rw c.in-MPropose.is (puts_then _ _ _ _ _ (omega arith) c.put_entry-in-MPropose.ensures c.put_all.ensures)
