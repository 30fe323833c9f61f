use Rattle.std.proofs.Common.{sym, arith}
use Rattle.schedule.proofs.Members.{beyond}
use Rattle.schedule.proofs.set.ControllerSet.contains.Goals as goal

pub returns-then-j-gt32 : goal.returns-then-j-gt32
returns-then-j-gt32 c = sym (beyond _ _ (omega arith) c.if-j-gt32.true)
