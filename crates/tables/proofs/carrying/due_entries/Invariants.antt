use Rattle.std.proofs.Common.{◌≡◌, ◌+◌, ◌++◌, length, take, drop}
use Rattle.tables.specs.Tables.{due_from}
use Rattle.tables.proofs.carrying.due_entries.Given as goal

abbrev pub invariant-loop-i : goal.invariant-loop-i
invariant-loop-i l = (take l.i l.entries ++ due_from l.stable (l.i + 1) (drop l.i l.rows) ≡ due_from l.stable 1 l.rows) × (length l.entries ≡ 224)
