use Rattle.std.proofs.Common.{◌≡◌, ◌+◌, ◌≤◌, ◌++◌, length, take, drop}
use Rattle.tables.specs.Tables.{pairs_from, own_promises}
use Rattle.tables.proofs.telling.put_promises.Given as goal

abbrev pub invariant-loop-i : goal.invariant-loop-i
invariant-loop-i l =
    (take l.count l.pairs ++ pairs_from (l.i + 1) (drop l.i l.rows) ≡ own_promises l.rows)
    × (drop l.count l.pairs ≡ drop l.count l.initial.pairs)
    × (l.count ≤ l.i)
    × (length l.pairs ≡ 224)
