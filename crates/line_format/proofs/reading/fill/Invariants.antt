use Rattle.std.proofs.Common.{◌≡◌, ◌++◌, drop}
use Rattle.line_format.specs.Fields.{fields_at}
use Rattle.line_format.proofs.reading.fill.Given as goal

abbrev pub invariant-loop-i : goal.invariant-loop-i
invariant-loop-i g l = l.table ≡ fields_at g.F.Wide.found 8 l.bytes l.at l.i ++ drop l.i l.initial.table
