use Rattle.std.proofs.Common.{take}
use Rattle.line_format.specs.Fields.{fields}
use Rattle.line_format.specs.Writing.{Puts}
use Rattle.line_format.proofs.writing.Writer.put_all.Given as goal

abbrev pub invariant-loop-field : goal.invariant-loop-field
invariant-loop-field g l = Puts l.initial.self l.self (fields g.F.Put.code (take l.field-index l.all))
