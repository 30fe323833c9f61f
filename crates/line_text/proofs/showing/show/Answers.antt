use Rattle.std.proofs.Common.{rules}
use Rattle.line_text.proofs.Law.{reads_back, typed_reads_back}
use Rattle.line_text.proofs.showing.show.Goals as goal

pub returns-in_err-write : goal.returns-in_err-write
returns-in_err-write c = record { shown = search rules; back = reads_back; typed = typed_reads_back }

pub returns : goal.returns
returns c = record { shown = search rules; back = reads_back; typed = typed_reads_back }
