use Rattle.std.proofs.Common.{rules}
use Rattle.line_format.proofs.OneEncoding.{one_encoding}
use Rattle.line_format.proofs.reading.read.Goals as goal

pub returns-clause-encoded : goal.returns-clause-encoded
returns-clause-encoded c =
    one_encoding c.args.figures.now.r c.args.figures.now.f c.args.bytes.now (λ i. (c.type_inv.bytes i).fits) c.in_ok-message.message (search rules)
