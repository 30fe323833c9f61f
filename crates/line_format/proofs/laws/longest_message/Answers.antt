use Rattle.std.proofs.Common.{refl, arith}
use Rattle.line_format.proofs.OneEncoding.{one_encoding, never_two}
use Rattle.line_format.proofs.ReadsBack.{reads_back, no_longer}
use Rattle.line_format.proofs.laws.longest_message.Goals as goal

pub returns : goal.returns
returns c =
    let r = c.args.figures.now.r in
    let f = c.args.figures.now.f in
    let small = c.args.figures.now.most in
    let least = c.args.figures.now.least in
    record { enough = no_longer r f (omega arith) small; value = refl; back = reads_back r f small; one = one_encoding r f; apart = never_two r f }
