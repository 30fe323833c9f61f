use Rattle.std.proofs.Common.{◌≡◌, length, arith}
use Rattle.linecheck.proofs.Within.{wrote_within}
use Rattle.linecheck.proofs.bench.Bench.write_out.Goals as goal

pub slice_bounds-show_bytes-end : goal.slice_bounds-show_bytes-end
slice_bounds-show_bytes-end c =
    let same : length c.write.new.buffer ≡ length c.args.self.now.buffer = omega arith in
    omega (arith, wrote_within c.args.message.now c.args.self.now.buffer c.write.new.buffer c.in-Ok.length c.args.self.now.figures.r c.args.self.now.figures.f c.in-Ok.ensures same)
