use Rattle.std.proofs.Common.{◌≡◌, ℕ, List, [], ◌++◌, drop, ◌∙◌, append-nil}
use Rattle.line_format.specs.Fields.{int_at, hyper_at, pair_at, fields_at}
use Rattle.line_format.specs.Limits.{words}
use Rattle.line_format.specs.Reading.{no_pairs, promises_in}
use Rattle.line_format.specs.declared.message.Pair.{Pair}
use Rattle.line_format.specs.declared.message.Promises.{Promises}
use Rattle.line_format.proofs.reading.promises_in.Goals as goal

assembled : (bytes : List ℕ) (count : ℕ) (ws : List ℕ) (ps : List Pair) → count ≡ int_at bytes 208 → ws ≡ fields_at hyper_at 8 bytes 8 words ++ [] → ps ≡ fields_at pair_at 8 bytes 212 count ++ drop count no_pairs → ◌≡◌ {A = Promises} (record { detached = ws; count = count; pairs = ps }) (promises_in bytes)
assembled bytes count ws ps n w p = let e = w ∙ append-nil (fields_at hyper_at 8 bytes 8 words) in cc

pub returns : goal.returns
unfolding no_pairs
returns c = assembled c.args.bytes.now c.args.count c.fill.new.table c.fill-2.new.table c.requires.0 c.fill.ensures c.fill-2.ensures
