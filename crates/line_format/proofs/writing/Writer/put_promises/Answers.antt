use Rattle.std.proofs.Common.{◌≡◌, ℕ, ◌*◌, List, length, refl, ap, arith}
use Rattle.line_format.specs.Fields.{fields, hyper_bytes, pair_bytes}
use Rattle.line_format.proofs.Laying.{puts_then, length_fields}
use Rattle.line_format.proofs.writing.Writer.put_promises.Goals as goal

words_long : (ws : List ℕ) → length (fields hyper_bytes ws) ≡ 8 * length ws
words_long ws = length_fields hyper_bytes 8 (λ _. refl) ws

pub put_all-requires : goal.put_all-requires
put_all-requires c = omega (arith, words_long c.args.promises.now.detached)

pub put_all-requires-2 : goal.put_all-requires-2
put_all-requires-2 c = omega (arith, words_long c.args.promises.now.detached)

pub put_all-requires-3 : goal.put_all-requires-3
put_all-requires-3 c =
    omega (arith, words_long c.args.promises.now.detached, length_fields pair_bytes 8 (λ _. refl) c.split_at.result.0.now)

pub returns : goal.returns
returns c =
    let used = ap (fields pair_bytes) c.split_at.ensures.front in
    rw (← used) (puts_then _ _ _ _ _ (omega arith) c.put_all.ensures (puts_then _ _ _ _ _ (omega (arith, words_long c.args.promises.now.detached)) c.put_all-2.ensures c.put_all-3.ensures))
