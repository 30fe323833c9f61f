use Rattle.std.proofs.Common.{◌≡◌, drop}
use Rattle.tables.specs.Tables.{with_pairs}
use Rattle.tables.proofs.rows.Rows.learn_pairs.Given as goal

abbrev pub invariant-loop-pair : goal.invariant-loop-pair
invariant-loop-pair l = with_pairs l.self.rows l.known.words (drop l.pair-index l.pairs) ≡ with_pairs l.self.rows l.initial.known.words l.pairs
