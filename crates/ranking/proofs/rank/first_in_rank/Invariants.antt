use Rattle.ranking.specs.Ranking.{FirstAmong}
use Rattle.ranking.proofs.rank.first_in_rank.Given as goal

abbrev pub invariant-loop-i : goal.invariant-loop-i
invariant-loop-i g l = FirstAmong g.T.Ranked.eligible g.T.Ranked.before l.entries l.i l.first
