use Rattle.std.proofs.Common.{◌≡◌, take}
use Rattle.service_runs.specs.Laws.{ran}
use Rattle.service_runs.proofs.run.run.Given as goal

-- the run so far
abbrev pub invariant-loop-change : goal.invariant-loop-change
invariant-loop-change g l =
    let s = g.S.Service in
    s.meaning l.service ≡ ran s.next (s.meaning l.initial.service) (take l.change-index l.changes)
