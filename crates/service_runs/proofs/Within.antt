-- No hour of a ledger passes its seconds in a run.
use Rattle.std.proofs.Common.{◌≡◌, ℕ, ◌≤◌, Bool, true, false, cond, List, [], ◌∷◌, sum, arith}
use Rattle.schedule.specs.Changes.{hour_fits}
use Rattle.schedule.specs.declared.change.Change.{Change}
use Rattle.services.specs.Makes.{ledger_next}
use Rattle.services.specs.Places.{Table, row, hour_seconds, hour_total, hours_within}
use Rattle.services.proofs.Bookings.{next_within}
use Rattle.services.proofs.Sums.{row_within}
use Rattle.service_runs.specs.Laws.{ran}

pub run_within : (t : Table) (cs : List Change) (h : ℕ) → hours_within t ≡ true → hour_total (ran ledger_next t cs) h ≤ hour_seconds
run_within t [] h w = total (hour_fits h)
  where
    total : (fits : Bool) → cond fits (sum (row t h)) 0 ≤ hour_seconds
    total true = row_within t h w
    total false = omega arith
run_within t (c ∷ cs) h w = run_within (ledger_next t c) cs h (next_within t c w)
