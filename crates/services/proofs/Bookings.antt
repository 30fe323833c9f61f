-- The ledger's rules keep every hour to its seconds.
use Rattle.std.proofs.Common.{◌≡◌, ℕ, ◌+◌, ◌-◌, ◌≤◌, Bool, true, false, get_or, set, Some, Ok, Err, sum, Result, refl, arith}
use Rattle.std.proofs.lemmas.Bool.Decides.{nat_tests}
use Rattle.schedule.specs.Changes.{hour_fits, slot_fits}
use Rattle.schedule.specs.declared.change.Change.{Change}
use Rattle.services.specs.Makes.{held_at, table_by, ledger_ruling, ledger_next}
use Rattle.services.specs.Places.{Table, row, with_place, hour_seconds, hour_total, hours_within}
use Rattle.services.specs.Rules.{judged}
use Rattle.services.specs.declared.answer.Answer.{Answer}
use Rattle.services.proofs.Sums.{row_within, set_within, sum_set}

-- what the rules let a place hold leaves the hour's total within its seconds
fair : (c : Change) (held total value : ℕ) → total ≤ hour_seconds → judged c held (Some total) ≡ Ok value → total - held + value ≤ hour_seconds
fair c held total value few e = grind (arith, nat_tests)

pub next_within : (t : Table) (c : Change) → hours_within t ≡ true → hours_within (ledger_next t c) ≡ true
next_within t c w = by (ledger_ruling t c) refl
  where
    put : (v : ℕ) → judged c (held_at t c) (Some (hour_total t c.hour)) ≡ Ok v → (a : Bool) → hour_fits c.hour ≡ a → (b : Bool) → slot_fits c.slot ≡ b → hours_within (with_place t c.hour c.slot v) ≡ true
    put v e true p true q =
        let few : sum (row t c.hour) - get_or (row t c.hour) c.slot 0 + v ≤ hour_seconds
        = rw (p, q) at (fair c (held_at t c) (hour_total t c.hour) v (rw p (row_within t c.hour w)) e) in
        rw (p, q) (set_within t c.hour (set (row t c.hour) c.slot v) w (omega (arith, sum_set (row t c.hour) c.slot v)))
    put v e true p false q = rw (p, q) w
    put v e false p b q = rw p w

    by : (r : Result ℕ (Answer × ℕ)) → ledger_ruling t c ≡ r → hours_within (table_by r t c) ≡ true
    by (Ok v) e = put v e (hour_fits c.hour) refl (slot_fits c.slot) refl
    by (Err refusal) e = w
