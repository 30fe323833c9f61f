-- The two makes: the state after a change, and its outcome.
use Rattle.std.specs.Prelude.{ℕ, Some, None, Ok, Err, Result}
use Rattle.schedule.specs.declared.change.Change.{Change}
use Rattle.services.specs.Answers.{answer_number}
use Rattle.services.specs.Places.{Table, place, with_place, hour_total}
use Rattle.services.specs.Rules.{judged}
use Rattle.services.specs.declared.answer.Answer.{Answer}

-- the table and the outcome that a ruling on one place leads to
abbrev pub table_by : Result ℕ (Answer × ℕ) → Table → Change → Table
table_by (Ok value) t c = with_place t c.hour c.slot value
table_by (Err refusal) t c = t

abbrev pub outcome_by : Result ℕ (Answer × ℕ) → ℕ → ℕ × ℕ
outcome_by (Ok value) held = (0, held)
outcome_by (Err refusal) held = (answer_number refusal.0, refusal.1)

abbrev pub held_at : Table → Change → ℕ
held_at t c = place t c.hour c.slot

abbrev pub order_ruling : Table → Change → Result ℕ (Answer × ℕ)
order_ruling t c = judged c (held_at t c) None

abbrev pub order_next : Table → Change → Table
order_next t c = table_by (order_ruling t c) t c

abbrev pub order_outcome : Table → Change → ℕ × ℕ
order_outcome t c = outcome_by (order_ruling t c) (held_at t c)

abbrev pub ledger_ruling : Table → Change → Result ℕ (Answer × ℕ)
ledger_ruling t c = judged c (held_at t c) (Some (hour_total t c.hour))

abbrev pub ledger_next : Table → Change → Table
ledger_next t c = table_by (ledger_ruling t c) t c

abbrev pub ledger_outcome : Table → Change → ℕ × ℕ
ledger_outcome t c = outcome_by (ledger_ruling t c) (held_at t c)
