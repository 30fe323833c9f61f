-- How runs are staged: what a controller holds of one change, and the messages that it gets one after the other.
use Rattle.std.specs.Prelude.{ℕ, List, [], ◌∷◌, ◌++◌, Some, None, Ok, Err, Option, Result}
use Rattle.schedule.specs.declared.change.Change.{Change}
use Rattle.schedule.specs.declared.phase.Phase.{Phase}
use Rattle.schedule.specs.declared.set.ControllerSet.{ControllerSet}
use Rattle.line_format.specs.declared.message.Message.{Message}
use Rattle.promise_words.specs.Timestamps.{no_words}
use Rattle.promise_words.specs.declared.clock.Clock.{Clock}
use Rattle.record.specs.Rows.{blank}
use Rattle.record.specs.declared.row.Row.{Row}
use Rattle.sites.specs.declared.refusal.Refusal.{Refusal}
use Rattle.sites.specs.declared.sent.Sent.{Sent}
use Rattle.steps.specs.Steps.{Left, step, entering, taking_over}
use Rattle.rules.specs.Calls.{sent_list}

-- what a controller holds of a change, its clock, and what it handed out, oldest first
pub record Desk : Type 0 where
  pub row : Row
  pub clock : Clock
  pub sent : List Sent

abbrev pub desk : Row → Clock → List Sent → Desk
desk w c sent = record { row = w; clock = c; sent = sent }

-- a clock at t, with nothing detached
abbrev pub clock_at : ℕ → Clock
clock_at t = record { time = t; detached = record { words = no_words } }

-- nothing is known of the change, and the clock is at t
abbrev pub start : ℕ → Desk
start t = desk blank (clock_at t) []

abbrev pub stepped : Desk → Result (Left (Option Sent)) Refusal → Desk
stepped d (Ok done) = desk done.row done.clock (d.sent ++ sent_list done.answer)
stepped d (Err why) = d

-- controller `own` gets messages, one after the other; a refused one changes nothing
abbrev pub gets : ℕ → ℕ → ℕ → Desk → List Message → Desk
gets r f own d [] = d
gets r f own d (m ∷ ms) = gets r f own (stepped d (step r f own m d.row d.clock)) ms

abbrev pub done_or : Desk → Result (Left ℕ) Refusal → Desk
done_or d (Ok done) = desk done.row done.clock d.sent
done_or d (Err why) = d

-- controller `own` enters a change, with its clock at t
abbrev pub enters : ℕ → Change → ControllerSet → ℕ → Desk
enters own c set t = done_or (start t) (entering own c set blank (clock_at t))

-- controller `own` takes the change over
abbrev pub takes_over : ℕ → ℕ → Desk → Desk
takes_over r own d = done_or d (taking_over r own d.row d.clock)

abbrev pub answer_of : Result (Left ℕ) Refusal → Option ℕ
answer_of (Ok done) = Some done.answer
answer_of (Err why) = None

-- what is looked at of a record
pub record Seen : Type 0 where
  pub phase : Phase
  pub timestamp : ℕ
  pub ballot : ℕ
  pub accepted : Option ℕ

abbrev pub seen : Desk → Seen
seen d =
    record { phase = d.row.phase; timestamp = d.row.timestamp; ballot = d.row.ballot; accepted = d.row.accepted }

abbrev pub shows : Phase → ℕ → ℕ → Option ℕ → Seen
shows p t b a = record { phase = p; timestamp = t; ballot = b; accepted = a }
