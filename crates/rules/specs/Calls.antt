-- The five calls of a controller: from its state and the input to a refusal, or to the new state, the answer and the
-- messages handed out. Tests come in the order of their numbers; a refusal changes nothing and hands out nothing.
use Rattle.std.specs.Prelude.{ℕ, ◌+◌, cond, not, ◌&&◌, List, [], ◌∷◌, Some, None, Ok, Err, Option, Result, nat_le, nat_lt, slice_index_or}
use Rattle.schedule.specs.Changes.{change_fits}
use Rattle.schedule.specs.Group.{changes_each, id_fits}
use Rattle.schedule.specs.Sets.{fast_set}
use Rattle.schedule.specs.declared.change.Change.{Change}
use Rattle.schedule.specs.declared.set.ControllerSet.{ControllerSet}
use Rattle.line_format.specs.Reading.{reading}
use Rattle.line_format.specs.Writing.{least_buffer}
use Rattle.line_format.specs.declared.fault.LineFault.{LineFault}
use Rattle.line_format.specs.declared.fault.LineFault.TheVariants.{ShortBuffer, OutsideLimits}
use Rattle.line_format.specs.declared.message.Message.{Message}
use Rattle.line_format.specs.declared.message.Message.TheVariants.{MPayload, MPropose, MProposeAck, MCommit, MConsensus, MConsensusAck, MRec, MRecAck, MPromises}
use Rattle.line_format.specs.declared.message.Promises.{Promises}
use Rattle.promise_words.specs.Stability.{stable_of}
use Rattle.record.specs.Rows.{blank}
use Rattle.record.specs.declared.row.Row.{Row}
use Rattle.tables.specs.Tables.{told, learnt, due, carried_count, finished}
use Rattle.sites.specs.Sending.{to_others, to_rest, to_outsiders}
use Rattle.steps.specs.Steps.{Left, step, entering, taking_over}
use Rattle.sites.specs.declared.refusal.Refusal.{Refusal}
use Rattle.sites.specs.declared.refusal.Refusal.TheVariants.{Line, WrongSender, NumbersSpent, NothingDue}
use Rattle.sites.specs.declared.sent.Sent.{Sent}
use Rattle.rules.specs.Senders.{rightful}
use Rattle.rules.specs.States.{nth_id, row_of, with_row, with_entered, known_of, with_known}
use Rattle.rules.specs.declared.state.Core.{Core}

-- what a call leaves and answers
pub record Called (A : Type 0) : Type 0 where
  pub core : Core
  pub answer : A
  pub sent : List Sent

abbrev called : {A : Type 0} → Core → A → List Sent → Called A
called core a sent = record { core = core; answer = a; sent = sent }

-- a call with an outgoing buffer of n bytes: refused with 12, before any other test, where they are too few
abbrev pub buffered : {A : Type 0} → ℕ → Result A Refusal → Result A Refusal
buffered n result = cond (nat_lt n least_buffer) (Err (Line ShortBuffer)) result

-- Enter. The answer is the change's number. MPropose goes to the others in the set, MPayload to those outside.
abbrev pub entered_as : Core → Change → ControllerSet → ℕ → Result (Left ℕ) Refusal → Result (Called ℕ) Refusal
entered_as core c set id (Ok done) =
    let own : ℕ = core.site.own in
    Ok (called (with_entered (core.entered + 1) (with_row id done.row done.clock core)) id
    (to_rest own set.bits (MPropose own id c set done.answer) ∷ to_outsiders core.site.figures.r set.bits (MPayload own id c set) ∷ []))
entered_as core c set id (Err why) = Err why

-- Refused with 12 for the buffer, with 14 for a change that does not fit or a set that is no fast set here, with 17 where
-- all changes were entered, and with 19 where the next timestamp is past the last one.
abbrev pub enter : Core → Change → ControllerSet → ℕ → Result (Called ℕ) Refusal
enter core c set n =
    let own : ℕ = core.site.own in
    let id : ℕ = nth_id own (core.entered + 1) in
    buffered n
    (cond (not (change_fits c && fast_set core.site.figures.r core.site.figures.f own set.bits)) (Err (Line OutsideLimits))
    (cond (nat_le changes_each core.entered) (Err NumbersSpent)
    (entered_as core c set id (entering own c set (row_of core id) core.clock))))

-- the message that a step hands out, if any
abbrev pub sent_list : Option Sent → List Sent
sent_list None = []
sent_list (Some x) = x ∷ []

-- Deliver. The answer is 0.
abbrev pub stepped : Core → ℕ → Result (Left (Option Sent)) Refusal → Result (Called ℕ) Refusal
stepped core id (Ok done) = Ok (called (with_row id done.row done.clock core) 0 (sent_list done.answer))
stepped core id (Err why) = Err why

-- a message about one change alters its record and the clock
abbrev pub step_on : Core → ℕ → Message → Result (Called ℕ) Refusal
step_on core id m =
    stepped core id (step core.site.figures.r core.site.figures.f core.site.own m (row_of core id) core.clock)

-- what is known of a controller after it told its promises
abbrev pub hear_promises : Core → ℕ → Promises → Core
hear_promises core s p = with_known s (learnt core.table.rows (known_of core s) p) core

abbrev pub take_in : Core → Message → Result (Called ℕ) Refusal
take_in core (MPayload s id c set) = step_on core id (MPayload s id c set)
take_in core (MPropose s id c set t) = step_on core id (MPropose s id c set t)
take_in core (MProposeAck s id t) = step_on core id (MProposeAck s id t)
take_in core (MCommit s id t) = step_on core id (MCommit s id t)
take_in core (MConsensus s id t b) = step_on core id (MConsensus s id t b)
take_in core (MConsensusAck s id b) = step_on core id (MConsensusAck s id b)
take_in core (MRec s id b) = step_on core id (MRec s id b)
take_in core (MRecAck s id t p a b) = step_on core id (MRecAck s id t p a b)
take_in core (MPromises s p) = Ok (called (hear_promises core s p) 0 [])

-- Refused with 13 or 14 for what `reading` found, with 15 for a sender that may not send this, and then as `step` refuses:
-- with 16, or with 19 past the last timestamp.
abbrev pub received : Core → Result Message LineFault → Result (Called ℕ) Refusal
received core (Err fault) = Err (Line fault)
received core (Ok m) = cond (rightful core.site.figures.r core.site.own m) (take_in core m) (Err WrongSender)

-- the same; refused with 12 for the buffer
abbrev pub deliver : Core → List ℕ → ℕ → Result (Called ℕ) Refusal
deliver core bytes n = buffered n (received core (reading core.site.figures.r core.site.figures.f bytes))

-- Take over. The answer is the ballot, and MRec goes to all.
abbrev pub taken_over : Core → ℕ → Result (Left ℕ) Refusal → Result (Called ℕ) Refusal
taken_over core id (Ok done) =
    let own : ℕ = core.site.own in
    Ok (called (with_row id done.row done.clock core) done.answer (to_others core.site.figures.r own (MRec own id done.answer) ∷ []))
taken_over core id (Err why) = Err why

-- Refused with 12 for the buffer, with 14 for a number of no change, and then as `taking_over` refuses: with 16, 18 or 19.
abbrev pub take_over : Core → ℕ → ℕ → Result (Called ℕ) Refusal
take_over core id n =
    buffered n
    (cond (not (id_fits core.site.figures.r id)) (Err (Line OutsideLimits))
    (taken_over core id (taking_over core.site.figures.r core.site.own (row_of core id) core.clock)))

-- Tell. The answer is 0, and MPromises goes to all and to itself. Refused with 12 for the buffer, and for nothing else.
abbrev pub tell : Core → ℕ → Result (Called ℕ) Refusal
tell core n =
    let own : ℕ = core.site.own in
    let p : Promises = told core.clock.detached.words core.table.rows in
    buffered n (Ok (called (hear_promises core own p) 0 (to_others core.site.figures.r own (MPromises own p) ∷ [])))

-- what carry out answers
pub record Carried : Type 0 where
  pub id : ℕ
  pub timestamp : ℕ
  pub place : ℕ
  pub outcome : ℕ × ℕ

-- Carry out, over a service with the given functions of state and change, at the given state. The state after it
-- stands beside what it leaves. Refused with 20 where no change is due, and for nothing else.
abbrev pub carried_at : {S : Type 0} → (S → Change → S) → (S → Change → ℕ × ℕ) → Core → S → Option ℕ → Result (Called Carried × S) Refusal
carried_at next outcome core s None = Err NothingDue
carried_at next outcome core s (Some at) =
    let w : Row = slice_index_or core.table.rows at blank in
    let place : ℕ = carried_count core.table.rows + 1 in
    let o : ℕ × ℕ = outcome s w.change in
    Ok (
      called (with_row (at + 1) (finished place o w) core.clock core)
          (record { id = at + 1; timestamp = w.timestamp; place = place; outcome = o }) [],
      next s w.change,
    )

abbrev pub carry_out : {S : Type 0} → (S → Change → S) → (S → Change → ℕ × ℕ) → Core → S → Result (Called Carried × S) Refusal
carry_out next outcome core s = carried_at next outcome core s (due (stable_of core.site.figures.r core.known) core.table.rows)
