-- Calls on controller 1 of three that has just begun its day: what each test refuses, and what is handed out.
use Rattle.std.specs.Prelude.{◌≡◌, ℕ, List, [], ◌∷◌, map, Some, None, Ok, Err, Option, Result}
use Rattle.schedule.specs.declared.change.Change.{Change}
use Rattle.line_format.specs.Encoding.{encode}
use Rattle.line_format.specs.declared.message.Message.TheVariants.{MPayload, MPropose, MCommit, MConsensus}
use Rattle.services.specs.Makes.{order_next, order_outcome}
use Rattle.services.specs.Places.{no_places}
use Rattle.sites.specs.Refusals.{refusal_number}
use Rattle.sites.specs.declared.refusal.Refusal.{Refusal}
use Rattle.sites.specs.declared.sent.Sent.{Sent}
use Rattle.sites.specs.declared.site.Site.{Site}
use Rattle.rules.specs.Calls.{Called, enter, deliver, take_over, tell, carry_out}
use Rattle.rules.specs.Outgoing.{Handed, handed_out}
use Rattle.rules.specs.States.{first_core, with_entered}
use Rattle.rules.specs.declared.state.Core.{Core}
use Rattle.staged_runs.specs.Runs.{spot, members}

-- the number of a refusal; 0 where nothing is refused
abbrev pub refused : {A : Type 0} → Result A Refusal → ℕ
refused (Ok done) = 0
refused (Err why) = refusal_number why

abbrev pub answered : Result (Called ℕ) Refusal → Option ℕ
answered (Ok done) = Some done.answer
answered (Err why) = None

abbrev pub sent_by : Result (Called ℕ) Refusal → List Sent
sent_by (Ok done) = done.sent
sent_by (Err why) = []

abbrev pub addressed : List Sent → List ℕ
addressed sent = map (λ x. x.to.bits) sent

-- the controller after a call; a refused call changes nothing
abbrev pub after : Core → Result (Called ℕ) Refusal → Core
after core (Ok done) = done.core
after core (Err why) = core

-- an hour that the day does not have
abbrev pub late_hour : Change
late_hour = record { department = 1; kind = 1; hour = 24; slot = 0; value = 30 }

abbrev pub handed : ℕ → ℕ → ℕ → Handed
handed to place bytes = record { to = to; place = place; bytes = bytes }

pub record CallsOf (core : Core) : Type 0 where
  -- the buffer is judged first, then the change and the set, then the number of entries
  pub short_buffer : refused (enter core late_hour (members 3) 2047) ≡ 12
  pub no_such_hour : refused (enter (with_entered 32 core) late_hour (members 3) 2048) ≡ 14
  pub home_not_in_set : refused (enter core spot (members 6) 2048) ≡ 14
  pub all_entered : refused (enter (with_entered 32 core) spot (members 3) 2048) ≡ 17
  -- the first change has number 1; the proposal lies before the payload
  pub first_number : answered (enter core spot (members 3) 2048) ≡ Some 1
  pub messages :
      sent_by (enter core spot (members 3) 2048)
      ≡ (record { to = members 2; message = MPropose 1 1 spot (members 3) 1 } ∷ record { to = members 4; message = MPayload 1 1 spot (members 3) } ∷ [])
  pub places : handed_out (sent_by (enter core spot (members 3) 2048)) ≡ (handed 2 0 40 ∷ handed 4 40 36 ∷ [])
  pub second_number : answered (enter (after core (enter core spot (members 3) 2048)) spot (members 3) 2048) ≡ Some 2
  -- what a line brings
  pub no_message : refused (deliver core [] 2048) ≡ 13
  pub no_such_sender : refused (deliver core (encode (MCommit 4 65 1)) 2048) ≡ 14
  pub from_itself : refused (deliver core (encode (MCommit 1 65 1)) 2048) ≡ 15
  pub not_from_home : refused (deliver core (encode (MPayload 2 65 spot (members 6))) 2048) ≡ 15
  pub not_from_owner : refused (deliver core (encode (MConsensus 2 65 1 3)) 2048) ≡ 15
  pub nothing_to_commit : refused (deliver core (encode (MCommit 2 65 1)) 2048) ≡ 16
  pub payload : answered (deliver core (encode (MPayload 3 65 spot (members 6))) 2048) ≡ Some 0
  -- taking over
  pub no_such_change : refused (take_over core 97 2048) ≡ 14
  pub nothing_known : refused (take_over core 65 2048) ≡ 16
  pub next_ballot : answered (take_over (after core (deliver core (encode (MPayload 3 65 spot (members 6))) 2048)) 65 2048) ≡ Some 4
  -- telling, and carrying out with nothing due
  pub told : answered (tell core 2048) ≡ Some 0
  pub told_to : addressed (sent_by (tell core 2048)) ≡ (6 ∷ [])
  pub nothing_due : refused (carry_out order_next order_outcome core no_places) ≡ 20

-- for every site that is controller 1 of three, of which one may be silent
abbrev pub StagedCalls : Type 0
StagedCalls = (site : Site) → site.figures.r ≡ 3 → site.figures.f ≡ 1 → site.own ≡ 1 → CallsOf (first_core site)
