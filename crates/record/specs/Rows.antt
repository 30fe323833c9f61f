-- The record of one change, and what is altered of it at a time.
use Rattle.std.specs.Prelude.{ℕ, Some, None, Option}
use Rattle.schedule.specs.declared.change.Change.{Change}
use Rattle.schedule.specs.declared.set.ControllerSet.{ControllerSet}
use Rattle.record.specs.Replies.{no_replies}
use Rattle.record.specs.declared.acks.Acks.{Acks}
use Rattle.schedule.specs.declared.phase.Phase.{Phase}
use Rattle.schedule.specs.declared.phase.Phase.TheVariants.{Start}
use Rattle.record.specs.declared.recoveries.Recovery.{Recovery}
use Rattle.record.specs.declared.replies.Replies.{Replies}
use Rattle.record.specs.declared.row.Row.{Row}

abbrev pub no_proposals : Replies ℕ
no_proposals = record { replies = no_replies }

abbrev pub no_acks : Acks
no_acks = record { from = record { bits = 0 } }

abbrev pub none_heard : Replies Recovery
none_heard = record { replies = no_replies }

-- nothing is known of the change
abbrev pub blank : Row
blank =
    record { phase = Start; change = record { department = 0; kind = 0; hour = 0; slot = 0; value = 0 }; set = record { bits = 0 }; timestamp = 0; ballot = 0; accepted = None; promise = None; proposals = no_proposals; acks = no_acks; recoveries = none_heard; place = 0; outcome = (0, 0) }

-- the phase
abbrev pub in_phase : Phase → Row → Row
in_phase p w = record w { phase = p }

-- the change and its fast set
abbrev pub with_change : Change → ControllerSet → Row → Row
with_change c s w = record w { change = c; set = s }

-- the timestamp
abbrev pub at_timestamp : ℕ → Row → Row
at_timestamp t w = record w { timestamp = t }

-- the ballot, and the one accepted
abbrev pub at_ballots : ℕ → Option ℕ → Row → Row
at_ballots b a w = record w { ballot = b; accepted = a }

-- the own promise
abbrev pub with_promise : ℕ → Row → Row
with_promise t w = record w { promise = Some t }

-- the replies, by kind
abbrev pub with_replies : Replies ℕ → Acks → Replies Recovery → Row → Row
with_replies p a h w = record w { proposals = p; acks = a; recoveries = h }

-- carried out at a place, with an outcome
abbrev pub carried_out : ℕ → ℕ × ℕ → Phase → Row → Row
carried_out n o p w = record w { phase = p; place = n; outcome = o }
