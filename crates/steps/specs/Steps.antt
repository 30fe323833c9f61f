-- The steps: what a message, an entry and a take-over do to the record of a change and to the clock, at controller
-- `own` of a group of r, of which f may be silent.
use Prim.{tt}
use Rattle.std.specs.Prelude.{◌≡◌, ℕ, ◌+◌, Bool, cond, not, ◌&&◌, Some, None, Ok, Err, Option, Result, ◌==◌, nat_eq, nat_le, nat_lt}
use Rattle.std.specs.Bool.{then_some}
use Rattle.std.specs.Option.{option_eq, unwrap_or}
use Rattle.schedule.specs.Group.{slow_quorum, takeover_quorum}
use Rattle.schedule.specs.Phases.{phase_number, phase_of, pending, settled}
use Rattle.schedule.specs.Sets.{size, member}
use Rattle.schedule.specs.declared.change.Change.{Change}
use Rattle.schedule.specs.declared.phase.Phase.{Phase}
use Rattle.schedule.specs.declared.phase.Phase.TheVariants.{Payload, Propose, RecoverR, RecoverP, Commit}
use Rattle.schedule.specs.declared.set.ControllerSet.{ControllerSet}
use Rattle.line_format.specs.declared.message.Message.{Message}
use Rattle.line_format.specs.declared.message.Message.TheVariants.{MPayload, MPropose, MProposeAck, MCommit, MConsensus, MConsensusAck, MRec, MRecAck, MPromises}
use Rattle.promise_words.specs.Clocks.{proposal, bumped}
use Rattle.promise_words.specs.declared.clock.Clock.{Clock}
use Rattle.promise_words.specs.declared.clock.ClockFault.{ClockFault}
use Rattle.record.specs.Replies.{no_replies, unheard, heard, with_timestamp, decision, with_member, newcomer}
use Rattle.record.specs.Choosing.{with_recovery, choice}
use Rattle.record.specs.Rows.{no_proposals, no_acks, in_phase, with_change, at_timestamp, at_ballots, with_promise, with_replies}
use Rattle.record.specs.declared.proposals.Decision.{Decision}
use Rattle.record.specs.declared.proposals.Decision.TheVariants.{Fast, Slow}
use Rattle.record.specs.declared.recoveries.Recovery.{Recovery}
use Rattle.record.specs.declared.row.Row.{Row}
use Rattle.sites.specs.Sending.{just, to_one, to_others}
use Rattle.sites.specs.Sites.{owns, at_home, home_or_none, next_ballot}
use Rattle.sites.specs.declared.refusal.Refusal.{Refusal}
use Rattle.sites.specs.declared.refusal.Refusal.TheVariants.{OutOfStep, BallotsSpent, TimestampsSpent}
use Rattle.sites.specs.declared.sent.Sent.{Sent}

-- what a step leaves: the record, the clock and an answer
pub record Left (A : Type 0) : Type 0 where
  pub row : Row
  pub clock : Clock
  pub answer : A

abbrev pub left : {A : Type 0} → Row → Clock → A → Left A
left w c a = record { row = w; clock = c; answer = a }

-- A step that is not refused leaves just that; a refusal leaves record and clock as they were.
abbrev pub Settled : {A : Type 0} → Result (Left A) Refusal → Row → Clock → Result A Refusal → Row → Clock → Type 0
Settled (Ok done) row clock answer row_after clock_after =
    (answer ≡ Ok done.answer) × (row_after ≡ done.row) × (clock_after ≡ done.clock)
Settled (Err why) row clock answer row_after clock_after = (answer ≡ Err why) × (row_after ≡ row) × (clock_after ≡ clock)

-- The phase has the number n: 0 is start, 1 payload, 2 propose.
abbrev pub in_phase? : ℕ → Row → Bool
in_phase? n w = phase_number w.phase == n

-- the change and its fast set become known
abbrev pub known : Change → ControllerSet → Row → Row
known c set w = in_phase Payload (with_change c set w)

-- t is promised, and the phase becomes p
abbrev pub promised : Phase → ℕ → Row → Row
promised p t w = in_phase p (with_promise t (at_timestamp t w))

-- t is committed; the clock goes to t beside it (bumped)
abbrev pub committed : ℕ → Row → Row
committed t w = in_phase Commit (at_timestamp t w)

-- t is accepted at ballot b, of which 0 is none; the clock goes to t beside it (bumped)
abbrev pub accepted : ℕ → ℕ → Row → Row
accepted t b w = at_ballots b (then_some (not (b == 0)) b) (at_timestamp t w)

-- t is accepted here at a ballot that belongs here, and the own acceptance is the first
abbrev pub leading : ℕ → ℕ → ℕ → Row → Row
leading own t b w = with_replies w.proposals (record { from = record { bits = just own } }) w.recoveries (accepted t b w)

-- a reply to a proposal is noted
abbrev pub with_proposal : ℕ → ℕ → Row → Row
with_proposal c t w =
    with_replies (record { replies = with_timestamp w.proposals.replies c t }) w.acks w.recoveries w

-- an acceptance is noted
abbrev pub with_ack : ℕ → Row → Row
with_ack c w = with_replies w.proposals (record { from = record { bits = with_member w.acks.from.bits c } }) w.recoveries w

-- a reply to a take-over is noted
abbrev pub with_heard : ℕ → Recovery → Row → Row
with_heard c x w = with_replies w.proposals w.acks (record { replies = with_recovery w.recoveries.replies c x }) w

-- a change and its fast set become known, and the next timestamp not below t is promised
abbrev pub promising : Change → ControllerSet → Row → Result (ℕ × Clock) ClockFault → Result (Left ℕ) ClockFault
promising c set w (Ok p) = Ok (left (promised Propose p.0 (with_change c set w)) p.1 p.0)
promising c set w (Err fault) = Err fault

abbrev pub offered : Change → ControllerSet → ℕ → Row → Clock → Result (Left ℕ) ClockFault
offered c set t w clock = promising c set w (proposal t clock)

-- MPropose at ballot 0: the timestamp promised is the reply
abbrev pub proposed : ℕ → ℕ → ℕ → Result (Left ℕ) ClockFault → Result (Left (Option Sent)) Refusal
proposed own s id (Ok done) = Ok (left done.row done.clock (Some (to_one s (MProposeAck own id done.answer))))
proposed own s id (Err fault) = Err (TimestampsSpent fault)

-- MConsensus: t is accepted at ballot b, and its owner is told
abbrev pub followed : ℕ → ℕ → ℕ → ℕ → ℕ → Row → Clock → Left (Option Sent)
followed own s id t b w clock = left (accepted t b w) (bumped t clock) (Some (to_one s (MConsensusAck own id b)))

-- t is committed, the clock goes to t, and the others are told
abbrev pub settling : ℕ → ℕ → ℕ → ℕ → Row → Clock → Left (Option Sent)
settling r own id t w clock = left (committed t w) (bumped t clock) (Some (to_others r own (MCommit own id t)))

-- t is accepted here at ballot b, and the others are asked to
abbrev pub asking : ℕ → ℕ → ℕ → ℕ → ℕ → Row → Clock → Left (Option Sent)
asking r own id t b w clock = left (leading own t b w) (bumped t clock) (Some (to_others r own (MConsensus own id t b)))

-- after a reply to the proposal: commit at once, have it accepted, or wait for the others
abbrev pub decided : ℕ → ℕ → ℕ → Row → Clock → Option Decision → Left (Option Sent)
decided r own id w clock None = left w clock None
decided r own id w clock (Some (Fast t)) = settling r own id t w clock
decided r own id w clock (Some (Slow t)) = asking r own id t own w clock

unfoldable pub gathered : ℕ → ℕ → ℕ → ℕ → Row → Clock → Left (Option Sent)
gathered r f own id w clock = decided r own id w clock (decision f w.set.bits w.proposals.replies)

-- after an acceptance: with f + 1 of them the timestamp is committed
abbrev pub backed : ℕ → ℕ → ℕ → ℕ → Row → Clock → Left (Option Sent)
backed r f own id w clock =
    cond (nat_le (slow_quorum f) (size w.acks.from.bits)) (settling r own id w.timestamp w clock) (left w clock None)

-- a ballot is joined
abbrev pub at_ballot : ℕ → Row → Row
at_ballot b w = at_ballots b w.accepted w

-- phase payload takes a promise of its own
abbrev pub recovering : ℕ → Row → Result (ℕ × Clock) ClockFault → Result (Left (Unit {0})) ClockFault
recovering b w (Ok p) = Ok (left (at_ballot b (promised RecoverR p.0 w)) p.1 tt)
recovering b w (Err fault) = Err fault

-- Joining ballot b. From ballot 0, phase payload becomes recover-r with a promise, and phase propose becomes recover-p.
abbrev pub joining : ℕ → Row → Clock → Result (Left (Unit {0})) ClockFault
joining b w clock =
    cond (w.ballot == 0 && in_phase? 1 w) (recovering b w (proposal 0 clock))
    (cond (w.ballot == 0 && in_phase? 2 w) (Ok (left (at_ballot b (in_phase RecoverP w)) clock tt))
    (Ok (left (at_ballot b w) clock tt)))

-- MRec: whoever joins tells its timestamp, its phase and the ballot at which it had accepted, 0 for none
abbrev pub rejoined : ℕ → ℕ → ℕ → ℕ → Result (Left (Unit {0})) ClockFault → Result (Left (Option Sent)) Refusal
rejoined own s id b (Ok done) =
    let w : Row = done.row in
    Ok (left w done.clock (Some (to_one s (MRecAck own id w.timestamp (phase_number w.phase) (unwrap_or w.accepted 0) b))))
rejoined own s id b (Err fault) = Err (TimestampsSpent fault)

-- after a reply to the take-over: with r − f of them the choice is accepted here
abbrev pub chosen : ℕ → ℕ → ℕ → ℕ → ℕ → Row → Clock → Left (Option Sent)
chosen r f own id b w clock =
    cond (nat_le (takeover_quorum r f) (heard w.recoveries.replies))
    (asking r own id (choice (home_or_none r id) w.set.bits w.recoveries.replies) b w clock)
    (left w clock None)

-- MRecAck: the reply is noted, under the phase that its number stands for; accepted ballot 0 is none
abbrev pub replied : ℕ → ℕ → ℕ → ℕ → ℕ → ℕ → ℕ → ℕ → Row → Clock → Option Phase → Result (Left (Option Sent)) Refusal
replied r f own s id t a b w clock (Some p) =
    Ok (chosen r f own id b (with_heard s (record { timestamp = t; phase = p; accepted = then_some (not (a == 0)) a }) w) clock)
replied r f own s id t a b w clock None = Err OutOfStep

-- the commit of a settled change, for one that still asks
abbrev pub told_commit : ℕ → ℕ → ℕ → Row → Option Sent
told_commit own s id w = Some (to_one s (MCommit own id w.timestamp))

-- A reply to the proposal counts: at the home, from a member of the fast set that has not replied.
abbrev pub counts_proposal : ℕ → ℕ → ℕ → ℕ → Row → Bool
counts_proposal r own id s w = at_home r own id && member w.set.bits s && unheard w.proposals.replies s

-- An acceptance at ballot b counts: b was accepted here and belongs here, and the sender has not accepted before.
abbrev pub counts_ack : ℕ → ℕ → ℕ → ℕ → Row → Bool
counts_ack r own b s w = option_eq nat_eq w.accepted (Some b) && owns r own b && newcomer w.acks.from.bits s

-- A reply to the take-over at ballot b counts: nothing was accepted at b, which belongs here and is above r, and the
-- sender has not replied.
abbrev pub counts_recovery : ℕ → ℕ → ℕ → ℕ → Row → Bool
counts_recovery r own b s w = not (option_eq nat_eq w.accepted (Some b)) && owns r own b && nat_lt r b && unheard w.recoveries.replies s

-- What each message does. Out of step is refusal 16, and a timestamp past the last one refusal 19. A pending phase is one of
-- 1 to 4 (payload, propose, recover-r, recover-p), and a settled one 5 or 6 (commit, carried out).
abbrev pub step : ℕ → ℕ → ℕ → Message → Row → Clock → Result (Left (Option Sent)) Refusal
-- In phase start (0), at any ballot, outside the fast set: the change becomes known. Else out of step.
step r f own (MPayload s id c set) w clock =
    cond (in_phase? 0 w && not (member set.bits own)) (Ok (left (known c set w) clock None)) (Err OutOfStep)
-- In phase start (0), in the fast set: at ballot 0 the next timestamp not below t is promised and replied, or it is past the
-- last one (19); at any other ballot the change becomes known, and no more. Else out of step.
step r f own (MPropose s id c set t) w clock =
    cond (in_phase? 0 w && member set.bits own)
    (cond (w.ballot == 0) (proposed own s id (offered c set t w clock)) (Ok (left (known c set w) clock None)))
    (Err OutOfStep)
-- In phase propose (2), at ballot 0, where the reply counts: it is noted, and the last of the fast set decides. Else out of step.
step r f own (MProposeAck s id t) w clock =
    cond (in_phase? 2 w && w.ballot == 0 && counts_proposal r own id s w)
    (Ok (gathered r f own id (with_proposal s t w) clock))
    (Err OutOfStep)
-- In a pending phase, at any ballot: t is committed. Else out of step.
step r f own (MCommit s id t) w clock = cond (pending w.phase) (Ok (left (committed t w) (bumped t clock) None)) (Err OutOfStep)
-- In a settled phase, at any ballot: the commit is told. In phase start (0) or a pending one, at a ballot up to b: t is accepted
-- at b, and the sender is told. Else out of step.
step r f own (MConsensus s id t b) w clock =
    cond (settled w.phase) (Ok (left w clock (told_commit own s id w)))
    (cond (nat_le w.ballot b) (Ok (followed own s id t b w clock)) (Err OutOfStep))
-- In a pending phase, at ballot b, where the acceptance counts: it is noted, and commits once there are enough. Else out of step.
step r f own (MConsensusAck s id b) w clock =
    cond (pending w.phase && w.ballot == b && counts_ack r own b s w)
    (Ok (backed r f own id (with_ack s w) clock))
    (Err OutOfStep)
-- In a settled phase, at any ballot: the commit is told. In a pending one, at a ballot below b: b is joined, and the sender is
-- told what was promised or accepted; a promise may be past the last timestamp (19). Else out of step.
step r f own (MRec s id b) w clock =
    cond (settled w.phase) (Ok (left w clock (told_commit own s id w)))
    (cond (pending w.phase && nat_lt w.ballot b) (rejoined own s id b (joining b w clock))
    (Err OutOfStep))
-- In a pending phase, at ballot b, where the reply counts and p is the number of a phase: it is noted, and with enough of them
-- the choice is accepted at b. Else out of step.
step r f own (MRecAck s id t p a b) w clock =
    cond (pending w.phase && w.ballot == b && counts_recovery r own b s w)
    (replied r f own s id t a b w clock (phase_of p))
    (Err OutOfStep)
-- Not about one change: always out of step.
step r f own (MPromises s p) w clock = Err OutOfStep

-- Enter: phase propose with the next timestamp, and the own reply noted.
abbrev pub begun : ℕ → Result (Left ℕ) ClockFault → Result (Left ℕ) Refusal
begun own (Ok done) = Ok (left (with_proposal own done.answer done.row) done.clock done.answer)
begun own (Err fault) = Err (TimestampsSpent fault)

abbrev pub entering : ℕ → Change → ControllerSet → Row → Clock → Result (Left ℕ) Refusal
entering own c set w clock = begun own (offered c set (clock.time + 1) w clock)

-- Take over: the next ballot that belongs here is joined, earlier replies are dropped, and the own reply is the first.
abbrev pub own_reply : Row → Recovery
own_reply w = record { timestamp = w.timestamp; phase = w.phase; accepted = w.accepted }

abbrev pub taken : ℕ → ℕ → Result (Left (Unit {0})) ClockFault → Result (Left ℕ) Refusal
taken own b (Ok done) =
    let w : Row = done.row in
    Ok (left (with_replies no_proposals no_acks (record { replies = with_recovery no_replies own (own_reply w) }) w) done.clock b)
taken own b (Err fault) = Err (TimestampsSpent fault)

abbrev pub taken_at : ℕ → Row → Clock → Option ℕ → Result (Left ℕ) Refusal
taken_at own w clock None = Err BallotsSpent
taken_at own w clock (Some b) = taken own b (joining b w clock)

-- Refused with 16 where the phase is not pending, with 18 where no ballot is left, and with 19 where joining it would
-- promise a timestamp past the last one.
abbrev pub taking_over : ℕ → ℕ → Row → Clock → Result (Left ℕ) Refusal
taking_over r own w clock = cond (pending w.phase) (taken_at own w clock (next_ballot r own w.ballot)) (Err OutOfStep)
