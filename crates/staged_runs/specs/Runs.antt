-- The staged runs. Each is known by what it shows.
use Rattle.std.specs.Prelude.{◌≡◌, ℕ, List, [], ◌∷◌, ◌++◌, replicate, Some, None, Ok, Option}
use Rattle.schedule.specs.declared.change.Change.{Change}
use Rattle.schedule.specs.declared.phase.Phase.TheVariants.{Payload, Propose, RecoverR, Commit}
use Rattle.schedule.specs.declared.set.ControllerSet.{ControllerSet}
use Rattle.line_format.specs.Encoding.{encode}
use Rattle.line_format.specs.declared.message.Message.{Message}
use Rattle.line_format.specs.declared.message.Message.TheVariants.{MPayload, MPropose, MProposeAck, MCommit, MConsensus, MRec, MRecAck}
use Rattle.promise_words.specs.Clocks.{proposal}
use Rattle.promise_words.specs.Stability.{stable_of}
use Rattle.promise_words.specs.Timestamps.{no_words, with_range}
use Rattle.promise_words.specs.declared.timestamps.Timestamps.{Timestamps}
use Rattle.record.specs.Rows.{blank, in_phase, at_ballots}
use Rattle.record.specs.declared.row.Row.{Row}
use Rattle.services.specs.Makes.{order_next, order_outcome, ledger_outcome}
use Rattle.services.specs.Places.{Table, no_places, with_place}
use Rattle.services.specs.Say.{Says, no_says, say_next, say_outcome}
use Rattle.sites.specs.Sending.{to_one, to_others}
use Rattle.steps.specs.Steps.{taking_over}
use Rattle.tables.specs.Tables.{due, finished}
use Rattle.staged_runs.specs.Staging.{Desk, desk, clock_at, start, gets, enters, takes_over, answer_of, seen, shows}

-- a change of which nothing matters but that it is the same everywhere
abbrev pub spot : Change
spot = record { department = 1; kind = 1; hour = 0; slot = 0; value = 30 }

abbrev pub members : ℕ → ControllerSet
members bits = record { bits = bits }

-- Five controllers, home 1 with its clock at 5, fast set 1 to 4: its own reply is 6.
abbrev pub of_five : ℕ → List Message → Desk
of_five f replies = gets 5 f 1 (enters 1 spot (members 15) 5) replies

-- Five controllers of which one may be silent: the fast set is 1 to 3.
abbrev pub of_three_in_five : List Message → Desk
of_three_in_five replies = gets 5 1 1 (enters 1 spot (members 7) 5) replies

-- the sets of 1 to n
abbrev pub up_to : ℕ → Timestamps
up_to n = record { words = with_range no_words 1 n }

abbrev pub only_two : Timestamps
only_two = record { words = with_range no_words 2 2 }

-- controller 2 of three takes over at a ballot
abbrev pub ballot_after : ℕ → Option ℕ
ballot_after b = answer_of (taking_over 3 2 (at_ballots b None (in_phase Payload blank)) (clock_at 0))

-- Both departments claim hour 21, sales at controller 1 and programming at controller 3. Controller 2 is in both fast sets.
abbrev pub claim : ℕ → Change
claim department = record { department = department; kind = 4; hour = 21; slot = 0; value = 0 }

abbrev pub programming_first : Desk
programming_first = gets 3 1 2 (start 0) (MPropose 3 65 (claim 2) (members 6) 1 ∷ [])

abbrev pub sales_then : Desk
sales_then = gets 3 1 2 (desk blank programming_first.clock []) (MPropose 1 1 (claim 1) (members 3) 1 ∷ [])

abbrev pub programming_home : Desk
programming_home = gets 3 1 3 (enters 3 (claim 2) (members 6) 0) (MProposeAck 2 65 1 ∷ [])

abbrev pub sales_home : Desk
sales_home = gets 3 1 1 (enters 1 (claim 1) (members 3) 0) (MProposeAck 2 1 2 ∷ [])

-- the records of changes 1 to 65 where both are committed
abbrev pub both : Row → List Row
both last = sales_home.row ∷ replicate 63 blank ++ (last ∷ [])

abbrev pub no_claims : Says × Table
no_claims = (no_says, no_places)

-- Three controllers, fast set 1 and 2. Controller 3 knows the change, and takes over with the reply of controller 1.
abbrev pub asked_home : Desk
asked_home = gets 3 1 1 (enters 1 spot (members 3) 0) (MRec 3 1 6 ∷ [])

abbrev pub recovering : Desk
recovering = gets 3 1 3 (takes_over 3 3 (gets 3 1 3 (start 0) (MPayload 1 1 spot (members 3) ∷ []))) (MRecAck 1 1 1 4 0 6 ∷ [])

abbrev pub late_proposal : Desk
late_proposal = gets 3 1 2 (start 0) (MConsensus 3 1 1 6 ∷ MPropose 1 1 spot (members 3) 1 ∷ [])

-- The slow run of five, its consensus held up. A member of the fast set with its clock at t, asked by controller 5.
abbrev pub proposed_at : ℕ → ℕ → Desk
proposed_at own t = gets 5 2 own (start t) (MPropose 1 1 spot (members 15) 6 ∷ [])

abbrev pub asked_at : ℕ → ℕ → Desk
asked_at own t = gets 5 2 own (desk (proposed_at own t).row (proposed_at own t).clock []) (MRec 5 1 10 ∷ [])

abbrev pub taken_from_slow : Desk
taken_from_slow =
    gets 5 2 5 (takes_over 5 5 (gets 5 2 5 (start 0) (MPayload 1 1 spot (members 15) ∷ []))) (MRecAck 2 1 7 4 0 10 ∷ MRecAck 4 1 6 4 0 10 ∷ [])

abbrev pub committed_before : Desk
committed_before = gets 5 2 3 (proposed_at 3 10) (MCommit 5 1 7 ∷ MConsensus 1 1 11 1 ∷ [])

-- an hour with 700 seconds booked
abbrev pub at_700 : Table
at_700 = with_place no_places 20 0 700

abbrev pub book : ℕ → Change
book seconds = record { department = 1; kind = 1; hour = 20; slot = 1; value = seconds }

pub record StagedRuns : Type 0 where
  -- replies 6, 7, 11, 11: two gave the greatest, and it is committed at once
  pub fast : seen (of_five 2 (MProposeAck 2 1 7 ∷ MProposeAck 3 1 11 ∷ MProposeAck 4 1 11 ∷ [])) ≡ shows Commit 11 0 None
  pub fast_told :
      (of_five 2 (MProposeAck 2 1 7 ∷ MProposeAck 3 1 11 ∷ MProposeAck 4 1 11 ∷ [])).sent ≡ (to_others 5 1 (MCommit 1 1 11) ∷ [])
  -- replies 6, 7, 11, 6: only one gave the greatest, and it is accepted at ballot 1
  pub slow : seen (of_five 2 (MProposeAck 2 1 7 ∷ MProposeAck 3 1 11 ∷ MProposeAck 4 1 6 ∷ [])) ≡ shows Propose 11 1 (Some 1)
  pub slow_told :
      (of_five 2 (MProposeAck 2 1 7 ∷ MProposeAck 3 1 11 ∷ MProposeAck 4 1 6 ∷ [])).sent ≡ (to_others 5 1 (MConsensus 1 1 11 1) ∷ [])
  -- where one may be silent, one that gave the greatest is enough
  pub fast_by_one : seen (of_three_in_five (MProposeAck 2 1 7 ∷ MProposeAck 3 1 11 ∷ [])) ≡ shows Commit 11 0 None
  -- a clock at 1 that is asked for 6 answers 6, and 2 to 5 are detached
  pub skipped : proposal 6 (clock_at 1) ≡ Ok (6, record { time = 6; detached = record { words = 30 ∷ replicate 24 0 } })
  -- of three with {2}, {1, 2, 3} and {1, 2} the stable timestamp is 2
  pub stable_of_three : stable_of 3 (only_two ∷ up_to 3 ∷ up_to 2 ∷ []) ≡ 2
  -- of four with runs 3, 3, 1 and 1 it is 1: half of a group is no majority
  pub stable_of_four : stable_of 4 (up_to 3 ∷ up_to 3 ∷ up_to 1 ∷ up_to 1 ∷ []) ≡ 1
  -- controller 2 of three takes over at ballots 0, 4 and 5
  pub ballot_above_none : ballot_after 0 ≡ Some 5
  pub ballot_above_4 : ballot_after 4 ≡ Some 5
  pub ballot_above_5 : ballot_after 5 ≡ Some 8
  -- the claim that controller 2 gets first has the earlier timestamp, and the say
  pub first_claim_told : programming_first.sent ≡ (to_one 3 (MProposeAck 2 65 1) ∷ [])
  pub second_claim_told : sales_then.sent ≡ (to_one 1 (MProposeAck 2 1 2) ∷ [])
  pub first_claim : seen programming_home ≡ shows Commit 1 0 None
  pub second_claim : seen sales_home ≡ shows Commit 2 0 None
  pub first_claim_due : due 2 (both programming_home.row) ≡ Some 64
  pub second_claim_due : due 2 (both (finished 1 (0, 0) programming_home.row)) ≡ Some 0
  pub first_claim_holds : say_outcome order_outcome no_claims (claim 2) ≡ (0, 0)
  pub second_claim_refused : say_outcome order_outcome (say_next order_next no_claims (claim 2)) (claim 1) ≡ (8, 2)
  -- a proposal that comes after an acceptance leaves its timestamp
  pub home_asked : asked_home.sent ≡ (to_one 3 (MRecAck 1 1 1 4 0 6) ∷ [])
  pub recovered : seen recovering ≡ shows RecoverR 1 6 (Some 6)
  pub recovered_told : recovering.sent ≡ (to_others 3 3 (MConsensus 3 1 1 6) ∷ [])
  pub late_proposal_leaves : seen late_proposal ≡ shows Payload 1 6 (Some 6)
  -- a take-over of the slow run, without the home: the greatest of the fast set; a late consensus leaves the commit
  pub second_told : (asked_at 2 6).sent ≡ (to_one 5 (MRecAck 2 1 7 4 0 10) ∷ [])
  pub fourth_told : (asked_at 4 5).sent ≡ (to_one 5 (MRecAck 4 1 6 4 0 10) ∷ [])
  pub taken_over : seen taken_from_slow ≡ shows RecoverR 7 10 (Some 10)
  pub taken_over_told : taken_from_slow.sent ≡ (to_others 5 5 (MConsensus 5 1 7 10) ∷ [])
  pub late_consensus_leaves : seen committed_before ≡ shows Commit 7 0 None
  pub late_consensus_told : committed_before.sent ≡ (to_one 1 (MProposeAck 3 1 11) ∷ to_one 1 (MCommit 3 1 7) ∷ [])
  -- an hour at 700 seconds takes 20 more, and not 21
  pub books_20 : ledger_outcome at_700 (book 20) ≡ (0, 0)
  pub refuses_21 : ledger_outcome at_700 (book 21) ≡ (4, 0)
  -- the commit of change 65 under timestamp 1 by controller 1, byte for byte
  pub commit_bytes : encode (MCommit 1 65 1) ≡ (0 ∷ 0 ∷ 0 ∷ 4 ∷ 0 ∷ 0 ∷ 0 ∷ 1 ∷ 0 ∷ 0 ∷ 0 ∷ 65 ∷ 0 ∷ 0 ∷ 0 ∷ 1 ∷ [])
