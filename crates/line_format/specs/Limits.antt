-- The limits of every field, in a group of r controllers of which f may be silent.
use Rattle.std.specs.Prelude.{◌≡◌, ℕ, ◌-◌, ◌*◌, ◌^◌, Bool, true, cond, not, ◌&&◌, List, [], ◌∷◌, ◌++◌, take, drop, is_some, Some, None, Option, Result, ◌==◌, nat_le, nat_lt, slice_index}
use Rattle.std.specs.List.{list_all}
use Rattle.std.specs.Result.{result_err}
use Rattle.schedule.specs.Changes.{department_fits, kind_fits, hour_fits, slot_fits, value_fits}
use Rattle.schedule.specs.Group.{id_fits, timestamp_fits, ballot_fits, last_timestamp, last_ballot, home}
use Rattle.schedule.specs.Sets.{fast_set}
use Rattle.schedule.specs.declared.change.Change.{Change}
use Rattle.line_format.specs.declared.limits.Field.{Field}
use Rattle.line_format.specs.declared.limits.Field.TheVariants.{Sender, Id, Department, Kind, Hour, Slot, Value, Set, Timestamp, Ballot, Phase, Accepted, Detached, Pairs}
use Rattle.line_format.specs.declared.message.Message.{Message}
use Rattle.line_format.specs.declared.message.Message.TheVariants.{MPayload, MPropose, MProposeAck, MCommit, MConsensus, MConsensusAck, MRec, MRecAck, MPromises}
use Rattle.line_format.specs.declared.message.Pair.{Pair}
use Rattle.line_format.specs.declared.message.Promises.{Promises}

-- how many pairs a message of promises holds at most, and how many words hold a day's timestamps
abbrev pub most_pairs : ℕ
most_pairs = 224

abbrev pub words : ℕ
words = 25

abbrev pub sender_fits : ℕ → ℕ → Bool
sender_fits r s = nat_le 1 s && nat_le s r

-- a fast set of the change's home
abbrev pub set_fits : ℕ → ℕ → ℕ → ℕ → Bool
set_fits r f id set = id_fits r id && fast_set r f (home id) set

abbrev pub phase_fits : ℕ → Bool
phase_fits p = nat_le 1 p && nat_le p 4

-- 0 says that nothing was accepted
abbrev pub accepted_fits : ℕ → Bool
accepted_fits a = nat_le a last_ballot

-- no bit above the last timestamp: the last word has only so many
abbrev pub detached_fits : List ℕ → Bool
detached_fits ws = nat_lt (slice_index ws (words - 1)) (2 ^ (last_timestamp - 64 * (words - 1)))

-- a pair within its limits, its change's number above the one before
abbrev pub pair_fits : ℕ → ℕ → Pair → Bool
pair_fits r last p = nat_lt last p.id && id_fits r p.id && timestamp_fits p.timestamp

-- each pair within its limits, the numbers of the changes rising
abbrev pub pairs_rise : ℕ → ℕ → List Pair → Bool
pairs_rise r last [] = true
pairs_rise r last (p ∷ ps) = pair_fits r last p && pairs_rise r p.id ps

-- places that are not used hold zeros
abbrev pub unused : List Pair → Bool
unused ps = list_all (λ p. p.id == 0 && p.timestamp == 0) ps

abbrev pub pairs_fit : ℕ → Promises → Bool
pairs_fit r p = nat_le p.count most_pairs && pairs_rise r 0 (take p.count p.pairs) && unused (drop p.count p.pairs)

-- a field, and whether it is within its limits
pub record Check : Type 0 where
  pub field : Field
  pub fits : Bool

abbrev pub check : Field → Bool → Check
check field fits = record { field = field; fits = fits }

abbrev pub sender_check : ℕ → ℕ → Check
sender_check r s = check Sender (sender_fits r s)

abbrev pub id_check : ℕ → ℕ → Check
id_check r i = check Id (id_fits r i)

abbrev pub timestamp_check : ℕ → Check
timestamp_check t = check Timestamp (timestamp_fits t)

abbrev pub ballot_check : ℕ → Check
ballot_check b = check Ballot (ballot_fits b)

-- a take-over's ballot is above r
abbrev pub takeover_check : ℕ → ℕ → Check
takeover_check r b = check Ballot (ballot_fits b && nat_lt r b)

-- the change and the set of MPayload and MPropose
abbrev pub entry_checks : ℕ → ℕ → ℕ → Change → ℕ → List Check
entry_checks r f i c set =
    check Department (department_fits c.department) ∷ check Kind (kind_fits c.kind) ∷ check Hour (hour_fits c.hour) ∷ check Slot (slot_fits c.slot) ∷ check Value (value_fits c.value) ∷ check Set (set_fits r f i set) ∷ []

-- what MRecAck answers of a change
abbrev pub answer_checks : ℕ → ℕ → ℕ → ℕ → List Check
answer_checks t p a b =
    timestamp_check t ∷ check Phase (phase_fits p) ∷ check Accepted (accepted_fits a) ∷ ballot_check b ∷ []

abbrev pub promises_checks : ℕ → Promises → List Check
promises_checks r p = check Detached (detached_fits p.detached) ∷ check Pairs (pairs_fit r p) ∷ []

-- who sends a message, and the change that it is about
abbrev pub first_checks : ℕ → Message → List Check
first_checks r (MPayload s i c set) = sender_check r s ∷ id_check r i ∷ []
first_checks r (MPropose s i c set t) = sender_check r s ∷ id_check r i ∷ []
first_checks r (MProposeAck s i t) = sender_check r s ∷ id_check r i ∷ []
first_checks r (MCommit s i t) = sender_check r s ∷ id_check r i ∷ []
first_checks r (MConsensus s i t b) = sender_check r s ∷ id_check r i ∷ []
first_checks r (MConsensusAck s i b) = sender_check r s ∷ id_check r i ∷ []
first_checks r (MRec s i b) = sender_check r s ∷ id_check r i ∷ []
first_checks r (MRecAck s i t p a b) = sender_check r s ∷ id_check r i ∷ []
first_checks r (MPromises s p) = sender_check r s ∷ []

-- the fields after those
abbrev pub rest_checks : ℕ → ℕ → Message → List Check
rest_checks r f (MPayload s i c set) = entry_checks r f i c set.bits
rest_checks r f (MPropose s i c set t) = entry_checks r f i c set.bits ++ (timestamp_check t ∷ [])
rest_checks r f (MProposeAck s i t) = timestamp_check t ∷ []
rest_checks r f (MCommit s i t) = timestamp_check t ∷ []
rest_checks r f (MConsensus s i t b) = timestamp_check t ∷ ballot_check b ∷ []
rest_checks r f (MConsensusAck s i b) = ballot_check b ∷ []
rest_checks r f (MRec s i b) = takeover_check r b ∷ []
rest_checks r f (MRecAck s i t p a b) = answer_checks t p a b
rest_checks r f (MPromises s p) = promises_checks r p

-- the checks of each message, in the order of its bytes
abbrev pub checks : ℕ → ℕ → Message → List Check
checks r f m = first_checks r m ++ rest_checks r f m

-- the first field that is outside its limits
abbrev pub first_unfit : List Check → Option Field
first_unfit [] = None
first_unfit (c ∷ cs) = cond c.fits (first_unfit cs) (Some c.field)

-- an answer that refuses the first such field, if there is one
abbrev pub Refuses : Result (Unit {0}) Field → List Check → Type 0
Refuses answer checks = result_err answer ≡ first_unfit checks

abbrev pub unfit : ℕ → ℕ → Message → Option Field
unfit r f m = first_unfit (checks r f m)

abbrev pub within : ℕ → ℕ → Message → Bool
within r f m = not (is_some (unfit r f m))
