-- The one encoding of each message: its type, its sender, then its fields.
use Rattle.std.specs.Prelude.{ℕ, List, [], ◌∷◌, ◌++◌, take}
use Rattle.schedule.specs.declared.change.Change.{Change}
use Rattle.schedule.specs.declared.set.ControllerSet.{ControllerSet}
use Rattle.line_format.specs.Fields.{int_bytes, hyper_bytes, pair_bytes, fields}
use Rattle.line_format.specs.declared.message.Promises.{Promises}
use Rattle.line_format.specs.declared.message.Message.{Message}
use Rattle.line_format.specs.declared.message.Message.TheVariants.{MPayload, MPropose, MProposeAck, MCommit, MConsensus, MConsensusAck, MRec, MRecAck, MPromises}

abbrev pub ints : List ℕ → List ℕ
ints ns = fields int_bytes ns

abbrev pub promises_bytes : Promises → List ℕ
promises_bytes p = fields hyper_bytes p.detached ++ (ints (p.count ∷ []) ++ fields pair_bytes (take p.count p.pairs))

-- a message's type, its sender, and a change as it is entered: its id, its fields and its set
abbrev pub entry_bytes : ℕ → ℕ → ℕ → Change → ControllerSet → List ℕ
entry_bytes type sender id change set =
    ints (type ∷ sender ∷ id ∷ change.department ∷ change.kind ∷ change.hour ∷ change.slot ∷ change.value ∷ set.bits ∷ [])

abbrev pub encode : Message → List ℕ
encode (MPayload sender id change set) = entry_bytes 1 sender id change set
encode (MPropose sender id change set timestamp) = entry_bytes 2 sender id change set ++ ints (timestamp ∷ [])
encode (MProposeAck sender id timestamp) = ints (3 ∷ sender ∷ id ∷ timestamp ∷ [])
encode (MCommit sender id timestamp) = ints (4 ∷ sender ∷ id ∷ timestamp ∷ [])
encode (MConsensus sender id timestamp ballot) = ints (5 ∷ sender ∷ id ∷ timestamp ∷ ballot ∷ [])
encode (MConsensusAck sender id ballot) = ints (6 ∷ sender ∷ id ∷ ballot ∷ [])
encode (MRec sender id ballot) = ints (7 ∷ sender ∷ id ∷ ballot ∷ [])
encode (MRecAck sender id timestamp phase accepted ballot) =
    ints (8 ∷ sender ∷ id ∷ timestamp ∷ phase ∷ accepted ∷ ballot ∷ [])
encode (MPromises sender p) = ints (9 ∷ sender ∷ []) ++ promises_bytes p
