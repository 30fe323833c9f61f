-- Reading a message: first its shape, then its limits.
use Rattle.std.specs.Prelude.{ℕ, ◌+◌, ◌*◌, Bool, cond, ◌&&◌, List, ◌++◌, length, drop, replicate, Ok, Err, Result, ◌==◌, nat_eq, nat_le, nat_lt}
use Rattle.schedule.specs.declared.change.Change.{Change}
use Rattle.schedule.specs.declared.set.ControllerSet.{ControllerSet}
use Rattle.line_format.specs.Fields.{int_at, hyper_at, pair_at, fields_at}
use Rattle.line_format.specs.Limits.{within, words, most_pairs}
use Rattle.line_format.specs.declared.fault.LineFault.{LineFault}
use Rattle.line_format.specs.declared.fault.LineFault.TheVariants.{Malformed, OutsideLimits}
use Rattle.line_format.specs.declared.message.Message.{Message}
use Rattle.line_format.specs.declared.message.Message.TheVariants.{MPayload, MPropose, MProposeAck, MCommit, MConsensus, MConsensusAck, MRec, MRecAck, MPromises}
use Rattle.line_format.specs.declared.message.Pair.{Pair}
use Rattle.line_format.specs.declared.message.Promises.{Promises}

-- the change and the set of MPayload and MPropose
abbrev pub change_in : List ℕ → Change
change_in bs =
    record { department = int_at bs 12; kind = int_at bs 16; hour = int_at bs 20; slot = int_at bs 24; value = int_at bs 28 }

abbrev pub set_in : List ℕ → ControllerSet
set_in bs = record { bits = int_at bs 32 }

-- a pair that is not used
abbrev pub no_pair : Pair
no_pair = record { id = 0; timestamp = 0 }

unfoldable pub no_pairs : List Pair
no_pairs = replicate most_pairs no_pair

abbrev pub promises_in : List ℕ → Promises
promises_in bs =
    record { detached = fields_at hyper_at 8 bs 8 words; count = int_at bs 208; pairs = fields_at pair_at 8 bs 212 (int_at bs 208) ++ drop (int_at bs 208) no_pairs }

-- a message of promises has 212 bytes and 8 for each pair
abbrev pub promises_shaped : List ℕ → Bool
promises_shaped bs = nat_le 212 (length bs) && nat_le (int_at bs 208) most_pairs && length bs == 212 + 8 * int_at bs 208

-- the message of a type and length, whatever its numbers; anything else is malformed
abbrev pub shape : List ℕ → Result Message LineFault
shape bs =
    let
    typed : ℕ → ℕ → Bool
    = λ type n. (int_at bs 0 == type) && nat_eq (length bs) n in
    cond (nat_lt (length bs) 4) (Err Malformed)
    (cond (typed 1 36) (Ok (MPayload (int_at bs 4) (int_at bs 8) (change_in bs) (set_in bs)))
    (cond (typed 2 40) (Ok (MPropose (int_at bs 4) (int_at bs 8) (change_in bs) (set_in bs) (int_at bs 36)))
    (cond (typed 3 16) (Ok (MProposeAck (int_at bs 4) (int_at bs 8) (int_at bs 12)))
    (cond (typed 4 16) (Ok (MCommit (int_at bs 4) (int_at bs 8) (int_at bs 12)))
    (cond (typed 5 20) (Ok (MConsensus (int_at bs 4) (int_at bs 8) (int_at bs 12) (int_at bs 16)))
    (cond (typed 6 16) (Ok (MConsensusAck (int_at bs 4) (int_at bs 8) (int_at bs 12)))
    (cond (typed 7 16) (Ok (MRec (int_at bs 4) (int_at bs 8) (int_at bs 12)))
    (cond (typed 8 28) (Ok (MRecAck (int_at bs 4) (int_at bs 8) (int_at bs 12) (int_at bs 16) (int_at bs 20) (int_at bs 24)))
    (cond (int_at bs 0 == 9 && promises_shaped bs) (Ok (MPromises (int_at bs 4) (promises_in bs)))
    (Err Malformed))))))))))

-- a message that has its shape is refused where a field is outside its limits
abbrev pub limited : ℕ → ℕ → Result Message LineFault → Result Message LineFault
limited r f (Ok m) = cond (within r f m) (Ok m) (Err OutsideLimits)
limited r f (Err fault) = Err fault

abbrev pub reading : ℕ → ℕ → List ℕ → Result Message LineFault
reading r f bs = limited r f (shape bs)
