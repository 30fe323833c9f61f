-- The laws of the line format, in a group of r controllers of which f may be silent.
use Rattle.std.specs.Prelude.{◌≡◌, ℕ, ◌+◌, ◌*◌, ◌^◌, ◌<◌, ◌≤◌, true, List, length, Ok, Err, Result, slice_index}
use Rattle.schedule.specs.Group.{changes_each}
use Rattle.line_format.specs.Encoding.{encode}
use Rattle.line_format.specs.Limits.{within, words, most_pairs}
use Rattle.line_format.specs.Reading.{reading}
use Rattle.line_format.specs.declared.fault.LineFault.{LineFault}
use Rattle.line_format.specs.declared.message.Message.{Message}
use Rattle.line_format.specs.declared.message.Message.TheVariants.{MPayload, MPropose, MProposeAck, MCommit, MConsensus, MConsensusAck, MRec, MRecAck, MPromises}

-- a string of bytes
abbrev pub Bytes : List ℕ → Type 0
Bytes bs = (i : ℕ) → slice_index bs i < 256

-- what the message's own type keeps: a table of words of 64 bits, and a table of pairs
abbrev pub Typed : Message → Type 0
Typed (MPayload s i c set) = Unit {0}
Typed (MPropose s i c set t) = Unit {0}
Typed (MProposeAck s i t) = Unit {0}
Typed (MCommit s i t) = Unit {0}
Typed (MConsensus s i t b) = Unit {0}
Typed (MConsensusAck s i b) = Unit {0}
Typed (MRec s i b) = Unit {0}
Typed (MRecAck s i t p a b) = Unit {0}
Typed (MPromises s p) =
    (length p.detached ≡ words) × ((i : ℕ) → slice_index p.detached i < 2 ^ 64) × (length p.pairs ≡ most_pairs)

-- a message within its limits, read from what it is written as, is that message
abbrev pub ReadsBack : ℕ → ℕ → Type 0
ReadsBack r f = (m : Message) → Typed m → within r f m ≡ true → reading r f (encode m) ≡ Ok m

-- bytes that are read as a message are that message's one encoding
abbrev pub OneEncoding : ℕ → ℕ → Type 0
OneEncoding r f = (bs : List ℕ) → Bytes bs → (m : Message) → reading r f bs ≡ Ok m → bs ≡ encode m

-- the same of one string of bytes and what was read from it
abbrev pub Encoded : List ℕ → Result Message LineFault → Type 0
Encoded bs (Ok m) = bs ≡ encode m
Encoded bs (Err fault) = Unit {0}

-- two strings of bytes that are read as one message are one string
abbrev pub NeverTwo : ℕ → ℕ → Type 0
NeverTwo r f = (xs ys : List ℕ) → Bytes xs → Bytes ys → (m : Message) → reading r f xs ≡ Ok m → reading r f ys ≡ Ok m → xs ≡ ys

-- a message of promises with a pair for every change of the group
abbrev pub longest : ℕ → ℕ
longest r = 212 + 8 * (changes_each * r)

-- no message within its limits is longer
abbrev pub NoLonger : ℕ → ℕ → ℕ → Type 0
NoLonger r f n = (m : Message) → Typed m → within r f m ≡ true → length (encode m) ≤ n
