-- What holds of messages in words and of bytes in hexadecimal as a whole.
use Rattle.std.specs.Prelude.{◌≡◌, ℕ, ◌≤◌, Bool, true, false, Ok}
use Rattle.line_format.specs.Laws.{Typed}
use Rattle.line_format.specs.Limits.{within}
use Rattle.line_format.specs.declared.message.Message.{Message}
use Rattle.line_format.specs.declared.message.Message.TheVariants.{MPayload, MPropose, MProposeAck, MCommit, MConsensus, MConsensusAck, MRec, MRecAck, MPromises}
use Rattle.line_text.specs.Reading.{reading}
use Rattle.line_text.specs.Showing.{text}

-- every message but that of promises has a fixed number of fields
abbrev pub fixed : Message → Bool
fixed (MPayload s i c set) = true
fixed (MPropose s i c set t) = true
fixed (MProposeAck s i t) = true
fixed (MCommit s i t) = true
fixed (MConsensus s i t b) = true
fixed (MConsensusAck s i b) = true
fixed (MRec s i b) = true
fixed (MRecAck s i t p a b) = true
fixed (MPromises s p) = false

-- the text of a message within the limits of a group, which has at most 7 controllers, read back, is the message
abbrev pub ReadsBack : Type 0
ReadsBack = (r f : ℕ) → r ≤ 7 → (m : Message) → fixed m ≡ true → within r f m ≡ true → reading (text m) ≡ Ok m

-- the same of every message that its type can hold
abbrev pub TypedReadsBack : Type 0
TypedReadsBack = (r f : ℕ) → r ≤ 7 → (m : Message) → Typed m → within r f m ≡ true → reading (text m) ≡ Ok m
