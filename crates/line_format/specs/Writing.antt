-- Writing a message into a buffer.
use Rattle.std.specs.Prelude.{◌≡◌, ℕ, ◌+◌, ◌≤◌, Bool, true, cond, List, ◌++◌, length, take, drop, Ok, Err, Result, nat_le, nat_lt}
use Rattle.line_format.specs.Encoding.{encode}
use Rattle.line_format.specs.Limits.{within, most_pairs}
use Rattle.line_format.specs.declared.fault.LineFault.{LineFault}
use Rattle.line_format.specs.declared.fault.LineFault.TheVariants.{ShortBuffer, Malformed, OutsideLimits}
use Rattle.line_format.specs.declared.writing.Writer.{Writer}
use Rattle.line_format.specs.declared.message.Message.{Message}
use Rattle.line_format.specs.declared.message.Message.TheVariants.{MPayload, MPropose, MProposeAck, MCommit, MConsensus, MConsensusAck, MRec, MRecAck, MPromises}

-- every outgoing buffer has at least this many bytes, so that every message fits
abbrev pub least_buffer : ℕ
least_buffer = 2048

-- no more pairs than a message of promises holds
abbrev pub count_fits : Message → Bool
count_fits (MPayload s i c set) = true
count_fits (MPropose s i c set t) = true
count_fits (MProposeAck s i t) = true
count_fits (MCommit s i t) = true
count_fits (MConsensus s i t b) = true
count_fits (MConsensusAck s i b) = true
count_fits (MRec s i b) = true
count_fits (MRecAck s i t p a b) = true
count_fits (MPromises s p) = nat_le p.count most_pairs

-- bytes at a place of a buffer, and the buffer's own before and after them
abbrev pub laid_at : ℕ → List ℕ → List ℕ → List ℕ
laid_at at bs buffer = take at buffer ++ (bs ++ drop (at + length bs) buffer)

-- room for n bytes more
abbrev pub HasRoom : Writer → ℕ → Type 0
HasRoom writer n = writer.at + n ≤ length writer.buffer.now

-- bytes put at a writer's place, which then lies after them
pub record Puts (before after : Writer) (bytes : List ℕ) : Type 0 where
  pub same_buffer : after.buffer.ghost_name ≡ before.buffer.ghost_name
  pub same_length : length after.buffer.now ≡ length before.buffer.now
  pub place : after.at ≡ before.at + length bytes
  pub laid : after.buffer.now ≡ laid_at before.at bytes before.buffer.now

-- bytes at the start of a buffer, and the buffer's own past them
abbrev pub laid_over : List ℕ → List ℕ → List ℕ
laid_over bs buffer = bs ++ drop (length bs) buffer

-- the buffer after, or the refusal
abbrev pub writing : ℕ → ℕ → Message → List ℕ → Result (List ℕ) LineFault
writing r f m buffer =
    cond (nat_lt (length buffer) least_buffer) (Err ShortBuffer)
    (cond (count_fits m) (cond (within r f m) (Ok (laid_over (encode m) buffer)) (Err OutsideLimits)) (Err Malformed))

-- Ok: the answer is the message's length, and the buffer is the one given; a refusal leaves the buffer as it was
abbrev pub Written : Message → List ℕ → List ℕ → Result (List ℕ) LineFault → Result ℕ LineFault → Type 0
Written m before after (Ok buffer) answer = (answer ≡ Ok (length (encode m))) × (after ≡ buffer)
Written m before after (Err fault) answer = (answer ≡ Err fault) × (after ≡ before)
