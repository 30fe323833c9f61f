-- A message as text in words.
use Rattle.std.specs.Prelude.{ℕ, List, [], ◌∷◌, ◌++◌}
use Rattle.schedule.specs.declared.change.Change.{Change}
use Rattle.line_format.specs.declared.limits.Field.{Field}
use Rattle.line_format.specs.declared.limits.Field.TheVariants.{Sender, Id, Department, Kind, Hour, Slot, Value, Set, Timestamp, Ballot, Phase, Accepted, Detached, Pairs}
use Rattle.line_format.specs.declared.message.Message.{Message}
use Rattle.line_format.specs.declared.message.Message.TheVariants.{MPayload, MPropose, MProposeAck, MCommit, MConsensus, MConsensusAck, MRec, MRecAck, MPromises}
use Rattle.text_forms.specs.Forms.{form_of, form_name}
use Rattle.line_text.specs.Promises.{detached_text, pairs_text}
use Rattle.line_text.specs.Values.{number_text, word}

-- a space, then the field as a word
abbrev pub field_text : Field → List ℕ → List ℕ
field_text f value = 32 ∷ word f value

-- fields, each with its number
unfoldable pub numbers_text : List (Field × ℕ) → List ℕ
numbers_text [] = []
numbers_text (e ∷ es) = field_text e.0 (number_text e.0 e.1) ++ numbers_text es

-- what MPayload and MPropose have in common
abbrev pub entry_numbers : ℕ → ℕ → Change → ℕ → List (Field × ℕ)
entry_numbers s i c set =
    (Sender, s) ∷ (Id, i) ∷ (Department, c.department) ∷ (Kind, c.kind) ∷ (Hour, c.hour) ∷ (Slot, c.slot) ∷ (Value, c.value) ∷ (Set, set) ∷ []

-- the fields of each message, in the order of the bytes
abbrev pub fields_text : Message → List ℕ
fields_text (MPayload s i c set) = numbers_text (entry_numbers s i c set.bits)
fields_text (MPropose s i c set t) = numbers_text (entry_numbers s i c set.bits) ++ numbers_text ((Timestamp, t) ∷ [])
fields_text (MProposeAck s i t) = numbers_text ((Sender, s) ∷ (Id, i) ∷ (Timestamp, t) ∷ [])
fields_text (MCommit s i t) = numbers_text ((Sender, s) ∷ (Id, i) ∷ (Timestamp, t) ∷ [])
fields_text (MConsensus s i t b) = numbers_text ((Sender, s) ∷ (Id, i) ∷ (Timestamp, t) ∷ (Ballot, b) ∷ [])
fields_text (MConsensusAck s i b) = numbers_text ((Sender, s) ∷ (Id, i) ∷ (Ballot, b) ∷ [])
fields_text (MRec s i b) = numbers_text ((Sender, s) ∷ (Id, i) ∷ (Ballot, b) ∷ [])
fields_text (MRecAck s i t p a b) =
    numbers_text ((Sender, s) ∷ (Id, i) ∷ (Timestamp, t) ∷ (Phase, p) ∷ (Accepted, a) ∷ (Ballot, b) ∷ [])
fields_text (MPromises s p) =
    numbers_text ((Sender, s) ∷ []) ++ (field_text Detached (detached_text p.detached) ++ field_text Pairs (pairs_text p))

-- a message in words
abbrev pub text : Message → List ℕ
text m = form_name (form_of m) ++ fields_text m
