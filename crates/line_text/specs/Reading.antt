-- Reading a message from its words.
use Rattle.std.specs.Prelude.{ℕ, List, [], ◌∷◌, ◌++◌, map, length, drop, Ok, Err, Option, Result, slice_index}
use Rattle.std.specs.Option.{ok_or}
use Rattle.std.specs.Borrow.{Bor}
use Rattle.std.specs.Slice.Iter.{iter_rest}
use Rattle.schedule.specs.declared.change.Change.{Change}
use Rattle.schedule.specs.declared.set.ControllerSet.{ControllerSet}
use Rattle.line_format.specs.declared.limits.Field.{Field}
use Rattle.line_format.specs.declared.limits.Field.TheVariants.{Sender, Id, Department, Kind, Hour, Slot, Value, Set, Timestamp, Ballot, Phase, Accepted, Detached, Pairs}
use Rattle.line_format.specs.declared.message.Message.{Message}
use Rattle.line_format.specs.declared.message.Message.TheVariants.{MPayload, MPropose, MProposeAck, MCommit, MConsensus, MConsensusAck, MRec, MRecAck, MPromises}
use Rattle.text_forms.specs.Forms.{form_named}
use Rattle.line_text.specs.Lists.{listed, words}
use Rattle.line_text.specs.Promises.{with_detached, no_detached, with_pair, none_yet}
use Rattle.line_text.specs.Values.{number_of, value_in}
use Rattle.line_text.specs.declared.fault.NotUnderstood.{NotUnderstood}
use Rattle.line_text.specs.declared.fault.NotUnderstood.TheVariants as fault
use Rattle.line_text.specs.declared.rest.Rest.{Rest}
use Rattle.text_forms.specs.declared.form.Form.{Form}
use Rattle.text_forms.specs.declared.form.Form.TheVariants as form

-- the texts that words point to
abbrev pub texts : List (Bor (List ℕ)) → List (List ℕ)
texts ws = map (λ w. w.now) ws

-- the words that are still to be read
abbrev pub to_read : Rest → List (List ℕ)
to_read rest = texts (iter_rest rest.words)

-- first one, then what follows from it
abbrev pub then : {A B : Type 0} → Result A NotUnderstood → (A → Result B NotUnderstood) → Result B NotUnderstood
then (Ok a) next = next a
then (Err e) next = Err e

-- the value of the field that should come first
unfoldable pub value_first : Field → List (List ℕ) → Result (List ℕ) NotUnderstood
value_first f [] = Err (fault.Expected f)
value_first f (w ∷ ws) = value_in f w

-- the number of the field that should come first, and the numbers of fields one after the other
unfoldable pub number_first : Field → List (List ℕ) → Result ℕ NotUnderstood
number_first f ws = then (value_first f ws) (λ v. ok_or (number_of f v) (fault.Value f))

unfoldable pub numbers_first : List Field → List (List ℕ) → Result (List ℕ) NotUnderstood
numbers_first [] ws = Ok []
numbers_first (f ∷ fs) ws = then (number_first f ws) (λ n. then (numbers_first fs (drop 1 ws)) (λ ns. Ok (n ∷ ns)))

-- what the list in the field that should come first adds
unfoldable pub listed_first : {A : Type 0} → (A → List ℕ → Option A) → A → Field → List (List ℕ) → Result A NotUnderstood
listed_first adds a f ws = then (value_first f ws) (λ v. ok_or (listed adds a v) (fault.Value f))

-- what was read, where no word is left
abbrev pub ended : {A : Type 0} → List (List ℕ) → A → Result A NotUnderstood
ended [] a = Ok a
ended (w ∷ ws) a = Err fault.Leftover

-- the numbers of fields, where no word follows them
unfoldable pub numbers_all : List Field → List (List ℕ) → Result (List ℕ) NotUnderstood
numbers_all fs ws = then (numbers_first fs ws) (λ ns. ended (drop (length fs) ws) ns)

-- what MPayload and MPropose have in common
abbrev pub entry_fields : List Field
entry_fields = Sender ∷ Id ∷ Department ∷ Kind ∷ Hour ∷ Slot ∷ Value ∷ Set ∷ []

abbrev pub entry_change : List ℕ → Change
entry_change ns = record { department = slice_index ns 2; kind = slice_index ns 3; hour = slice_index ns 4; slot = slice_index ns 5; value = slice_index ns 6 }

abbrev pub entry_set : List ℕ → ControllerSet
entry_set ns = record { bits = slice_index ns 7 }

abbrev pub entry : List ℕ → ℕ × ℕ × Change × ControllerSet
entry ns = (slice_index ns 0, slice_index ns 1, entry_change ns, entry_set ns)

-- each message: its fields in the order of the bytes
abbrev pub payload : List (List ℕ) → Result Message NotUnderstood
payload ws = then (numbers_all entry_fields ws) (λ ns. Ok (MPayload (slice_index ns 0) (slice_index ns 1) (entry_change ns) (entry_set ns)))

abbrev pub propose : List (List ℕ) → Result Message NotUnderstood
propose ws =
    then (numbers_all (entry_fields ++ Timestamp ∷ []) ws) (λ ns. Ok (MPropose (slice_index ns 0) (slice_index ns 1) (entry_change ns) (entry_set ns) (slice_index ns 8)))

abbrev pub propose_ack : List (List ℕ) → Result Message NotUnderstood
propose_ack ws = then (numbers_all (Sender ∷ Id ∷ Timestamp ∷ []) ws) (λ ns. Ok (MProposeAck (slice_index ns 0) (slice_index ns 1) (slice_index ns 2)))

abbrev pub commit : List (List ℕ) → Result Message NotUnderstood
commit ws = then (numbers_all (Sender ∷ Id ∷ Timestamp ∷ []) ws) (λ ns. Ok (MCommit (slice_index ns 0) (slice_index ns 1) (slice_index ns 2)))

abbrev pub consensus : List (List ℕ) → Result Message NotUnderstood
consensus ws =
    then (numbers_all (Sender ∷ Id ∷ Timestamp ∷ Ballot ∷ []) ws) (λ ns. Ok (MConsensus (slice_index ns 0) (slice_index ns 1) (slice_index ns 2) (slice_index ns 3)))

abbrev pub consensus_ack : List (List ℕ) → Result Message NotUnderstood
consensus_ack ws = then (numbers_all (Sender ∷ Id ∷ Ballot ∷ []) ws) (λ ns. Ok (MConsensusAck (slice_index ns 0) (slice_index ns 1) (slice_index ns 2)))

abbrev pub recover : List (List ℕ) → Result Message NotUnderstood
recover ws = then (numbers_all (Sender ∷ Id ∷ Ballot ∷ []) ws) (λ ns. Ok (MRec (slice_index ns 0) (slice_index ns 1) (slice_index ns 2)))

abbrev pub recover_ack : List (List ℕ) → Result Message NotUnderstood
recover_ack ws =
    then (numbers_all (Sender ∷ Id ∷ Timestamp ∷ Phase ∷ Accepted ∷ Ballot ∷ []) ws) (λ ns. Ok (MRecAck (slice_index ns 0) (slice_index ns 1) (slice_index ns 2) (slice_index ns 3) (slice_index ns 4) (slice_index ns 5)))

abbrev pub promises : List (List ℕ) → Result Message NotUnderstood
promises ws =
    then (number_first Sender ws) (λ s. then (listed_first with_detached no_detached Detached (drop 1 ws)) (λ d. then (listed_first with_pair none_yet Pairs (drop 1 (drop 1 ws))) (λ p. ended (drop 1 (drop 1 (drop 1 ws))) (MPromises s (record { detached = d.words; count = p.count; pairs = p.pairs })))))

-- the message of a form
abbrev pub by_form : Form → List (List ℕ) → Result Message NotUnderstood
by_form form.MPayload ws = payload ws
by_form form.MPropose ws = propose ws
by_form form.MProposeAck ws = propose_ack ws
by_form form.MCommit ws = commit ws
by_form form.MConsensus ws = consensus ws
by_form form.MConsensusAck ws = consensus_ack ws
by_form form.MRec ws = recover ws
by_form form.MRecAck ws = recover_ack ws
by_form form.MPromises ws = promises ws

-- the message that words say: the first names its form
abbrev pub said : List (List ℕ) → Result Message NotUnderstood
said [] = Err fault.Name
said (name ∷ ws) = then (ok_or (form_named name) fault.Name) (λ form. by_form form ws)

-- the message that a text says
abbrev pub reading : List ℕ → Result Message NotUnderstood
reading line = said (words line)
