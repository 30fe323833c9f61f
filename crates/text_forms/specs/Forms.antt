-- The nine forms of a message, and their names.
use Rattle.std.specs.Prelude.{ℕ, cond, List, Some, None, codes, Option}
use Rattle.std.specs.Str.{bytes_eq}
use Rattle.line_format.specs.declared.message.Message.{Message}
use Rattle.line_format.specs.declared.message.Message.TheVariants as message
use Rattle.text_forms.specs.declared.form.Form.{Form}
use Rattle.text_forms.specs.declared.form.Form.TheVariants.{MPayload, MPropose, MProposeAck, MCommit, MConsensus, MConsensusAck, MRec, MRecAck, MPromises}

abbrev pub form_of : Message → Form
form_of (message.MPayload s i c set) = MPayload
form_of (message.MPropose s i c set t) = MPropose
form_of (message.MProposeAck s i t) = MProposeAck
form_of (message.MCommit s i t) = MCommit
form_of (message.MConsensus s i t b) = MConsensus
form_of (message.MConsensusAck s i b) = MConsensusAck
form_of (message.MRec s i b) = MRec
form_of (message.MRecAck s i t p a b) = MRecAck
form_of (message.MPromises s p) = MPromises

abbrev pub form_name : Form → List ℕ
form_name MPayload = codes "MPayload"
form_name MPropose = codes "MPropose"
form_name MProposeAck = codes "MProposeAck"
form_name MCommit = codes "MCommit"
form_name MConsensus = codes "MConsensus"
form_name MConsensusAck = codes "MConsensusAck"
form_name MRec = codes "MRec"
form_name MRecAck = codes "MRecAck"
form_name MPromises = codes "MPromises"

-- the form of this name
abbrev pub form_named : List ℕ → Option Form
form_named w =
    cond (bytes_eq w (form_name MPayload)) (Some MPayload)
    (cond (bytes_eq w (form_name MPropose)) (Some MPropose)
    (cond (bytes_eq w (form_name MProposeAck)) (Some MProposeAck)
    (cond (bytes_eq w (form_name MCommit)) (Some MCommit)
    (cond (bytes_eq w (form_name MConsensus)) (Some MConsensus)
    (cond (bytes_eq w (form_name MConsensusAck)) (Some MConsensusAck)
    (cond (bytes_eq w (form_name MRec)) (Some MRec)
    (cond (bytes_eq w (form_name MRecAck)) (Some MRecAck)
    (cond (bytes_eq w (form_name MPromises)) (Some MPromises) None))))))))
