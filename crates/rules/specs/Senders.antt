-- Who may send a message to controller `own` of a group of r.
use Rattle.std.specs.Prelude.{ℕ, Bool, not, ◌&&◌, ◌==◌}
use Rattle.line_format.specs.declared.message.Message.{Message}
use Rattle.line_format.specs.declared.message.Message.TheVariants.{MPayload, MPropose, MProposeAck, MCommit, MConsensus, MConsensusAck, MRec, MRecAck, MPromises}
use Rattle.sites.specs.Sites.{owns, at_home}

-- anybody else
abbrev pub other : ℕ → ℕ → Bool
other own s = not (s == own)

-- Never the receiver itself. A change comes from its home, and a proposal or a take-over at a ballot from its owner.
abbrev pub rightful : ℕ → ℕ → Message → Bool
rightful r own (MPayload s id c set) = other own s && at_home r s id
rightful r own (MPropose s id c set t) = other own s && at_home r s id
rightful r own (MProposeAck s id t) = other own s
rightful r own (MCommit s id t) = other own s
rightful r own (MConsensus s id t b) = other own s && owns r s b
rightful r own (MConsensusAck s id b) = other own s
rightful r own (MRec s id b) = other own s && owns r s b
rightful r own (MRecAck s id t p a b) = other own s
rightful r own (MPromises s p) = other own s
