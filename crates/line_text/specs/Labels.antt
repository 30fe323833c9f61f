-- The names of fields, and the words that stand for some of their numbers.
use Rattle.std.specs.Prelude.{ℕ, cond, List, Some, None, codes, Option}
use Rattle.std.specs.Option.{option_map}
use Rattle.schedule.specs.Changes.{department_number, department_of, department_name, department_named, kind_number, kind_of, kind_name, kind_named}
use Rattle.schedule.specs.Phases.{phase_number, phase_of, phase_name, phase_named, pending}
use Rattle.schedule.specs.declared.phase.Phase as phases
use Rattle.line_format.specs.declared.limits.Field.{Field}
use Rattle.line_format.specs.declared.limits.Field.TheVariants.{Sender, Id, Department, Kind, Hour, Slot, Value, Set, Timestamp, Ballot, Phase, Accepted, Detached, Pairs}

abbrev pub label : Field → List ℕ
label Sender = codes "sender"
label Id = codes "id"
label Department = codes "department"
label Kind = codes "kind"
label Hour = codes "hour"
label Slot = codes "slot"
label Value = codes "value"
label Set = codes "set"
label Timestamp = codes "timestamp"
label Ballot = codes "ballot"
label Phase = codes "phase"
label Accepted = codes "accepted"
label Detached = codes "detached"
label Pairs = codes "pairs"

-- a phase that a message can give
abbrev pub pending_phase : Option phases.Phase → Option phases.Phase
pending_phase None = None
pending_phase (Some p) = cond (pending p) (Some p) None

-- the word that stands for a number in a field
abbrev pub word_of : Field → ℕ → Option (List ℕ)
word_of Sender n = None
word_of Id n = None
word_of Department n = option_map department_name (department_of n)
word_of Kind n = option_map kind_name (kind_of n)
word_of Hour n = None
word_of Slot n = None
word_of Value n = None
word_of Set n = None
word_of Timestamp n = None
word_of Ballot n = None
word_of Phase n = option_map phase_name (pending_phase (phase_of n))
word_of Accepted n = None
word_of Detached n = None
word_of Pairs n = None

-- the number that a word stands for in a field
abbrev pub named : Field → List ℕ → Option ℕ
named Sender w = None
named Id w = None
named Department w = option_map department_number (department_named w)
named Kind w = option_map kind_number (kind_named w)
named Hour w = None
named Slot w = None
named Value w = None
named Set w = None
named Timestamp w = None
named Ballot w = None
named Phase w = option_map phase_number (pending_phase (phase_named w))
named Accepted w = None
named Detached w = None
named Pairs w = None
