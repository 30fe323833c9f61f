-- How far a change has come at a controller.
use Rattle.std.specs.Prelude.{ℕ, Bool, true, false, cond, List, Some, None, codes, Option, ◌==◌}
use Rattle.std.specs.Str.{bytes_eq}
use Rattle.schedule.specs.declared.phase.Phase.{Phase}
use Rattle.schedule.specs.declared.phase.Phase.TheVariants.{Start, Payload, Propose, RecoverR, RecoverP, Commit, CarriedOut}

abbrev pub phase_number : Phase → ℕ
phase_number Start = 0
phase_number Payload = 1
phase_number Propose = 2
phase_number RecoverR = 3
phase_number RecoverP = 4
phase_number Commit = 5
phase_number CarriedOut = 6

abbrev pub phase_of : ℕ → Option Phase
phase_of n =
    cond (n == 0) (Some Start)
    (cond (n == 1) (Some Payload)
    (cond (n == 2) (Some Propose)
    (cond (n == 3) (Some RecoverR)
    (cond (n == 4) (Some RecoverP) (cond (n == 5) (Some Commit) (cond (n == 6) (Some CarriedOut) None))))))

-- known, and not committed
abbrev pub pending : Phase → Bool
pending Start = false
pending Payload = true
pending Propose = true
pending RecoverR = true
pending RecoverP = true
pending Commit = false
pending CarriedOut = false

-- committed, carried out or not
abbrev pub settled : Phase → Bool
settled Start = false
settled Payload = false
settled Propose = false
settled RecoverR = false
settled RecoverP = false
settled Commit = true
settled CarriedOut = true

-- names
abbrev pub phase_name : Phase → List ℕ
phase_name Start = codes "start"
phase_name Payload = codes "payload"
phase_name Propose = codes "propose"
phase_name RecoverR = codes "recover-r"
phase_name RecoverP = codes "recover-p"
phase_name Commit = codes "commit"
phase_name CarriedOut = codes "carried-out"

abbrev pub phase_named : List ℕ → Option Phase
phase_named w =
    cond (bytes_eq w (codes "start")) (Some Start)
    (cond (bytes_eq w (codes "payload")) (Some Payload)
    (cond (bytes_eq w (codes "propose")) (Some Propose)
    (cond (bytes_eq w (codes "recover-r")) (Some RecoverR)
    (cond (bytes_eq w (codes "recover-p")) (Some RecoverP)
    (cond (bytes_eq w (codes "commit")) (Some Commit) (cond (bytes_eq w (codes "carried-out")) (Some CarriedOut) None))))))
