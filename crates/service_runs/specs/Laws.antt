-- Laws of the services, over single changes and over whole runs.
use Rattle.std.specs.Prelude.{◌≡◌, ℕ, Bool, true, cond, not, ◌&&◌, List, [], ◌∷◌, length, take, drop, fold, Ok, Err, Result, ◌==◌, ◌≢◌}
use Rattle.schedule.specs.Changes.{department_fits, hours, hour_fits, slot_fits, kind_number}
use Rattle.schedule.specs.declared.change.Change.{Change}
use Rattle.schedule.specs.declared.change.Kind.TheVariants.{Put, Claim, Yield}
use Rattle.services.specs.Makes.{ledger_outcome}
use Rattle.services.specs.Places.{Table, place, hour_total}
use Rattle.services.specs.Rules.{is}
use Rattle.services.specs.Say.{Says, say_at}

-- the state after changes, carried out one after the other
abbrev pub ran : {State : Type 0} → (State → Change → State) → State → List Change → State
ran next state cs = fold next state cs

-- a refused change, one whose outcome does not begin with 0, leaves the state as it was
abbrev pub RefusedKeeps : {State : Type 0} → (State → Change → State) → (State → Change → ℕ × ℕ) → Type 0
RefusedKeeps {State} next outcome = (state : State) (c : Change) → ((outcome state c).0 ≢ 0) → next state c ≡ state

-- an outcome as done, with what is told, or as refused
abbrev pub as_result : ℕ × ℕ → Result ℕ (ℕ × ℕ)
as_result outcome = cond (outcome.0 == 0) (Ok outcome.1) (Err outcome)

-- a change of the hour by another department than d
abbrev pub by_other : ℕ → ℕ → Change → Bool
by_other h d c = c.hour == h && not (c.department == d)

abbrev pub without_others : ℕ → ℕ → List Change → List Change
without_others h d [] = []
without_others h d (c ∷ cs) = cond (by_other h d c) (without_others h d cs) (c ∷ without_others h d cs)

abbrev pub yields : ℕ → ℕ → Change → Bool
yields h d c = c.hour == h && c.department == d && is c Yield

-- d yields the hour nowhere among the changes
abbrev pub never_yields : ℕ → ℕ → List Change → Bool
never_yields h d [] = true
never_yields h d (c ∷ cs) = not (yields h d c) && never_yields h d cs

-- d still has the say of the hour, and all came out as if the other department had asked for no change of that hour
abbrev pub SayKept : {B : Type 0} → (Says × B → Change → Says × B) → Says × B → List Change → ℕ → ℕ → Type 0
SayKept next state cs h d = (say_at (ran next state cs).0 h ≡ d) × (ran next state cs ≡ ran next state (without_others h d cs))

-- Anywhere in a run: from a point where d has the say of an hour, as after a claim, to a later one up to which d yields it nowhere.
abbrev pub SayHolds : {B : Type 0} → (Says × B → Change → Says × B) → Says × B → List Change → Type 0
SayHolds next state cs =
    (from count h d : ℕ) → (d ≢ 0) → say_at (ran next state (take from cs)).0 h ≡ d → never_yields h d (take count (drop from cs)) ≡ true
    → SayKept next (ran next state (take from cs)) (take count (drop from cs)) h d

-- a claim that is done gives its department the say of the hour
abbrev pub ClaimGives : {B : Type 0} → (Says × B → Change → Says × B) → (Says × B → Change → ℕ × ℕ) → Type 0
ClaimGives {B} next outcome =
    (state : Says × B) (c : Change) → length state.0 ≡ hours → is c Claim ≡ true → (outcome state c).0 ≡ 0 → say_at (next state c).0 c.hour ≡ c.department

abbrev pub put_of : ℕ → ℕ → ℕ → ℕ → Change
put_of d h s v = record { department = d; kind = kind_number Put; hour = h; slot = s; value = v }

-- with an hour at 700 seconds, 20 go into an empty account and 21 do not
abbrev pub NearTheLimit : Type 0
NearTheLimit =
    (t : Table) (d h s : ℕ) → department_fits d ≡ true → hour_fits h ≡ true → slot_fits s ≡ true → hour_total t h ≡ 700 → place t h s ≡ 0
    → (ledger_outcome t (put_of d h s 20) ≡ (0, 0)) × (ledger_outcome t (put_of d h s 21) ≡ (4, 0))
