-- Final say: for each hour who has the say over the service below.
use Rattle.std.specs.Prelude.{ℕ, cond, not, ◌&&◌, ◌||◌, List, replicate, Some, None, Option, ◌==◌, slice_index_or, slice_set}
use Rattle.schedule.specs.Changes.{change_fits, department_number, department_of, hours, hour_fits}
use Rattle.schedule.specs.declared.change.Change.{Change}
use Rattle.schedule.specs.declared.change.Department.{Department}
use Rattle.schedule.specs.declared.change.Kind.TheVariants.{Claim, Yield}
use Rattle.services.specs.Answers.{answer_number}
use Rattle.services.specs.Rules.{is}
use Rattle.services.specs.declared.answer.Answer.TheVariants.{NotHolder, OthersSay, OutsideLimits}
use Rattle.services.specs.declared.say.SayRuling.{SayRuling}
use Rattle.services.specs.declared.say.SayRuling.TheVariants.{Below, Becomes, Refused}

abbrev pub Says : Type 0
Says = List (Option Department)

abbrev pub no_says : Says
no_says = replicate hours None

-- 0 nobody, else the department
abbrev pub say_number : Option Department → ℕ
say_number None = 0
say_number (Some d) = department_number d

-- who has the say of an hour, nobody outside the day
abbrev pub holder_at : Says → ℕ → Option Department
holder_at says h = cond (hour_fits h) (slice_index_or says h None) None

-- the same as a number
abbrev pub say_at : Says → ℕ → ℕ
say_at says h = cond (hour_fits h) (say_number (slice_index_or says h None)) 0

abbrev pub say_becomes : Says → ℕ → Option Department → Says
say_becomes says h who = cond (hour_fits h) (slice_set says h who) says

-- The first line that fits decides, where the hour's say is the given number.
abbrev pub say_judged : Change → ℕ → SayRuling
say_judged c say =
    cond (not (change_fits c)) (Refused OutsideLimits 0)
    (cond (is c Claim && (say == 0 || say == c.department)) (Becomes (department_of c.department) say)
    (cond (is c Claim) (Refused OthersSay say)
    (cond (is c Yield && say == c.department) (Becomes None c.department)
    (cond (is c Yield) (Refused NotHolder say)
    (cond (not (say == 0) && not (say == c.department)) (Refused OthersSay say)
    Below)))))

abbrev pub say_ruling : Says → Change → SayRuling
say_ruling says c = say_judged c (say_at says c.hour)

-- the says, the state below and the outcome that a ruling leads to
abbrev pub says_by : SayRuling → Says → Change → Says
says_by Below says c = says
says_by (Becomes who told) says c = say_becomes says c.hour who
says_by (Refused answer told) says c = says

abbrev pub below_by : {B : Type 0} → SayRuling → B → B → B
below_by Below same moved = moved
below_by (Becomes who told) same moved = same
below_by (Refused answer told) same moved = same

abbrev pub outcome_by : SayRuling → ℕ × ℕ → ℕ × ℕ
outcome_by Below answered = answered
outcome_by (Becomes who told) answered = (0, told)
outcome_by (Refused answer told) answered = (answer_number answer, told)

-- over any service below, by its two functions
abbrev pub say_next : {B : Type 0} → (B → Change → B) → Says × B → Change → Says × B
say_next next state c =
    (says_by (say_ruling state.0 c) state.0 c, below_by (say_ruling state.0 c) state.1 (next state.1 c))

abbrev pub say_outcome : {B : Type 0} → (B → Change → ℕ × ℕ) → Says × B → Change → ℕ × ℕ
say_outcome outcome state c = outcome_by (say_ruling state.0 c) (outcome state.1 c)
