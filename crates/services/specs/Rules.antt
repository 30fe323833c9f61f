-- What is decided on one place of a day. "Held" is what the place held before.
use Rattle.std.specs.Prelude.{ℕ, ◌+◌, ◌-◌, Bool, false, cond, not, ◌&&◌, ◌||◌, Some, None, Ok, Err, Option, Result, ◌==◌, nat_lt}
use Rattle.schedule.specs.Changes.{change_fits, kind_number, kind_of}
use Rattle.schedule.specs.declared.change.Change.{Change}
use Rattle.schedule.specs.declared.change.Kind.{Kind}
use Rattle.schedule.specs.declared.change.Kind.TheVariants.{Put, Clear, Replace, Claim, Yield}
use Rattle.services.specs.Places.{hour_seconds}
use Rattle.services.specs.declared.answer.Answer.{Answer}
use Rattle.services.specs.declared.answer.Answer.TheVariants.{Occupied, Empty, NoValue, HourFull, OutsideLimits}

-- what a change asks for: its kind, if all its numbers are within their limits
abbrev pub asked : Change → Option Kind
asked c = cond (change_fits c) (kind_of c.kind) None

abbrev pub is : Change → Kind → Bool
is c k = c.kind == kind_number k

-- whether the hour's new total would pass its seconds; a make that gives no total has no such limit
abbrev pub over : Option ℕ → ℕ → ℕ → Bool
over None held value = false
over (Some total) held value = nat_lt hour_seconds (total - held + value)

-- what the place is to hold
abbrev pub wanted : Change → ℕ
wanted c = cond (is c Clear) 0 c.value

-- The first line that fits decides: what the place holds then, or why the change is refused and what is told besides.
-- A clear never raises an hour's total, so the line on the total asks only put and replace.
abbrev pub judged : Change → ℕ → Option ℕ → Result ℕ (Answer × ℕ)
judged c held total =
    cond (not (change_fits c) || (is c Claim || is c Yield)) (Err (OutsideLimits, 0))
    (cond ((is c Put || is c Replace) && c.value == 0) (Err (NoValue, held))
    (cond (is c Put && not (held == 0)) (Err (Occupied, held))
    (cond ((is c Clear || is c Replace) && held == 0) (Err (Empty, 0))
    (cond ((is c Put || is c Replace) && over total held c.value) (Err (HourFull, held))
    (Ok (wanted c))))))
