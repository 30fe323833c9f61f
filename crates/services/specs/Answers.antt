-- What carrying out a change came to, and the number of each answer.
use Rattle.std.specs.Prelude.{ℕ, cond, Some, None, Option, ◌==◌}
use Rattle.services.specs.declared.answer.Answer.{Answer}
use Rattle.services.specs.declared.answer.Answer.TheVariants.{Done, Occupied, Empty, NoValue, HourFull, NotHolder, OthersSay, OutsideLimits}

abbrev pub answer_number : Answer → ℕ
answer_number Done = 0
answer_number Occupied = 1
answer_number Empty = 2
answer_number NoValue = 3
answer_number HourFull = 4
answer_number NotHolder = 7
answer_number OthersSay = 8
answer_number OutsideLimits = 9

abbrev pub answer_of : ℕ → Option Answer
answer_of n =
    cond (n == 0) (Some Done)
    (cond (n == 1) (Some Occupied)
    (cond (n == 2) (Some Empty)
    (cond (n == 3) (Some NoValue)
    (cond (n == 4) (Some HourFull)
    (cond (n == 7) (Some NotHolder)
    (cond (n == 8) (Some OthersSay)
    (cond (n == 9) (Some OutsideLimits) None)))))))
