-- A plan tried on a service: replies, and the count of outcomes.
use Rattle.std.specs.Prelude.{ℕ, ◌+◌, ◌-◌, ◌^◌, min, cond, List, replicate, nat_lt, slice_index, slice_set}
use Rattle.plans.specs.Books.{BookState, book_next, book_outcome, book_reads}
use Rattle.plans.specs.declared.day.Reply.{Reply}
use Rattle.plans.specs.declared.day.Reply.TheVariants.{Outcome, Holds}
use Rattle.plans.specs.declared.request.Request.{Request}
use Rattle.plans.specs.declared.request.Request.TheVariants.{Carrying, Reading}

-- first numbers of outcomes are below this
abbrev pub outcomes : ℕ
outcomes = 10

abbrev pub no_counts : List ℕ
no_counts = replicate outcomes 0

abbrev pub count_of : List ℕ → ℕ → ℕ
count_of counts n = cond (nat_lt n outcomes) (slice_index counts n) 0

-- one more of that number, up to the greatest count there is
abbrev pub noted : List ℕ → ℕ → List ℕ
noted counts n = cond (nat_lt n outcomes) (slice_set counts n (min (slice_index counts n + 1) (2 ^ 32 - 1))) counts

abbrev pub reply_of : BookState → Request → Reply
reply_of m (Carrying c) = Outcome c (book_outcome m c)
reply_of m (Reading h s) = Holds (book_reads m h s)

-- a change moves the service and is counted by the first number of its outcome; a reading changes nothing
abbrev pub day_next : BookState × List ℕ → Request → BookState × List ℕ
day_next day (Carrying c) = (book_next day.0 c, noted day.1 (book_outcome day.0 c).0)
day_next day (Reading h s) = day
