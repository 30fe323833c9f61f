-- The services that a plan can be tried on, each with its own states.
use Rattle.std.specs.Prelude.{ℕ, Bool, cond, not, ◌||◌, List, Some, None, codes, Option, ◌==◌}
use Rattle.std.specs.List.{list_any, range_with_len}
use Rattle.std.specs.Option.{unwrap_or}
use Rattle.std.specs.Str.{bytes_eq}
use Rattle.schedule.specs.Changes.{slots}
use Rattle.schedule.specs.declared.change.Change.{Change}
use Rattle.services.specs.Makes.{order_next, order_outcome, ledger_next, ledger_outcome}
use Rattle.services.specs.Places.{Table, no_places, place, hour_total}
use Rattle.services.specs.Say.{Says, no_says, say_at, say_next, say_outcome}
use Rattle.plans.specs.declared.book.Book.{Book}
use Rattle.plans.specs.declared.book.Book.TheVariants as book

pub data BookState : Type 0 where
  order : Table → BookState
  ledger : Table → BookState
  say_order : Says × Table → BookState
  say_ledger : Says × Table → BookState
  say_say_order : Says × (Says × Table) → BookState

abbrev pub book_meaning : Book → BookState
book_meaning (book.Order s) = order s.places.rows
book_meaning (book.Ledger s) = ledger s.places.rows
book_meaning (book.SayOrder s) = say_order (s.says, s.below.places.rows)
book_meaning (book.SayLedger s) = say_ledger (s.says, s.below.places.rows)
book_meaning (book.SaySayOrder s) = say_say_order (s.says, (s.below.says, s.below.below.places.rows))

abbrev pub book_next : BookState → Change → BookState
book_next (order t) c = order (order_next t c)
book_next (ledger t) c = ledger (ledger_next t c)
book_next (say_order m) c = say_order (say_next order_next m c)
book_next (say_ledger m) c = say_ledger (say_next ledger_next m c)
book_next (say_say_order m) c = say_say_order (say_next (say_next order_next) m c)

abbrev pub book_outcome : BookState → Change → ℕ × ℕ
book_outcome (order t) c = order_outcome t c
book_outcome (ledger t) c = ledger_outcome t c
book_outcome (say_order m) c = say_outcome order_outcome m c
book_outcome (say_ledger m) c = say_outcome ledger_outcome m c
book_outcome (say_say_order m) c = say_outcome (say_outcome order_outcome) m c

abbrev pub book_reads : BookState → ℕ → ℕ → ℕ
book_reads (order t) h s = place t h s
book_reads (ledger t) h s = place t h s
book_reads (say_order m) h s = place m.1 h s
book_reads (say_ledger m) h s = place m.1 h s
book_reads (say_say_order m) h s = place m.1.1 h s

-- the first state of the service of a name
abbrev pub book_named : List ℕ → Option BookState
book_named name =
    cond (bytes_eq name (codes "running-order")) (Some (order no_places))
    (cond (bytes_eq name (codes "break-ledger")) (Some (ledger no_places))
    (cond (bytes_eq name (codes "final-say running-order")) (Some (say_order (no_says, no_places)))
    (cond (bytes_eq name (codes "final-say break-ledger")) (Some (say_ledger (no_says, no_places)))
    (cond (bytes_eq name (codes "final-say final-say running-order")) (Some (say_say_order (no_says, (no_says, no_places))))
    None))))

-- who has the say of an hour, under final say
abbrev pub book_say : BookState → ℕ → Option ℕ
book_say (order t) h = None
book_say (ledger t) h = None
book_say (say_order m) h = Some (say_at m.0 h)
book_say (say_ledger m) h = Some (say_at m.0 h)
book_say (say_say_order m) h = Some (say_at m.0 h)

-- who has it below that, where final say stands over final say
abbrev pub book_inner_say : BookState → ℕ → Option ℕ
book_inner_say (order t) h = None
book_inner_say (ledger t) h = None
book_inner_say (say_order m) h = None
book_inner_say (say_ledger m) h = None
book_inner_say (say_say_order m) h = Some (say_at m.1.0 h)

-- the seconds booked in an hour of a ledger
abbrev pub book_booked : BookState → ℕ → Option ℕ
book_booked (order t) h = None
book_booked (ledger t) h = Some (hour_total t h)
book_booked (say_order m) h = None
book_booked (say_ledger m) h = Some (hour_total m.1 h)
book_booked (say_say_order m) h = None

-- whether a slot of an hour holds anything
abbrev pub book_holds : BookState → ℕ → Bool
book_holds m h = list_any (λ s. not (book_reads m h s == 0)) (range_with_len 0 slots)

-- whether an hour holds anything, or somebody has the say of it
abbrev pub book_used : BookState → ℕ → Bool
book_used m h = not (unwrap_or (book_say m h) 0 == 0) || not (unwrap_or (book_inner_say m h) 0 == 0) || book_holds m h
