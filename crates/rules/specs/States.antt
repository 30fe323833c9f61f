-- The state of a controller, and what is altered of it at a time.
use Rattle.std.specs.Prelude.{ℕ, ◌+◌, ◌-◌, ◌*◌, List, get_or, replicate, slice_index_or, slice_set}
use Rattle.schedule.specs.Group.{changes_each}
use Rattle.promise_words.specs.Clocks.{first_clock}
use Rattle.promise_words.specs.Timestamps.{no_words}
use Rattle.promise_words.specs.declared.clock.Clock.{Clock}
use Rattle.record.specs.Replies.{seats}
use Rattle.record.specs.Rows.{blank}
use Rattle.record.specs.declared.row.Row.{Row}
use Rattle.tables.specs.Tables.{blank_rows}
use Rattle.sites.specs.declared.site.Site.{Site}
use Rattle.rules.specs.declared.state.Core.{Core}

-- All starts at 0.
abbrev pub first_core : Site → Core
first_core site =
    record { site = site; entered = 0; clock = first_clock; known = replicate seats (record { words = no_words }); table = record { rows = blank_rows } }

-- the number of controller c's n-th change
abbrev pub nth_id : ℕ → ℕ → ℕ
nth_id c n = changes_each * (c - 1) + n

-- the record of a change
abbrev pub row_of : Core → ℕ → Row
row_of core id = slice_index_or core.table.rows (id - 1) blank

-- the record of a change, and the clock
abbrev pub with_row : ℕ → Row → Clock → Core → Core
with_row id w clock core =
    record core { clock = clock; table = record { rows = slice_set core.table.rows (id - 1) w } }

-- how many changes were entered here
abbrev pub with_entered : ℕ → Core → Core
with_entered n core = record core { entered = n }

-- the promises known of a controller
abbrev pub known_of : Core → ℕ → List ℕ
known_of core c = (get_or core.known (c - 1) (record { words = no_words })).words

abbrev pub with_known : ℕ → List ℕ → Core → Core
with_known c ws core = record core { known = slice_set core.known (c - 1) (record { words = ws }) }
