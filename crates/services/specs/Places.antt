-- A day's places: for each hour a row, with a number for each slot, 0 for an empty place.
use Rattle.std.specs.Prelude.{ℕ, Bool, cond, ◌&&◌, List, [], replicate, sum, nat_le, slice_index, slice_index_or, slice_set}
use Rattle.std.specs.List.{list_all}
use Rattle.schedule.specs.Changes.{hours, slots, hour_fits, slot_fits}

abbrev pub Table : Type 0
Table = List (List ℕ)

abbrev pub no_places : Table
no_places = replicate hours (replicate slots 0)

abbrev pub row : Table → ℕ → List ℕ
row t h = slice_index_or t h []

-- what a place holds, 0 outside the limits
abbrev pub place : Table → ℕ → ℕ → ℕ
place t h s = cond (hour_fits h && slot_fits s) (slice_index (row t h) s) 0

-- the table after a place has been given a value
abbrev pub with_place : Table → ℕ → ℕ → ℕ → Table
with_place t h s v = cond (hour_fits h && slot_fits s) (slice_set t h (slice_set (row t h) s v)) t

-- what the places of an hour come to, 0 outside the day
abbrev pub hour_total : Table → ℕ → ℕ
hour_total t h = cond (hour_fits h) (sum (row t h)) 0

-- the most seconds that an hour of a ledger holds
abbrev pub hour_seconds : ℕ
hour_seconds = 720

-- whether every hour keeps to its seconds
abbrev pub hours_within : Table → Bool
hours_within t = list_all (λ r. nat_le (sum r) hour_seconds) t
