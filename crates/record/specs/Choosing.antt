-- Replies to a take-over, and the timestamp that they leave to choose.
use Rattle.std.specs.Prelude.{ℕ, ◌+◌, max, Bool, true, false, cond, ◌&&◌, ◌||◌, List, map, Some, None, Option, ◌==◌, slice_index_or}
use Rattle.std.specs.Bool.{then_some}
use Rattle.std.specs.List.{filter_map, list_any, range_with_len, reduce}
use Rattle.std.specs.Option.{option_map, option_and_then, option_map_or, unwrap_or}
use Rattle.schedule.specs.Sets.{member}
use Rattle.schedule.specs.declared.set.ControllerSet.{ControllerSet}
use Rattle.ranking.specs.Orders.{accepted_eligible, accepted_before}
use Rattle.ranking.specs.Ranking.{first_in_rank}
use Rattle.ranking.specs.declared.accepted.Accepted.{Accepted}
use Rattle.schedule.specs.Phases.{phase_number}
use Rattle.record.specs.Replies.{numbered, seats, with_reply}
use Rattle.record.specs.declared.recoveries.Recovery.{Recovery}

abbrev pub with_recovery : List (Option Recovery) → ℕ → Recovery → List (Option Recovery)
with_recovery rs j x = with_reply rs j (Some x)

-- the reply of j as an entry of the search, if it tells of an accepted ballot
abbrev pub accepted_entry : ℕ → Option Recovery → Option Accepted
accepted_entry j x = option_map (λ b. record { ballot = record { 0 = b }; controller = j }) (option_and_then (λ y. y.accepted) x)

abbrev pub accepted_entries : List (Option Recovery) → List (Option Accepted)
accepted_entries rs = map (λ i. accepted_entry (i + 1) (slice_index_or rs i None)) (range_with_len 0 seats)

-- j replied and is in the fast set, and is the home or was in phase recover-r (3)
abbrev pub late : ℕ → ℕ → ℕ → Option Recovery → Bool
late h members j x = option_map_or (λ y. member members j && (j == h || phase_number y.phase == 3)) x false

-- the home replied and is in the fast set, or a member of it replied in phase recover-r
abbrev pub late_any : ℕ → ℕ → List (Option Recovery) → Bool
late_any h members rs = list_any (λ p. late h members p.0 p.1) (numbered rs)

-- whose timestamp counts: everyone's, or that of the members of a set
abbrev pub counted : Option ControllerSet → ℕ → Bool
counted None = λ _. true
counted (Some set) = member set.bits

-- the timestamp of j if it replied and counts
abbrev pub counted_timestamp : (ℕ → Bool) → ℕ → Option Recovery → Option ℕ
counted_timestamp counts j = option_and_then (λ x. then_some (counts j) x.timestamp)

-- the greatest timestamp of those that replied and count
abbrev pub greatest_counted : (ℕ → Bool) → List (Option Recovery) → Option ℕ
greatest_counted counts rs = reduce max (filter_map (λ p. counted_timestamp counts p.0 p.1) (numbered rs))

-- If some reply tells of an accepted ballot, the timestamp of the greatest one, of the lowest controller on a tie.
-- Otherwise, where the home or a promise of a take-over is among the repliers in the fast set, the greatest
-- timestamp of all; else the greatest of the repliers in the fast set.
abbrev pub chosen : ℕ → ℕ → List (Option Recovery) → Option Recovery → ℕ
chosen h members rs (Some x) = x.timestamp
chosen h members rs None =
    unwrap_or (cond (late_any h members rs) (greatest_counted (λ _. true) rs) (greatest_counted (member members) rs)) 0

abbrev pub choice : ℕ → ℕ → List (Option Recovery) → ℕ
choice h members rs =
    chosen h members rs
    (option_and_then (λ i. slice_index_or rs i None) (first_in_rank accepted_eligible accepted_before (accepted_entries rs)))
