-- The table of a controller's records: the record of change n stands at place n − 1.
use Rattle.std.specs.Prelude.{ℕ, suc, ◌-◌, Bool, cond, ◌&&◌, List, [], ◌∷◌, ◌++◌, length, take, drop, replicate, count_by, Some, None, Option, ◌==◌, nat_le, slice_index_or}
use Rattle.line_format.specs.Limits.{most_pairs}
use Rattle.line_format.specs.Reading.{no_pairs}
use Rattle.line_format.specs.declared.message.Pair.{Pair}
use Rattle.line_format.specs.declared.message.Promises.{Promises}
use Rattle.promise_words.specs.Timestamps.{with_one, joined}
use Rattle.ranking.specs.Orders.{due_eligible, due_before}
use Rattle.ranking.specs.Ranking.{first_in_rank}
use Rattle.ranking.specs.declared.due.Due.{Due}
use Rattle.record.specs.Rows.{blank, carried_out}
use Rattle.record.specs.declared.row.Row.{Row}
use Rattle.schedule.specs.Phases.{phase_number, settled}
use Rattle.schedule.specs.declared.phase.Phase.TheVariants.{CarriedOut}

-- nothing is known of any change
unfoldable pub blank_rows : List Row
blank_rows = replicate most_pairs blank

-- a change with its own promise, if it has one, before the pairs of those after it
abbrev pub pair_before : ℕ → Option ℕ → List Pair → List Pair
pair_before id None ps = ps
pair_before id (Some t) ps = record { id = id; timestamp = t } ∷ ps

-- each change that has an own promise, with it; the numbers from id on
abbrev pub pairs_from : ℕ → List Row → List Pair
pairs_from id [] = []
pairs_from id (w ∷ ws) = pair_before id w.promise (pairs_from (suc id) ws)

abbrev pub own_promises : List Row → List Pair
own_promises ws = pairs_from 1 ws

-- Tell: the detached promises and each (id, own promise); the places after the pairs are zero
abbrev pub told : List ℕ → List Row → Promises
told detached ws =
    record { detached = detached; count = length (own_promises ws); pairs = own_promises ws ++ drop (length (own_promises ws)) no_pairs }

-- a change is committed here, carried out or not
abbrev pub settled_at : List Row → ℕ → Bool
settled_at ws id = nat_le 1 id && settled (slice_index_or ws (id - 1) blank).phase

-- a pair is added only if its change is committed here
abbrev pub with_pair : List Row → List ℕ → Pair → List ℕ
with_pair ws known p = cond (settled_at ws p.id) (with_one known p.timestamp) known

abbrev pub with_pairs : List Row → List ℕ → List Pair → List ℕ
with_pairs ws known [] = known
with_pairs ws known (p ∷ ps) = with_pairs ws (with_pair ws known p) ps

-- MPromises: what is known of the sender afterwards
abbrev pub learnt : List Row → List ℕ → Promises → List ℕ
learnt ws known p = with_pairs ws (joined known p.detached) (take p.count p.pairs)

-- an entry of the search where the record is in phase commit (5), and not above the stable timestamp
abbrev pub due_entry : ℕ → ℕ → Row → Option Due
due_entry s id w = cond (phase_number w.phase == 5 && nat_le w.timestamp s) (Some (record { timestamp = w.timestamp; id = id })) None

abbrev pub due_from : ℕ → ℕ → List Row → List (Option Due)
due_from s id [] = []
due_from s id (w ∷ ws) = due_entry s id w ∷ due_from s (suc id) ws

-- the place of the change that is due: the least timestamp, then the least number
abbrev pub due : ℕ → List Row → Option ℕ
due s ws = first_in_rank due_eligible due_before (due_from s 1 ws)

-- the record is in phase carried out (6)
abbrev pub is_carried : Row → Bool
is_carried w = phase_number w.phase == 6

-- how many changes were carried out
abbrev pub carried_count : List Row → ℕ
carried_count ws = count_by is_carried ws

-- a carried-out change keeps its place and outcome
abbrev pub finished : ℕ → ℕ × ℕ → Row → Row
finished place outcome w = carried_out place outcome CarriedOut w
