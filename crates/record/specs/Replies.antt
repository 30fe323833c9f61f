-- Replies by controller, what those to a proposal decide, and who has accepted.
use Rattle.std.specs.Prelude.{ℕ, ◌-◌, ◌^◌, max, Bool, cond, not, ◌&&◌, List, set, replicate, Some, None, count_by, Option, ◌==◌, bit_or, nat_eq, nat_le, slice_index_or}
use Rattle.std.specs.Bool.{then_some}
use Rattle.std.specs.List.{filter_map, list_all, range_with_len, reduce, zip}
use Rattle.std.specs.Option.{is_some, option_eq, unwrap_or}
use Rattle.schedule.specs.Sets.{member}
use Rattle.record.specs.declared.proposals.Decision.{Decision}
use Rattle.record.specs.declared.proposals.Decision.TheVariants.{Fast, Slow}

-- how many controllers a group has at most
abbrev pub seats : ℕ
seats = 7

-- the replies with the numbers of those that gave them
abbrev pub numbered : {X : Type 0} → List (Option X) → List (ℕ × Option X)
numbered rs = zip (range_with_len 1 seats) rs

abbrev pub no_replies : {X : Type 0} → List (Option X)
no_replies = replicate seats None

abbrev pub has_seat : ℕ → Bool
has_seat j = nat_le 1 j && nat_le j seats

-- the place of a controller in a table of replies
abbrev pub seat_of : ℕ → Option ℕ
seat_of j = then_some (has_seat j) (j - 1)

-- a sender is new if it has a place, and none of its replies is held
abbrev pub unheard : {X : Type 0} → List (Option X) → ℕ → Bool
unheard rs j = has_seat j && not (is_some (slice_index_or rs (j - 1) None))

abbrev pub with_reply : {X : Type 0} → List (Option X) → ℕ → Option X → List (Option X)
with_reply rs j r = cond (has_seat j) (set rs (j - 1) r) rs

-- how many replied
abbrev pub heard : {X : Type 0} → List (Option X) → ℕ
heard rs = count_by is_some rs

-- timestamp 0 is no reply
abbrev pub with_timestamp : List (Option ℕ) → ℕ → ℕ → List (Option ℕ)
with_timestamp ts j t = with_reply ts j (then_some (not (t == 0)) t)

-- j is a member of the set and has not replied
abbrev pub awaited : ℕ → ℕ → Option ℕ → Bool
awaited members j t = member members j && not (is_some t)

abbrev pub all_replied : ℕ → List (Option ℕ) → Bool
all_replied members ts = list_all (λ p. not (awaited members p.0 p.1)) (numbered ts)

-- the greatest timestamp
abbrev pub greatest : List (Option ℕ) → Option ℕ
greatest ts = reduce max (filter_map (λ t. t) ts)

-- how many gave this reply
abbrev pub givers : Option ℕ → List (Option ℕ) → ℕ
givers t ts = count_by (λ u. option_eq nat_eq u t) ts

-- After the last of the set, let t be the greatest reply: if at least f gave it, it is decided fast, otherwise slow.
abbrev pub decision : ℕ → ℕ → List (Option ℕ) → Option Decision
decision f members ts =
    cond (all_replied members ts)
    (Some (cond (nat_le f (givers (greatest ts) ts)) (Fast (unwrap_or (greatest ts) 0)) (Slow (unwrap_or (greatest ts) 0))))
    None

-- a set of controllers with one more; one without a place is left out
abbrev pub with_member : ℕ → ℕ → ℕ
with_member members j = cond (has_seat j) (bit_or members (2 ^ (j - 1))) members

-- a sender is new if it has a place and is not among those who replied
abbrev pub newcomer : ℕ → ℕ → Bool
newcomer members j = has_seat j && not (member members j)
