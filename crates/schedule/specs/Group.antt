-- The figures of a group, as numbers: r controllers, of which f may be silent.
use Rattle.std.specs.Prelude.{ℕ, ◌+◌, ◌-◌, ◌*◌, ◌/◌, ◌%◌, Bool, cond, ◌&&◌, Some, None, Option, nat_le}

-- 3 ≤ r ≤ 7, 1 ≤ f, 2f + 1 ≤ r
abbrev pub figures_fit : ℕ → ℕ → Bool
figures_fit r f = nat_le 3 r && nat_le r 7 && nat_le 1 f && nat_le (2 * f + 1) r

abbrev pub majority : ℕ → ℕ
majority r = r / 2 + 1

abbrev pub fast_quorum : ℕ → ℕ → ℕ
fast_quorum r f = r / 2 + f

abbrev pub slow_quorum : ℕ → ℕ
slow_quorum f = f + 1

abbrev pub takeover_quorum : ℕ → ℕ → ℕ
takeover_quorum r f = r - f

-- Controller c enters at most this many changes; its n-th has the number changes_each × (c − 1) + n.
abbrev pub changes_each : ℕ
changes_each = 32

abbrev pub last_timestamp : ℕ
last_timestamp = 1568

abbrev pub last_ballot : ℕ
last_ballot = 65535

abbrev pub id_fits : ℕ → ℕ → Bool
id_fits r id = nat_le 1 id && nat_le id (changes_each * r)

abbrev pub timestamp_fits : ℕ → Bool
timestamp_fits t = nat_le 1 t && nat_le t last_timestamp

abbrev pub ballot_fits : ℕ → Bool
ballot_fits b = nat_le 1 b && nat_le b last_ballot

-- the controller that enters the change with this number
abbrev pub home : ℕ → ℕ
home id = (id - 1) / changes_each + 1

-- the controller that a ballot belongs to
abbrev pub owner : ℕ → ℕ → ℕ
owner r b = (b - 1) % r + 1

abbrev pub home_of : ℕ → ℕ → Option ℕ
home_of r id = cond (id_fits r id) (Some (home id)) None

abbrev pub owner_of : ℕ → ℕ → Option ℕ
owner_of r b = cond (ballot_fits b) (Some (owner r b)) None
