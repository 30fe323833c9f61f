-- The controller at a site: what belongs there.
use Rattle.std.specs.Prelude.{◌≡◌, ℕ, zero, suc, ◌<◌, ◌≤◌, max, Bool, true, false, cond, ◌&&◌, Some, None, Ok, Err, Option, Result, ◌==◌, nat_le}
use Rattle.schedule.specs.Group.{last_ballot, id_fits, ballot_fits, home, owner}
use Rattle.schedule.specs.Making.{fault_number}
use Rattle.schedule.specs.declared.figures.Figures.{Figures}
use Rattle.schedule.specs.declared.figures.FiguresFault.{FiguresFault}
use Rattle.sites.specs.declared.site.Site.{Site}

-- a site exists exactly for the numbers 1 to r; for others the refusal is 11
abbrev pub Placed : Figures → ℕ → Result Site FiguresFault → Type 0
Placed g own (Ok site) = ((nat_le 1 own && nat_le own g.r) ≡ true) × (site.figures ≡ g) × (site.own ≡ own)
Placed g own (Err fault) = ((nat_le 1 own && nat_le own g.r) ≡ false) × (fault_number fault ≡ 11)

-- whether ballot b belongs to controller c
abbrev pub owns : ℕ → ℕ → ℕ → Bool
owns r c b = ballot_fits b && owner r b == c

-- the home of a change; 0, which is no controller, where no change has this number
abbrev pub home_or_none : ℕ → ℕ → ℕ
home_or_none r id = cond (id_fits r id) (home id) 0

-- whether controller c is the home of a change
abbrev pub at_home : ℕ → ℕ → ℕ → Bool
at_home r c id = id_fits r id && home id == c

-- the first of n ballots from b on that belongs to c
abbrev pub first_own : ℕ → ℕ → ℕ → ℕ → Option ℕ
first_own r c b zero = None
first_own r c b (suc n) = cond (owns r c b) (Some b) (first_own r c (suc b) n)

-- The least ballot above r and above b that belongs to c: of r ballots in a row one does.
-- None, where it would be above the last ballot.
abbrev pub next_ballot : ℕ → ℕ → ℕ → Option ℕ
next_ballot r c b = first_own r c (suc (max r b)) r

-- The same by what it is. Some n: n is above r and above b, is a ballot and belongs to c, and is the least such number.
-- None: what is above both and belongs to c is above the last ballot.
abbrev pub LeastOwn : ℕ → ℕ → ℕ → Option ℕ → Type 0
LeastOwn r c b (Some n) =
    (r < n) × (b < n) × (n ≤ last_ballot) × (owner r n ≡ c) × ((m : ℕ) → r < m → b < m → owner r m ≡ c → n ≤ m)
LeastOwn r c b None = (n : ℕ) → r < n → b < n → owner r n ≡ c → last_ballot < n
