-- The ranks of changes that are due, and of replies to a take-over, where some may be missing.
use Rattle.std.specs.Prelude.{Bool, true, not, ◌&&◌, ◌||◌, Option, ◌==◌, nat_lt}
use Rattle.ranking.specs.declared.accepted.Accepted.{Accepted}
use Rattle.ranking.specs.declared.due.Due.{Due}
use Rattle.ranking.specs.Entries.{some_eligible, some_before}

-- the least timestamp first, then the least number
abbrev pub sooner : Due → Due → Bool
sooner x y = nat_lt x.timestamp y.timestamp || (x.timestamp == y.timestamp && nat_lt x.id y.id)

abbrev pub due_eligible : Option Due → Bool
due_eligible = some_eligible (λ _. true)

abbrev pub due_before : Option Due → Option Due → Bool
due_before = some_before sooner

-- the reply tells of a ballot
abbrev pub tells : Accepted → Bool
tells x = not (x.ballot.0 == 0)

-- the greatest ballot first, then the lowest controller
abbrev pub outranks : Accepted → Accepted → Bool
outranks x y = nat_lt y.ballot.0 x.ballot.0 || (x.ballot.0 == y.ballot.0 && nat_lt x.controller y.controller)

-- a reply was given, and it tells of a ballot
abbrev pub accepted_eligible : Option Accepted → Bool
accepted_eligible = some_eligible tells

abbrev pub accepted_before : Option Accepted → Option Accepted → Bool
accepted_before = some_before outranks
