-- Messages handed out, and to whom: bit j − 1 of the set stands for controller j.
use Rattle.std.specs.Prelude.{ℕ, ◌-◌, ◌^◌, cond, ◌&&◌, nat_le}
use Rattle.line_format.specs.declared.message.Message.{Message}
use Rattle.record.specs.Replies.{seats}
use Rattle.sites.specs.declared.sent.Sent.{Sent}

-- everybody in a group of r
abbrev pub all_of : ℕ → ℕ
all_of r = 2 ^ r - 1

abbrev pub addressed : ℕ → Message → Sent
addressed to m = record { to = record { bits = to }; message = m }

-- controller c alone; nobody, where no group has such a number
abbrev pub just : ℕ → ℕ
just c = cond (nat_le 1 c && nat_le c seats) (2 ^ (c - 1)) 0

abbrev pub to_one : ℕ → Message → Sent
to_one c m = addressed (just c) m

-- all but c
abbrev pub to_others : ℕ → ℕ → Message → Sent
to_others r c m = addressed (all_of r - 2 ^ (c - 1)) m

-- the set without c, which is in it
abbrev pub to_rest : ℕ → ℕ → Message → Sent
to_rest c set m = addressed (set - 2 ^ (c - 1)) m

-- those outside the set
abbrev pub to_outsiders : ℕ → ℕ → Message → Sent
to_outsiders r set m = addressed (all_of r - set) m
