-- The clock of a controller, and the timestamps that it detaches.
use Rattle.std.specs.Prelude.{◌≡◌, ℕ, ◌+◌, ◌-◌, max, cond, ◌&&◌, Ok, Err, Result, nat_le, nat_lt}
use Rattle.schedule.specs.Group.{last_timestamp}
use Rattle.promise_words.specs.Timestamps.{no_words, with_range}
use Rattle.promise_words.specs.declared.clock.Clock.{Clock}
use Rattle.promise_words.specs.declared.clock.ClockFault.{ClockFault}
use Rattle.promise_words.specs.declared.clock.ClockFault.TheVariants.{PastLast}

abbrev pub fault_number : ClockFault → ℕ
fault_number PastLast = 19

abbrev pub first_clock : Clock
first_clock = record { time = 0; detached = record { words = no_words } }

-- the clock at t, with what was after it up to last detached
abbrev pub moved : Clock → ℕ → ℕ → Clock
moved c last t = record { time = t; detached = record { words = with_range c.detached.words (c.time + 1) last } }

-- t = max(m, clock + 1) is promised, and the clock goes to t; what it skips becomes detached.
-- Past the last timestamp it is refused.
abbrev pub proposal : ℕ → Clock → Result (ℕ × Clock) ClockFault
proposal m c =
    let t : ℕ = max m (c.time + 1) in
    cond (nat_le t last_timestamp) (Ok (t, moved c (t - 1) t)) (Err PastLast)

-- what a proposal leaves: its answer and its clock, or the refusal and the clock as it was
abbrev pub Settled : Result (ℕ × Clock) ClockFault → Clock → Result ℕ ClockFault → Clock → Type 0
Settled (Ok done) before answer after = (answer ≡ Ok done.0) × (after ≡ done.1)
Settled (Err fault) before answer after = (answer ≡ Err fault) × (after ≡ before)

-- if t is later, the clock goes to t, and what was up to t becomes detached; past the last timestamp nothing changes
abbrev pub bumped : ℕ → Clock → Clock
bumped t c = cond (nat_lt c.time t && nat_le t last_timestamp) (moved c t t) c
