-- The numbers of the refusals.
use Rattle.std.specs.Prelude.{ℕ}
use Rattle.line_format.specs.Faults.{fault_number}
use Rattle.line_format.specs.declared.fault.LineFault.{LineFault}
use Rattle.promise_words.specs.Clocks
use Rattle.promise_words.specs.declared.clock.ClockFault.{ClockFault}
use Rattle.sites.specs.declared.refusal.Refusal.{Refusal}
use Rattle.sites.specs.declared.refusal.Refusal.TheVariants.{Line, WrongSender, OutOfStep, NumbersSpent, BallotsSpent, TimestampsSpent, NothingDue}

abbrev pub refusal_number : Refusal → ℕ
refusal_number (Line fault) = fault_number fault
refusal_number WrongSender = 15
refusal_number OutOfStep = 16
refusal_number NumbersSpent = 17
refusal_number BallotsSpent = 18
refusal_number (TimestampsSpent fault) = Clocks.fault_number fault
refusal_number NothingDue = 20

abbrev pub by_line : LineFault → Refusal
by_line fault = Line fault

abbrev pub by_clock : ClockFault → Refusal
by_clock fault = TimestampsSpent fault
