-- The number of each refusal of the line format.
use Rattle.std.specs.Prelude.{ℕ}
use Rattle.line_format.specs.declared.fault.LineFault.{LineFault}
use Rattle.line_format.specs.declared.fault.LineFault.TheVariants.{ShortBuffer, Malformed, OutsideLimits}

abbrev pub fault_number : LineFault → ℕ
fault_number ShortBuffer = 12
fault_number Malformed = 13
fault_number OutsideLimits = 14
