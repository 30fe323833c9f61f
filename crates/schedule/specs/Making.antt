-- Making group figures, and telling them apart.
use Rattle.std.specs.Prelude.{◌≡◌, ℕ, Bool, true, false, ◌&&◌, Ok, Err, Result, ◌==◌}
use Rattle.schedule.specs.Group.{figures_fit}
use Rattle.schedule.specs.declared.figures.Figures.{Figures}
use Rattle.schedule.specs.declared.figures.FiguresFault.{FiguresFault}
use Rattle.schedule.specs.declared.figures.FiguresFault.TheVariants.{OutsideLimits}

-- the number of each refusal
abbrev pub fault_number : FiguresFault → ℕ
fault_number OutsideLimits = 11

-- figures exist exactly within the limits; outside them the refusal is 11
abbrev pub Made : ℕ → ℕ → Result Figures FiguresFault → Type 0
Made r f (Ok g) = (figures_fit r f ≡ true) × (g.r ≡ r) × (g.f ≡ f)
Made r f (Err fault) = (figures_fit r f ≡ false) × (fault_number fault ≡ 11)

-- equal numbers are told as equal, and figures told as equal are the same figures
abbrev pub ToldApart : Figures → Figures → Bool → Type 0
ToldApart a b answer = (answer ≡ (a.r == b.r && a.f == b.f)) × (answer ≡ true → a ≡ b)
