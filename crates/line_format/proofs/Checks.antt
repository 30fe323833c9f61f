-- The first unfit field of a list of checks and another.
use Rattle.std.proofs.Common.{◌≡◌, true, false, cond, List, [], ◌∷◌, ◌++◌, Some, refl}
use Rattle.std.specs.Option.{option_or}
use Rattle.line_format.specs.Limits.{Check, first_unfit}

pub unfit_append : (xs ys : List Check) → first_unfit (xs ++ ys) ≡ option_or (first_unfit xs) (first_unfit ys)
unfit_append [] ys = refl
unfit_append (x ∷ xs) ys =
    let e = unfit_append xs ys in
    elim x.fits as (λ b. cond b (first_unfit (xs ++ ys)) (Some x.field) ≡ option_or (cond b (first_unfit xs) (Some x.field)) (first_unfit ys)) [ true ↦ e | false ↦ refl ]
