-- Figures with equal numbers are equal: the facts that the type keeps have one proof each.
use Rattle.std.proofs.Common.{◌≡◌, ℕ, ◌+◌, ◌*◌, ◌≤◌, subst}
use native.Mathlib.Bridge.{le_prop}
use Rattle.schedule.specs.declared.figures.Figures.{Figures}

abbrev figures : (r f : ℕ) → 3 ≤ r → r ≤ 7 → 1 ≤ f → 2 * f + 1 ≤ r → Figures
figures r f a b c d = record { r = r; f = f; least = a; most = b; some = c; spare = d }

pub same_numbers : (a b : Figures) → a.r ≡ b.r → a.f ≡ b.f → a ≡ b
same_numbers a b p q =
    let
    Like : ℕ → ℕ → Type 0
    = λ r f. (h : 3 ≤ r) (i : r ≤ 7) (j : 1 ≤ f) (k : 2 * f + 1 ≤ r) → a ≡ figures r f h i j k in
    let own : Like a.r a.f = λ h i j k t. figures a.r a.f (le_prop a.least h t) (le_prop a.most i t) (le_prop a.some j t) (le_prop a.spare k t) in
    subst (Like b.r) q (subst (λ r. Like r a.f) p own) b.least b.most b.some b.spare
