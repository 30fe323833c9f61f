-- Who has the say of an hour keeps it until yielding it, and the other department changes nothing of that hour.
use Rattle.std.proofs.Common.{◌≡◌, ℕ, zero, suc, Bool, true, false, cond, not, ◌&&◌, eqb, ◌⊎◌, List, [], ◌∷◌, get_or, take, drop, set, None, Option, sym, refl, ap, ◌∙◌, inl, inr, ⊎_elim, arith}
use Rattle.std.proofs.lemmas.Bool.{and_parts, not-true}
use Rattle.std.proofs.lemmas.Bool.Decides.{nat_tests}
use Rattle.schedule.specs.Changes.{hour_fits}
use Rattle.schedule.specs.declared.change.Change.{Change}
use Rattle.schedule.specs.declared.change.Department.{Department}
use Rattle.schedule.specs.declared.change.Kind.TheVariants.{Yield}
use Rattle.service_runs.specs.Laws.{ran, by_other, without_others, yields, never_yields, SayKept, SayHolds}
use Rattle.services.specs.Rules.{is}
use Rattle.services.specs.Say.{Says, say_number, say_at, say_judged, say_ruling, says_by, below_by, say_next}
use Rattle.services.specs.declared.say.SayRuling.{SayRuling}
use Rattle.services.specs.declared.say.SayRuling.TheVariants.{Below, Becomes, Refused}

-- the say of an hour after some hour's say was set
set_cases : (says : Says) (i j : ℕ) (who : Option Department) → (get_or (set says i who) j None ≡ get_or says j None) ⊎ ((i ≡ j) × (get_or (set says i who) j None ≡ who))
set_cases [] i j who = inl refl
set_cases (x ∷ xs) zero zero who = inr (refl, refl)
set_cases (x ∷ xs) zero (suc j) who = inl refl
set_cases (x ∷ xs) (suc i) zero who = inl refl
set_cases (x ∷ xs) (suc i) (suc j) who = ⊎_elim inl (λ at. inr (ap suc at.0, at.1)) (set_cases xs i j who)

-- where d has the say, the other department's changes are refused
not_below : (c : Change) (d : ℕ) → (d ≡ 0 → ⊥) → eqb c.department d ≡ false → say_judged c d ≡ Below → ⊥
not_below c d some other e = grind (arith, nat_tests)

not_becomes : (c : Change) (d : ℕ) (who : Option Department) (told : ℕ) → (d ≡ 0 → ⊥) → eqb c.department d ≡ false → say_judged c d ≡ Becomes who told → ⊥
not_becomes c d who told some other e = grind (arith, nat_tests)

-- and the say can become only d's again, but by a yield of d's own
becomes_own : (c : Change) (d : ℕ) (who : Option Department) (told : ℕ) → (d ≡ 0 → ⊥) → eqb c.department d && is c Yield ≡ false → say_judged c d ≡ Becomes who told → say_number who ≡ d
becomes_own c d who told some kept e = grind (arith, nat_tests)

module _ {B : Type 0} (next : B → Change → B) (h d : ℕ) (some : d ≡ 0 → ⊥) where
  refused : (state : Says × B) (c : Change) → say_at state.0 h ≡ d → by_other h d c ≡ true → say_next next state c ≡ state
  refused state c has other = by (say_ruling state.0 c) refl
    where
      parts : (c.hour ≡ h) × (eqb c.department d ≡ false)
      parts = grind (arith, nat_tests)

      there : say_at state.0 c.hour ≡ d
      there = ap (say_at state.0) parts.0 ∙ has

      by : (r : SayRuling) → say_ruling state.0 c ≡ r → (says_by r state.0 c, below_by r state.1 (next state.1 c)) ≡ state
      by Below e = absurd (not_below c d some parts.1 (ap (say_judged c) (sym there) ∙ e))
      by (Becomes who told) e = absurd (not_becomes c d who told some parts.1 (ap (say_judged c) (sym there) ∙ e))
      by (Refused answer told) e = refl

  stays : (says : Says) (c : Change) → say_at says h ≡ d → yields h d c ≡ false → say_at (says_by (say_ruling says c) says c) h ≡ d
  stays says c has kept = by (say_ruling says c) refl
    where
      own : (who : Option Department) (told : ℕ) → say_ruling says c ≡ Becomes who told → c.hour ≡ h → say_number who ≡ d
      own who told e at =
          let there : say_at says c.hour ≡ d = ap (say_at says) at ∙ has in
          becomes_own c d who told some (grind (arith, nat_tests)) (ap (say_judged c) (sym there) ∙ e)

      given : (who : Option Department) (told : ℕ) → say_ruling says c ≡ Becomes who told → (fits : Bool) → hour_fits c.hour ≡ fits → say_at (cond fits (set says c.hour who) says) h ≡ d
      given who told e false no_hour = has
      given who told e true hour =
          ⊎_elim
          (λ other. ap (λ say. cond (hour_fits h) (say_number say) 0) other ∙ has)
          (λ same. ap (λ say. cond (hour_fits h) (say_number say) 0) same.1 ∙ ap (λ fits. cond fits (say_number who) 0) (ap hour_fits (sym same.0) ∙ hour) ∙ own who told e same.0)
          (set_cases says c.hour h who)

      by : (r : SayRuling) → say_ruling says c ≡ r → say_at (says_by r says c) h ≡ d
      by Below e = has
      by (Becomes who told) e = given who told e (hour_fits c.hour) refl
      by (Refused answer told) e = has

  abbrev Kept : Says × B → List Change → Type 0
  Kept state cs = SayKept (say_next next) state cs h d

  one_more : (state : Says × B) (c : Change) (cs : List Change) → say_at state.0 h ≡ d → Kept (say_next next state c) cs → Kept state (c ∷ cs)
  one_more state c cs has after = (after.0, by (by_other h d c) refl)
    where
      by : (other : Bool) → by_other h d c ≡ other → ran (say_next next) (say_next next state c) cs ≡ ran (say_next next) state (cond other (without_others h d cs) (c ∷ without_others h d cs))
      by true e = after.1 ∙ ap (λ s. ran (say_next next) s (without_others h d cs)) (refused state c has e)
      by false e = after.1

  holds : (state : Says × B) (cs : List Change) → say_at state.0 h ≡ d → never_yields h d cs ≡ true → Kept state cs
  holds state [] has never = (has, refl)
  holds state (c ∷ cs) has never =
      let parts = and_parts (not (yields h d c)) (never_yields h d cs) never in
      one_more state c cs has (holds (say_next next state c) cs (stays state.0 c has (not-true _ parts.0)) parts.1)

pub say_holds : {B : Type 0} (next : B → Change → B) (state : Says × B) (cs : List Change) → SayHolds (say_next next) state cs
say_holds next state cs from count h d some has never =
    holds next h d some (ran (say_next next) state (take from cs)) (take count (drop from cs)) has never
