-- A claim that is done gives its department the say of the hour.
use Rattle.std.proofs.Common.{◌≡◌, ℕ, ◌<◌, true, length, None, ap, ◌∙◌, arith}
use Rattle.std.proofs.lemmas.List.{get_or-set_same}
use Rattle.std.proofs.lemmas.Bool.Decides.{nat_tests}
use Rattle.schedule.specs.Changes.{hour_fits, department_fits, department_of, change_fits}
use Rattle.schedule.specs.declared.change.Change.{Change}
use Rattle.schedule.specs.declared.change.Kind.TheVariants.{Claim}
use Rattle.service_runs.specs.Laws.{ClaimGives}
use Rattle.services.specs.Rules.{is}
use Rattle.services.specs.Say.{say_number, say_at, say_judged, outcome_by, say_next, say_outcome}
use Rattle.services.specs.declared.say.SayRuling.TheVariants.{Becomes}

-- the one ruling on a claim that is answered with 0
claim_done : (c : Change) (say : ℕ) (below : ℕ × ℕ) → is c Claim ≡ true → (outcome_by (say_judged c say) below).0 ≡ 0 → (change_fits c ≡ true) × (say_judged c say ≡ Becomes (department_of c.department) say)
claim_done c say below claims done = grind (arith, nat_tests)

named : (d : ℕ) → department_fits d ≡ true → say_number (department_of d) ≡ d
named d h = grind (arith, nat_tests)

pub claim_gives : {B : Type 0} (next : B → Change → B) (outcome : B → Change → ℕ × ℕ) → ClaimGives (say_next next) (say_outcome outcome)
claim_gives next outcome state c long claims done =
    let ruled = claim_done c (say_at state.0 c.hour) (outcome state.1 c) claims done in
    let inside : hour_fits c.hour ≡ true = grind (arith, nat_tests, ruled.0) in
    let fits : department_fits c.department ≡ true = grind (arith, nat_tests, ruled.0) in
    let within : c.hour < length state.0 = grind (arith, nat_tests) in
    let who = department_of c.department in
    rw (ruled.1, inside) (ap say_number (get_or-set_same state.0 c.hour who None within) ∙ named c.department fits)
