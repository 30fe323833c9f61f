use Rattle.std.proofs.Common.{◌≡◌, ◌<◌, get_or, is_ok, unwrap_or, sym, ap, ◌∙◌, subst, arith}
use Rattle.std.proofs.ResultArms.{chosen}
use Rattle.text_forms.specs.Hexadecimal.{digit_value}
use Rattle.text_forms.proofs.Nibbles.{at_space, at_digit, at_first, at_second, ended_none, ended_some, digit_value_small}
use Rattle.text_forms.proofs.hexadecimal.bytes.Goals as goal
use Rattle.text_forms.proofs.hexadecimal.bytes.Goals.{in-None, in-Some-high+in_ok-push-in-Some-high}

pub loop-c-preserved-then-c-eq32 : goal.loop-c-preserved-then-c-eq32
loop-c-preserved-then-c-eq32 c =
    let same = ap (λ l. get_or l c.loop-c.c-index 0) c.as_bytes-c-items.ensures.value in
    (at_space c.args.text.now _ c.loop-c.c-index _ (omega arith) c.loop-c.invariant.0 (omega arith), c.loop-c.invariant.1)

pub returns-in_default : goal.returns-in_default
returns-in_default c =
    let same = ap (λ l. get_or l c.loop-c.c-index 0) c.as_bytes-c-items.ensures.value in
    sym (at_digit c.args.text.now _ c.loop-c.c-index _ (omega arith) c.loop-c.invariant.0 _ (λ e. c.if-c-eq32.false (same ∙ e)) (c.in_default.ensures ∙ ap digit_value same))

pub overflow_add-first : goal.overflow_add-first
overflow_add-first c =
    omega (arith, digit_value_small (get_or c.as_bytes-c-items.result.now c.loop-c.c-index 0) c.in-Some.value (sym c.in-Some.ensures), subst (λ o. unwrap_or o 0 < 16) c.in-Some-high.is c.loop-c.invariant.1)

pub loop-c-preserved : goal.loop-c-preserved
loop-c-preserved c =
    let same = ap (λ l. get_or l c.loop-c.c-index 0) c.as_bytes-c-items.ensures.value in
    let value = c.in-Some.ensures ∙ ap digit_value same in
    let apart : get_or c.args.text.now c.loop-c.c-index 0 ≡ 32 → ⊥ = λ e. c.if-c-eq32.false (same ∙ e) in
    elim c.match-high.branch [
      | in-None w ↦ (
        let step = at_first c.args.text.now _ c.loop-c.c-index _ (omega arith) c.loop-c.invariant.0 _ w.in-None.is apart value in cc,
        subst (λ o. unwrap_or o 0 < 16) (sym w.high-is) (digit_value_small (get_or c.args.text.now c.loop-c.c-index 0) c.in-Some.value (sym value)),
      )
      | in-Some-high+in_ok-push-in-Some-high w ↦ (
        let step = at_second c.args.text.now _ c.loop-c.c-index _ (omega arith) c.loop-c.invariant.0 _ _ w.in-Some-high.is apart value in
            let pushed = chosen _ _ _ _ w.push.ensures.items (ap is_ok w.in_ok-push-in-Some-high.was) in cc,
        subst (λ o. unwrap_or o 0 < 16) (sym w.high-is) (omega arith),
      )
    ]

pub returns-then-is_some : goal.returns-then-is_some
returns-then-is_some c = ended_some c.args.text.now _ _ _ (omega arith) c.loop-c.invariant.0 (sym c.if-is_some.ensures)

pub returns : goal.returns
returns c = ended_none c.args.text.now _ _ _ (omega arith) c.loop-c.invariant.0 (sym c.if-is_some.ensures)
