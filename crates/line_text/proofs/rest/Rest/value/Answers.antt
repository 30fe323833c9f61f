use Rattle.std.proofs.Common.{sym, ap, ◌∙◌}
use Rattle.std.proofs.lemmas.List.{nil_from_length}
use Rattle.line_text.specs.Reading.{texts, value_first}
use Rattle.line_text.proofs.rest.Rest.value.Goals as goal

pub returns-in_default-clause-given : goal.returns-in_default-clause-given
unfolding value_first
returns-in_default-clause-given c = ap (λ l. value_first c.args.field (texts l)) (sym (nil_from_length _ c.in_default.ensures.steps.0))

pub returns-clause-given : goal.returns-clause-given
unfolding value_first
returns-clause-given c = c.value_in.ensures ∙ ap (λ l. value_first c.args.field (texts l)) (sym c.in-Some.ensures.steps)
