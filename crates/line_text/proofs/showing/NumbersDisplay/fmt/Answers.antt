use Rattle.std.proofs.Common.{ℕ, ◌+◌, List, ◌∷◌, ◌++◌, get_or, drop, sym, ap, ◌∙◌, append_assoc, append-nil, arith, rules}
use Rattle.std.proofs.Output.{has_written_append, has_written_of_eq}
use Rattle.std.proofs.lemmas.List.{at_drop_more, at_drop_all}
use Rattle.line_format.specs.declared.limits.Field.TheVariants.{Sender}
use Rattle.line_text.specs.Showing.{numbers_text}
use Rattle.line_text.specs.Values.{number_text}
use Rattle.line_text.proofs.showing.NumbersDisplay.fmt.Goals as goal

pub loop-field-preserved : goal.loop-field-preserved
unfolding numbers_text
loop-field-preserved g c = λ plain.
    let sofar = c.loop-field.invariant plain in
    let es = c.args.self.now.0.now in
    let i = c.loop-field.field-index in
    let at = get_or es i (Sender, 0) in
    let value = number_text at.0 at.1 in
    let rest = numbers_text (drop (i + 1) es) in
    let shown : List ℕ = 32 ∷ (c.label-name.result.now ++ (61 ∷ value)) in
    let e = at_drop_more numbers_text es i (Sender, 0) (omega arith) in
    (sofar.0 ++ shown, has_written_append _ _ _ _ _ _ sofar.1 (c.write.ensures.writes sofar.1.plain (search rules)), append_assoc sofar.0 shown rest ∙ ap (λ (l : List ℕ). sofar.0 ++ ((32 ∷ (l ++ (61 ∷ value))) ++ rest)) c.label-name.ensures ∙ ap (λ l. sofar.0 ++ l) (sym e) ∙ sofar.2)

pub returns-clause-writes : goal.returns-clause-writes
unfolding numbers_text
returns-clause-writes g c = λ plain ok.
    let sofar = c.loop-field.invariant plain in
    let e = at_drop_all numbers_text c.args.self.now.0.now c.loop-field.field-index (omega arith) in
    has_written_of_eq _ _ _ _ _ (sym (append-nil sofar.0) ∙ ap (λ l. sofar.0 ++ l) (sym e) ∙ sofar.2) sofar.1
