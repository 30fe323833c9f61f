use Rattle.std.proofs.Common.{◌≡◌, ℕ, List, Some, None, Ok, Option, sym, ap, ◌∙◌}
use Rattle.std.specs.Option.{ok_or}
use Rattle.schedule.specs.Changes.{nameless}
use Rattle.text_forms.specs.Forms.{form_named}
use Rattle.text_forms.specs.declared.form.Form.{Form}
use Rattle.line_text.specs.Reading.{texts, then, by_form, said}
use Rattle.line_text.specs.declared.fault.NotUnderstood.TheVariants as fault
use Rattle.line_text.proofs.reading.read.Goals as goal

by_name : (o : Option Form) (form : Form) (ws : List (List ℕ)) → Ok form ≡ ok_or o nameless → by_form form ws ≡ then (ok_or o fault.Name) (λ f. by_form f ws)
by_name None form ws e = absurd (cc)
by_name (Some f) form ws e = let same : form ≡ f = cc in ap (λ g. by_form g ws) same

pub returns : goal.returns
returns c =
    c.message.ensures ∙ ap (λ l. by_form c.in-Ok.form (texts l)) c.iter.ensures.rest
    ∙ by_name (form_named c.in-Some.name.now.now) c.in-Ok.form (texts c.in-Some.rest.now) c.in-Ok.ensures.value
    ∙ ap (λ l. said (texts l)) (sym c.in-Some.ensures.cases.0)
