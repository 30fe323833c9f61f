use Rattle.std.proofs.Common.{get_or, length, ap, ◌∙◌, arith}
use Rattle.text_forms.proofs.Numerals.{number_of_plain}
use Rattle.text_forms.proofs.number.number.Goals as goal

pub returns-in_default : goal.returns-in_default
returns-in_default c =
    let same = ap (λ l. get_or l 0 0) c.as_bytes.ensures.value in
    let size = ap length c.as_bytes.ensures.value in
    c.ok.ensures.value ∙ number_of_plain c.args.text.now _ c.parse.ensures.value.0 (λ some e. grind arith) (λ e. grind arith)
