use Rattle.std.proofs.Common.{ℕ, List, ◌∷◌, ◌++◌, string_bytes, sym, ap, ◌∙◌, arith}
use Rattle.std.proofs.lemmas.Result.{IfOk-weaker}
use Rattle.text_forms.specs.Hexadecimal.{spaced}
use Rattle.text_forms.proofs.Nibbles.{byte_encoded}
use Rattle.text_forms.proofs.hexadecimal.show_byte.Goals as goal

pub returns-then-space : goal.returns-then-space
returns-then-space c =
    let e = byte_encoded c.args.byte _ _ (omega arith) c.digit_of-high.ensures c.digit_of-low.ensures in
    IfOk-weaker c.write.result _ _ (λ _ f. f ∙ ap (λ (l : List ℕ). string_bytes c.args.out.now ++ (32 ∷ l)) e ∙ ap (λ s. string_bytes c.args.out.now ++ spaced s c.args.byte) (sym c.if-space.true)) c.write.ensures.bytes

pub returns-else-space : goal.returns-else-space
returns-else-space c =
    let e = byte_encoded c.args.byte _ _ (omega arith) c.digit_of-high.ensures c.digit_of-low.ensures in
    IfOk-weaker c.write-else-space.result _ _ (λ _ f. f ∙ ap (λ (l : List ℕ). string_bytes c.args.out.now ++ l) e ∙ ap (λ s. string_bytes c.args.out.now ++ spaced s c.args.byte) (sym c.if-space.false)) c.write-else-space.ensures.bytes
