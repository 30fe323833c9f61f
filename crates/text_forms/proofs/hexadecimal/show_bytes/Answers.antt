use Rattle.std.proofs.Common.{◌≡◌, ◌+◌, ◌%◌, ◌&&◌, eqb, ltb, ◌++◌, get_or, drop, string_bytes, sym, ap, ◌∙◌, append_assoc, append-nil, arith, rules}
use Rattle.std.proofs.lemmas.List.{at_drop_more, at_drop_all}
use Rattle.std.proofs.lemmas.Bool.Decides.{nat_tests}
use Rattle.text_forms.specs.Hexadecimal.{text_from, spaced}
use Rattle.text_forms.proofs.Nibbles.{bytes_back}
use Rattle.text_forms.proofs.hexadecimal.show_bytes.Goals as goal
use Rattle.text_forms.proofs.hexadecimal.show_bytes.Goals.{then-i-gt0, else-i-gt0}

pub loop-i-preserved : goal.loop-i-preserved
loop-i-preserved c =
    let i = c.loop-i.i in
    let bs = c.args.bytes.now in
    let e = at_drop_more (text_from i) bs i 0 (omega arith) in
    let rest = text_from (i + 1) (drop (i + 1) bs) in
    let before = string_bytes c.loop-i.out in
    let space : c.if-i-gt0.show_byte ≡ (ltb 0 i && eqb (i % 4) 0) = elim c.if-i-gt0.branch [ then-i-gt0 w ↦ grind (arith, nat_tests) | else-i-gt0 w ↦ grind (arith, nat_tests) ] in
    ap (λ l. l ++ rest) c.in_ok-show_byte.ensures ∙ append_assoc before (spaced c.if-i-gt0.show_byte (get_or bs i 0)) rest
    ∙ ap (λ s. before ++ (spaced s (get_or bs i 0) ++ rest)) space ∙ ap (λ l. before ++ l) (sym e) ∙ c.loop-i.invariant

pub returns-in_err-show_byte : goal.returns-in_err-show_byte
returns-in_err-show_byte c = record { shown = search rules; back = bytes_back }

pub returns : goal.returns
returns c =
    let e = at_drop_all (text_from c.loop-i.i) c.args.bytes.now c.loop-i.i (omega arith) in
    record { shown = sym (append-nil (string_bytes c.loop-i.out)) ∙ ap (λ l. string_bytes c.loop-i.out ++ l) (sym e) ∙ c.loop-i.invariant; back = bytes_back }
