use Rattle.std.proofs.Common.{◌≡◌, ◌+◌, get_or, length, take, drop, Ok, Err, sym, refl, ap, ◌∙◌, arith, rules, length-set}
use Rattle.std.specs.Slice.Iter.{iter_rest}
use Rattle.std.proofs.lemmas.List.{length-replicate, take_more_set, take_all}
use Rattle.line_format.specs.declared.limits.Field.TheVariants.{Sender}
use Rattle.line_text.specs.Reading.{texts, number_first, numbers_first}
use Rattle.line_text.proofs.Taken.{joined, joined_none, drop_one, one_read, one_refused, all_read}
use Rattle.line_text.proofs.rest.Rest.numbers.Goals as goal

pub loop-i-init : goal.loop-i-init
loop-i-init g c = (sym (joined_none _), refl, length-replicate g.row.N 0 ∙ sym c.told-fields)

pub loop-i-preserved : goal.loop-i-preserved
loop-i-preserved g c =
    let ws = texts (iter_rest c.args.self.now.words) in
    let fs = c.args.fields.now in
    let i = c.loop-i.i in
    let n = c.in_ok-numbers.field-0 in
    let inv = c.loop-i.invariant in
    let read = sym c.in_ok-numbers.was ∙ c.number.ensures.given ∙ ap (number_first (get_or fs i Sender)) inv.1 in
    (one_read fs ws (take i c.loop-i.numbers) i Sender (omega arith) inv.0 n read ∙ ap (λ l. joined l (numbers_first (drop (i + 1) fs) (drop (i + 1) ws))) (sym (take_more_set c.loop-i.numbers i n (omega arith))), c.number.ensures.left ∙ ap (drop 1) inv.1 ∙ drop_one ws i, simp length-set inv.2)

pub returns-in_err-numbers-clause-given : goal.returns-in_err-numbers-clause-given
returns-in_err-numbers-clause-given g c =
    let ws = texts (iter_rest c.args.self.now.words) in
    let fs = c.args.fields.now in
    let i = c.loop-i.i in
    let inv = c.loop-i.invariant in
    let read = sym c.in_err-numbers.was ∙ c.number.ensures.given ∙ ap (number_first (get_or fs i Sender)) inv.1 in
    let refused : Err c.in_err-numbers.field-0.0 ≡ numbers_first fs ws = one_refused fs ws (take i c.loop-i.numbers) i Sender (omega arith) inv.0 c.in_err-numbers.field-0.0 read in
    search (rules, refused)

pub returns-clause-given : goal.returns-clause-given
returns-clause-given g c =
    let inv = c.loop-i.invariant in
    let whole : take c.loop-i.i c.loop-i.numbers ≡ c.loop-i.numbers = take_all c.loop-i.i c.loop-i.numbers (omega arith) in
    ap (λ l. Ok l) (sym whole) ∙ all_read c.args.fields.now _ _ c.loop-i.i (omega arith) inv.0

pub returns-clause-left : goal.returns-clause-left
returns-clause-left g c =
    let past : c.loop-i.i ≡ length c.args.fields.now = omega arith in
    c.loop-i.invariant.1 ∙ ap (λ n. drop n (texts (iter_rest c.args.self.now.words))) past
