use Rattle.std.proofs.Common.{ℕ, Bool, ◌&&◌, ◌||◌, eqb, is_some, sym, refl, ◌∙◌, rules, tests}
use Rattle.std.specs.List.{list_all}
use Rattle.std.proofs.lemmas.Iterator.{YieldsList-from_slice}
use Rattle.std.proofs.lemmas.Iterator.Search.{all_from_yields_List}
use Rattle.std.proofs.lemmas.List.Recursion.{same_from_clauses}
use Rattle.text_forms.specs.Hexadecimal.{digit_value, hexadecimal}
use Rattle.text_forms.proofs.hexadecimal.is_hexadecimal.Goals as goal

abbrev passes : ℕ → Bool
passes c = eqb c 32 || is_some (digit_value c)

pub returns : goal.returns
returns c =
    let text = c.args.text.now in
    all_from_yields_List passes _ _ _ c.all.ensures.ran (YieldsList-from_slice text cc) (λ x b q k. search (rules, tests))
    ∙ sym (same_from_clauses hexadecimal (list_all passes) (λ x b. passes x && b) refl (λ _ _. refl) (λ _ _. refl) text)
