use Rattle.std.proofs.Common.{◌≡◌, ℕ, List, [], ◌∷◌, Bool, false, length, None, Some, Option, refl, subst, ap, ◌∙◌}
use Rattle.std.specs.Str.Iter.{split_whitespace_rest, split_whitespace_steps}
use Rattle.std.specs.Iterator.Adapters.{fuse_source, fuse_done, fuse_steps}
use Rattle.std.specs.Prelude.{MatchBool}
use Rattle.std.specs.declared.iter.Fuse.{Fuse}
use Rattle.std.specs.declared.str.SplitWhitespace.{SplitWhitespace}
use denote.Ref.{Bor}
use Rattle.plans.specs.Lines.{FirstWords, found}
use Rattle.plans.proofs.request.asked.Goals as goal

-- calls of `next`, one after the other, from the iterator s
abbrev Calls : Fuse SplitWhitespace → List (Option (Bor (List ℕ))) → Type 0
Calls s [] = Unit {0}
Calls s (r ∷ rs) = (t : Fuse SplitWhitespace) × fuse_steps split_whitespace_steps s r t × Calls t rs

-- a step before the end is one of the source
step : (s t : Fuse SplitWhitespace) (r : Option (Bor (List ℕ))) → fuse_done s ≡ false → fuse_steps split_whitespace_steps s r t → split_whitespace_steps (fuse_source s) r (fuse_source t)
step s t r going steps = subst (λ done. MatchBool done (r ≡ None) (split_whitespace_steps (fuse_source s) r (fuse_source t))) going steps.0

first_words : (s : Fuse SplitWhitespace) (rs : List (Option (Bor (List ℕ)))) → fuse_done s ≡ false → Calls s rs → FirstWords (length rs) (split_whitespace_rest (fuse_source s)) (found rs)
first_words s [] going calls = refl
first_words s (None ∷ rs) going calls = (step s calls.0 None going calls.1).1
first_words s (Some w ∷ rs) going calls =
    let cut = step s calls.0 (Some w) going calls.1 in
    (_, record { gap = cut.0; cut = cut.1; some = cut.2; blank = cut.3; solid = cut.4; ends = cut.5 }, first_words calls.0 rs calls.1.1 calls.2)

pub returns : goal.returns
returns c =
    let rs = c.next.result ∷ c.next-2.result ∷ c.next-3.result ∷ c.next-4.result ∷ c.next-5.result ∷ c.next-6.result ∷ [] in
    let calls : Calls c.fuse-words.result rs = (_, c.next.ensures.steps, (_, c.next-2.ensures.steps, (_, c.next-3.ensures.steps, (_, c.next-4.ensures.steps, (_, c.next-5.ensures.steps, (_, c.next-6.ensures.steps, tt)))))) in
    let rest = ap split_whitespace_rest c.fuse-words.ensures.source ∙ c.split_whitespace.ensures.rest in
    (found rs, subst (λ bs. FirstWords 6 bs (found rs)) rest (first_words _ rs c.fuse-words.ensures.done calls), c.asked_of.ensures)
