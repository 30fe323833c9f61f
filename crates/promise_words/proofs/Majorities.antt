-- How many sets hold 1 to s, and the greatest s that enough of them hold.
use Rattle.std.proofs.Common.{◌≡◌, ℕ, suc, ◌+◌, ◌<◌, ◌≤◌, max, Bool, cond, ◌&&◌, nat_lt, nat_le, leb, ◌⊎◌, List, [], ◌∷◌, length, take, map, fold, count_by, refl, ap, ◌∙◌, subst, inl, inr, ⊎_elim, arith}
use Rattle.std.proofs.lemmas.List.{length-take-le}
use Rattle.std.proofs.lemmas.List.Sums.{sum_by-cons}
use Rattle.std.proofs.lemmas.Bool.{cases_lt, cond_both, leb-true, leb-false}
use Rattle.std.proofs.lemmas.Bool.Decides.{nat_tests}
use Rattle.schedule.specs.Group.{majority}
use Rattle.promise_words.specs.Runs.{all_in, unbroken}
use Rattle.promise_words.specs.Stability.{holders, StableAt, greatest_run, stable_of}
use Rattle.promise_words.specs.declared.timestamps.Timestamps.{Timestamps}
use Rattle.promise_words.proofs.Runs.{all_in_run, run_of}

abbrev run : Timestamps → ℕ
run k = unbroken k.words

pub holders_by_run : (s : ℕ) (sets : List Timestamps) → holders s sets ≡ count_by (λ k. leb s (run k)) sets
holders_by_run s sets = ap (λ (p : Timestamps → Bool). count_by p sets) (λ i k. all_in_run k.words (run k) s (run_of k.words) i)

counts : (a b : ℕ) → a ≤ b → ◌≡◌ {A = ℕ} (cond (leb a b) 1 0) 1
counts a b l = grind (arith, nat_tests)

counts_not : (a b : ℕ) → b < a → ◌≡◌ {A = ℕ} (cond (leb a b) 1 0) 0
counts_not a b l = grind (arith, nat_tests)

holders_cons : (s : ℕ) (k : Timestamps) (ks : List Timestamps) → holders s (k ∷ ks) ≡ cond (leb s (run k)) 1 0 + holders s ks
holders_cons s k ks =
    sum_by-cons (λ k. cond (all_in k.words s) 1 0) k ks
    ∙ ap (λ (b : Bool). cond b 1 0 + holders s ks) (all_in_run k.words (run k) s (run_of k.words))

-- how the count grows by one set, by whether it holds 1 to s
one_more : (s : ℕ) (k : Timestamps) (ks : List Timestamps) → s ≤ run k → holders s (k ∷ ks) ≡ suc (holders s ks)
one_more s k ks l = omega (arith, holders_cons s k ks, counts s (run k) l)

no_more : (s : ℕ) (k : Timestamps) (ks : List Timestamps) → run k < s → holders s (k ∷ ks) ≡ holders s ks
no_more s k ks l = omega (arith, holders_cons s k ks, counts_not s (run k) l)

fewer : (a b : ℕ) (ks : List Timestamps) → a ≤ b → holders b ks ≤ holders a ks
fewer a b [] l = omega arith
fewer a b (k ∷ ks) l =
    let rest = fewer a b ks l in
    ⊎_elim
    (λ (h : run k < b). ⊎_elim (λ (g : run k < a). omega (arith, no_more b k ks h, no_more a k ks g)) (λ (g : a ≤ run k). omega (arith, no_more b k ks h, one_more a k ks g)) (cases_lt (run k) a))
    (λ (h : b ≤ run k). let g : a ≤ run k = omega arith in omega (arith, one_more b k ks h, one_more a k ks g))
    (cases_lt (run k) b)

all_hold_none : (ks : List Timestamps) → holders 0 ks ≡ length ks
all_hold_none [] = refl
all_hold_none (k ∷ ks) = one_more 0 k ks (omega arith) ∙ ap suc (all_hold_none ks)

-- c is one of these runs
abbrev IsRun : ℕ → List Timestamps → Type 0
IsRun c [] = ⊥
IsRun c (k ∷ ks) = (run k ≡ c) ⊎ IsRun c ks

abbrev Above : ℕ → List Timestamps → Type 0
Above u ks = (c : ℕ) × (u ≤ c) × IsRun c ks × (holders u ks ≤ holders c ks)

-- the least run from u on is held by as many as hold u
least_above : (u : ℕ) (ks : List Timestamps) → (holders u ks ≡ 0) ⊎ Above u ks
least_above u [] = inl refl
least_above u (k ∷ ks) = at (cases_lt (run k) u) (least_above u ks)
  where
    at : ((run k < u) ⊎ (u ≤ run k)) → ((holders u ks ≡ 0) ⊎ Above u ks) → (holders u (k ∷ ks) ≡ 0) ⊎ Above u (k ∷ ks)
    at (inl low) (inl none) = inl (no_more u k ks low ∙ none)
    at (inl low) (inr a) = inr (a.0, a.1, inr a.2, omega (arith, a.1, a.3, no_more u k ks low, no_more a.0 k ks (omega (arith, a.1))))
    at (inr high) (inl none) = inr (run k, high, inl refl, omega (arith, none, one_more u k ks high, one_more (run k) k ks (omega arith)))
    at (inr high) (inr a) =
        ⊎_elim
        (λ (l : run k < a.0). inr (run k, high, inl refl, omega (arith, a.3, fewer (run k) a.0 ks (omega arith), one_more u k ks high, one_more (run k) k ks (omega arith))))
        (λ (l : a.0 ≤ run k). inr (a.0, a.1, inr a.2, omega (arith, a.3, one_more u k ks high, one_more a.0 k ks l)))
        (cases_lt (run k) a.0)

module _ (m : ℕ) (group : List Timestamps) where
  held : (cs : List Timestamps) → (greatest_run m group cs ≡ 0) ⊎ (m ≤ holders (greatest_run m group cs) group)
  held [] = inl refl
  held (k ∷ ks) =
      let g : ℕ = greatest_run m group ks in
      let P : ℕ → Type 0 = λ x. (x ≡ 0) ⊎ (m ≤ holders x group) in
      cond_both (leb m (holders (run k) group)) (max (run k) g) g P
      (λ e.
      ⊎_elim
      (λ (l : run k < g). let q : g ≡ max (run k) g = omega arith in subst P q (held ks))
      (λ (l : g ≤ run k). let q : run k ≡ max (run k) g = omega arith in subst P q (inr (leb-true m (holders (run k) group) e)))
      (cases_lt (run k) g))
      (λ _. held ks)

  reaches : (cs : List Timestamps) (c : ℕ) → IsRun c cs → m ≤ holders c group → c ≤ greatest_run m group cs
  reaches [] c i l = absurd i
  reaches (k ∷ ks) c i l =
      let g : ℕ = greatest_run m group ks in
      cond_both (leb m (holders (run k) group)) (max (run k) g) g (λ x. c ≤ x)
      (λ _. ⊎_elim (λ (e : run k ≡ c). omega arith) (λ (h : IsRun c ks). omega (arith, reaches ks c h l)) i)
      (λ f.
      ⊎_elim
      (λ (e : run k ≡ c). absurd (omega (arith, leb-false m (holders (run k) group) f, ap (λ (x : ℕ). holders x group) e)))
      (λ (h : IsRun c ks). reaches ks c h l)
      i)

-- the definition of the stable timestamp meets its rule
pub stable_at : (r : ℕ) (known : List Timestamps) → 3 ≤ r → r ≤ length known → StableAt r known (stable_of r known)
stable_at r known l h =
    let m : ℕ = majority r in
    let group : List Timestamps = take r known in
    let s : ℕ = stable_of r known in
    let size : length group ≡ r = length-take-le r known h in
    record {
      held =
          ⊎_elim
          (λ (z : s ≡ 0). omega (arith, size, all_hold_none group, ap (λ (x : ℕ). holders x group) z))
          (λ (e : m ≤ holders s group). e)
          (held m group group);
      greatest =
          λ u above.
          ⊎_elim
          (λ (z : holders u group ≡ 0). omega arith)
          (λ (a : Above u group).
          ⊎_elim
          (λ (few : holders u group < m). few)
          (λ (enough : m ≤ holders u group). absurd (omega (arith, a.1, reaches m group group a.0 a.2 (omega (arith, a.3)))))
          (cases_lt (holders u group) m))
          (least_above u group);
    }

-- the greater of the best so far and a run, where enough hold it
abbrev pub better : ℕ → List Timestamps → ℕ → ℕ → ℕ
better m group best n = cond (nat_lt best n && nat_le m (holders n group)) n best

grows : (m h n best rest : ℕ) → max (cond (nat_lt best n && nat_le m h) n best) rest ≡ max best (cond (nat_le m h) (max n rest) rest)
grows m h n best rest = grind (arith, nat_tests)

folded : (m : ℕ) (group ks : List Timestamps) (best : ℕ) → fold (better m group) best (map run ks) ≡ max best (greatest_run m group ks)
folded m group [] best = omega arith
folded m group (k ∷ ks) best = folded m group ks (better m group best (run k)) ∙ grows m (holders (run k) group) (run k) best (greatest_run m group ks)

-- the greatest run, as the code finds it
pub greatest_is : (m : ℕ) (group : List Timestamps) → fold (better m group) 0 (map run group) ≡ greatest_run m group group
greatest_is m group = omega (arith, folded m group group 0)
