-- The first ballot of a row that belongs to a controller.
use Rattle.std.proofs.Common.{◌≡◌, ℕ, zero, suc, ◌+◌, ◌-◌, ◌*◌, ◌/◌, ◌%◌, ◌<◌, ◌≤◌, max, Bool, true, false, cond, Some, None, Option, sym, refl, ap, ◌∙◌, inl, inr, mod-lt, eq-or-lt_of_le, add-one, arith}
use native.Mathlib.Omega.{by_contra}
use native.Mathlib.Nat.{mod-le, div-add-mod, add-mul-mod_self_left}
use Rattle.std.proofs.lemmas.Bool.{both_ways}
use Rattle.std.proofs.lemmas.Bool.Decides.{nat_tests}
use Rattle.std.specs.List.{find, range_with_len}
use Rattle.schedule.specs.Group.{last_ballot, owner}
use Rattle.sites.specs.Sites.{owns, first_own, LeastOwn}

none_owned : (r c b : ℕ) → last_ballot < b → owns r c b ≡ false
none_owned r c b above = grind (arith, nat_tests)

-- above the last ballot there is none
pub none_above : (r c b n : ℕ) → last_ballot < b → first_own r c b n ≡ None
none_above r c b zero above = λ i. None
none_above r c b (suc n) above =
    ap (λ own. cond own (Some b) (first_own r c (suc b) n)) (none_owned r c b above) ∙ none_above r c (suc b) n (omega (arith, above))

-- the first of the row, as the code finds it
pub found : (r c b n : ℕ) → find (owns r c) (range_with_len b n) ≡ first_own r c b n
found r c b zero = refl
found r c b (suc n) = ap (λ rest. cond (owns r c b) (Some b) rest) (found r c (b + 1) n ∙ ap (λ next. first_own r c next n) (add-one b))

owned : (r c n : ℕ) → 1 ≤ n → n ≤ last_ballot → owner r n ≡ c → owns r c n ≡ true
owned r c n low high own = grind (arith, nat_tests)

own_fits : (r c n : ℕ) → owns r c n ≡ true → n ≤ last_ballot
own_fits r c n own = grind (arith, nat_tests)

own_owner : (r c n : ℕ) → owns r c n ≡ true → owner r n ≡ c
own_owner r c n own = grind (arith, nat_tests)

-- what is found belongs to the controller, and nothing before it does
record First (r c b n : ℕ) : Type 0 where
  pub low : b ≤ n
  pub own : owns r c n ≡ true
  pub before : (m : ℕ) → b ≤ m → m < n → owns r c m ≡ true → ⊥

first_is : (r c b k n : ℕ) → first_own r c b k ≡ Some n → First r c b n
first_is r c b zero n e = let z : ◌≡◌ {A = ℕ} 0 1 = cc in absurd (omega arith)
first_is r c b (suc k) n e = at (owns r c b) refl (first_is r c (suc b) k n) e
  where
    at :
        (own : Bool) → owns r c b ≡ own → (first_own r c (suc b) k ≡ Some n → First r c (suc b) n) →
        cond own (Some b) (first_own r c (suc b) k) ≡ Some n → First r c b n
    at true is later e =
        let same : b ≡ n = cc in
        record { low = omega arith; own = sym (ap (owns r c) same) ∙ is; before = λ m low high own. omega arith }
    at false is later e =
        let rest = later e in
        record {
          low = omega (arith, rest.low);
          own = rest.own;
          before =
              λ m low high own.
              elim (eq-or-lt_of_le low) [ inl same ↦ both_ways (owns r c m) (sym (ap (owns r c) same) ∙ is) own | inr more ↦ rest.before m more high own ];
        }

-- where nothing is found, none belongs to the controller
none_is : (r c b k : ℕ) → first_own r c b k ≡ None → (m : ℕ) → b ≤ m → m < b + k → owns r c m ≡ true → ⊥
none_is r c b zero e m low high own = omega arith
none_is r c b (suc k) e m low high own = at (owns r c b) refl (none_is r c (suc b) k) e
  where
    at :
        (here : Bool) → owns r c b ≡ here →
        (first_own r c (suc b) k ≡ None → (m : ℕ) → suc b ≤ m → m < suc b + k → owns r c m ≡ true → ⊥) →
        cond here (Some b) (first_own r c (suc b) k) ≡ None → ⊥
    at true is later e = let z : ◌≡◌ {A = ℕ} 0 1 = cc in omega arith
    at false is later e =
        elim (eq-or-lt_of_le low) [ inl same ↦ both_ways (owns r c m) (sym (ap (owns r c) same) ∙ is) own | inr more ↦ later e m more (omega arith) own ]

-- of r numbers in a row, from b on, one has the owner that n has
same_owner : (r b n : ℕ) → 1 ≤ b → b ≤ n → owner r n ≡ owner r (b + (n - b) % r)
same_owner r b n low above =
    let parts = div-add-mod (n - b) r in
    let whole : n - 1 ≡ b + (n - b) % r - 1 + r * ((n - b) / r) = omega (arith, parts) in
    ap (λ x. x % r + 1) whole ∙ ap (λ x. x + 1) (add-mul-mod_self_left (b + (n - b) % r - 1) r ((n - b) / r))

pub least : (r c b : ℕ) → 1 ≤ r → (answer : Option ℕ) → first_own r c (suc (max r b)) r ≡ answer → LeastOwn r c b answer
least r c b some (Some n) e =
    let found = first_is r c (suc (max r b)) r n e in
    let low : suc (max r b) ≤ n = found.low in
    let fits : n ≤ last_ballot = own_fits r c n found.own in (
      omega arith,
      omega arith,
      fits,
      own_owner r c n found.own,
      λ m above_r above_b own.
          by_contra n m (λ less. found.before m (omega arith) less (owned r c m (omega arith) (omega arith) own)),
    )
least r c b some None e =
    λ n above_r above_b own.
    by_contra (suc last_ballot) n
    (λ less.
    let start : ℕ = suc (max r b) in
    let part : (n - start) % r < r = mod-lt (n - start) some in
    let no_more : (n - start) % r ≤ n - start = mod-le (n - start) r in
    none_is r c start r e (start + (n - start) % r) (omega arith) (omega arith)
    (owned r c (start + (n - start) % r) (omega arith) (omega arith) (sym (same_owner r start n (omega arith) (omega arith)) ∙ own)))
