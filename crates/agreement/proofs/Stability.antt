-- Up to a stable timestamp nothing is left to come, and clocks do not pass the number of own promises.
use mathlib.Core.Path.{◌≡◌, refl, sym, subst, ◌∙◌}
use mathlib.Core.Bool.{Bool, true, false, ◌&&◌, ◌||◌}
use mathlib.Core.Logic.{◌⊎◌, inl, inr}
use Prim.Native.Nat.{ℕ, zero, suc, ◌+◌, ◌*◌, ◌≤◌, ◌<◌}
use native.Mathlib.Decide.{ℕ_discrete, dec_le}
use native.Mathlib.Omega.{arith}
use lib.Dec.{ltb}
use Rattle.agreement.specs.Sets.{Set, count, Among}
use Rattle.agreement.specs.Runs.{◌∈◌, put}
use Rattle.agreement.specs.Promises.{Book, Told, Instant, first, Move, with_between, changed, actor, telling, after, MajorityBelow, Reached, Allowed, Stable, made, Sound, NothingBelow}
use Rattle.agreement.specs.Promises.Move.{promise, bump, tell, hear, commit}
use Rattle.agreement.proofs.Truth.{clash, not-true}
use Rattle.agreement.proofs.Tables.{either, one_more, put_each, at_put, run_keeps}
use Rattle.agreement.proofs.Counting.{count_all, count_le, count_lt, meet}

-- ---- the facts

pub record BookOk (b : Book) : Type 0 where
  pub own_low : (c : ℕ) → b.own c ≤ b.clock
  pub detached_low : (u : ℕ) → b.detached u ≡ true → u ≤ b.clock
  -- an own promise is not detached
  pub apart : (c : ℕ) → 1 ≤ b.own c → b.detached (b.own c) ≡ false
  -- and is for one change
  pub single : (c d : ℕ) → 1 ≤ b.own c → b.own c ≡ b.own d → c ≡ d

-- What i may know that j promised: detached ones, and those for changes that are committed at i.
abbrev pub Evidence : Instant → ℕ → ℕ → ℕ → Type 0
Evidence x i j u =
    ((x.books j).detached u ≡ true) ⊎ ((c : ℕ) × (1 ≤ (x.books i).stamp c) × (1 ≤ u) × ((x.books j).own c ≡ u))

pub record ToldOk (x : Instant) (m : Told) : Type 0 where
  pub detached : (u : ℕ) → m.detached u ≡ true → (x.books m.who).detached u ≡ true
  pub own : (c : ℕ) → 1 ≤ m.own c → (x.books m.who).own c ≡ m.own c

pub record Inv (r n : ℕ) (x : Instant) : Type 0 where
  pub books : (j : ℕ) → BookOk (x.books j)
  pub known : (i j u : ℕ) → (x.books i).known j u ≡ true → Evidence x i j u
  pub told : (m : Told) → m ∈ x.told → ToldOk x m
  pub grounded : (i c : ℕ) → 1 ≤ (x.books i).stamp c → MajorityBelow r x c ((x.books i).stamp c)
  pub counted : (j : ℕ) → 1 ≤ j → j ≤ r → (x.books j).clock ≤ made r x n

-- ---- growth

record Grows (a b : Book) : Type 0 where
  clock : a.clock ≤ b.clock
  own : (c : ℕ) → 1 ≤ a.own c → b.own c ≡ a.own c
  detached : (u : ℕ) → a.detached u ≡ true → b.detached u ≡ true
  stamp : (c : ℕ) → 1 ≤ a.stamp c → b.stamp c ≡ a.stamp c

grows_same : (b : Book) → Grows b b
grows_same b =
    record { clock = omega arith; own = λ _ _. refl; detached = λ _ d. d; stamp = λ _ _. refl }

record ◌⊑◌ (x y : Instant) : Type 0 where
  at : (k : ℕ) → Grows (x.books k) (y.books k)

infix 40 ◌⊑◌
evidence_survives : {x y : Instant} → x ⊑ y → (i j u : ℕ) → Evidence x i j u → Evidence y i j u
evidence_survives e i j u (inl d) = inl ((e.at j).detached u d)
evidence_survives e i j u (inr (c, s, p, o)) =
    let h = (e.at i).stamp c s in
    let k = (e.at j).own c (omega arith) in
    inr (c, omega arith, p, k ∙ o)

told_survives : {x y : Instant} → x ⊑ y → (m : Told) → ToldOk x m → ToldOk y m
told_survives e m h =
    record {
      detached = λ u d. (e.at m.who).detached u (h.detached u d);
      own = λ c p. let o = h.own c p in (e.at m.who).own c (omega arith) ∙ o;
    }

majority_survives : (r : ℕ) {x y : Instant} → x ⊑ y → (c t : ℕ) → MajorityBelow r x c t → MajorityBelow r y c t
majority_survives r e c t (who, n, h) =
    (who, n, λ j m. let k = h j m in let o = (e.at j).own c k.0 in (omega arith, omega arith))

positive : (a b : ℕ) → (1 ≤ a → b ≡ a) → ltb 0 a ≡ true → ltb 0 b ≡ true
positive a b h e = grind arith

-- Who made an own promise for the change.
abbrev makers : Instant → ℕ → Set
makers x c j = ltb 0 ((x.books j).own c)

makers_grow : {x y : Instant} → x ⊑ y → (r c j : ℕ) → Among r (makers x c) j → makers y c j ≡ true
makers_grow {x} {y} e r c j m = positive ((x.books j).own c) ((y.books j).own c) ((e.at j).own c) m.2

made_grows : (r : ℕ) {x y : Instant} → x ⊑ y → (n : ℕ) → made r x n ≤ made r y n
unfolding made
made_grows r e zero = omega arith
made_grows r {x} {y} e (suc n) =
    omega (arith, made_grows r e n, count_le (makers x (suc n)) (makers y (suc n)) r (makers_grow e r (suc n)))

-- A first own promise for one of the changes counts.
made_more : (r : ℕ) {x y : Instant} → x ⊑ y → (n j c : ℕ) → 1 ≤ j → j ≤ r → 1 ≤ c → c ≤ n → makers x c j ≡ false → makers y c j ≡ true
    → made r x n < made r y n
unfolding made
made_more r e zero j c j1 jr c1 cn old new = absurd (omega arith)
made_more r {x} {y} e (suc n) j c j1 jr c1 cn old new = go (ℕ_discrete c (suc n)) (made_more r e n j c j1 jr c1)
  where
    go : Dec (c ≡ suc n) → (c ≤ n → makers x c j ≡ false → makers y c j ≡ true → made r x n < made r y n)
        → count (makers x (suc n)) r + made r x n < count (makers y (suc n)) r + made r y n
    go (yes p) ih =
        omega (
          arith,
          made_grows r e n,
          count_lt (makers x (suc n)) (makers y (suc n)) r j (makers_grow e r (suc n)) (j1, jr, rw p at new) (rw p at old),
        )
    go (no p) ih =
        omega
        (arith, ih (omega arith) old new, count_le (makers x (suc n)) (makers y (suc n)) r (makers_grow e r (suc n)))

made_all : (r : ℕ) (x : Instant) (n : ℕ) → made r x n ≤ n * r
unfolding made
made_all r x zero = omega arith
made_all r x (suc n) = omega (arith, made_all r x n, count_all (makers x (suc n)) r)

-- ---- the moves

module _ {r n : ℕ} {x : Instant} (inv : Inv r n x) where
  -- It is enough that the actor's book grew, is right, and holds nothing that was not so before.
  keeps : (m : Move)
      → (let a = x.books (actor m) in
      let b = changed a m in
      Grows a b → BookOk b
      → ((j u : ℕ) → b.known j u ≡ true → Evidence x (actor m) j u)
      → ((t : Told) → t ∈ telling x m → (t ∈ x.told) ⊎ ToldOk x t)
      → ((c : ℕ) → 1 ≤ b.stamp c → MajorityBelow r x c (b.stamp c))
      → (x ⊑ after x m → 1 ≤ actor m → actor m ≤ r → b.clock ≤ made r (after x m) n)
      → Inv r n (after x m))
  keeps m grows ok known told grounded counted =
      let i = actor m in
      let b = changed (x.books i) m in
      let y = after x m in
      let e : x ⊑ y =
      record { at = put_each x.books i b (λ k w. Grows (x.books k) w) grows (λ k. grows_same (x.books k)) }
      in
      record {
        books = put_each x.books i b (λ _ w. BookOk w) ok inv.books;
        known =
            λ k j u p. evidence_survives e k j u
            (put_each x.books i b (λ k w. (j u : ℕ) → w.known j u ≡ true → Evidence x k j u) known inv.known k j u p);
        told = λ t p. told_survives e t (either (told t p) (λ q. inv.told t q));
        grounded =
            λ k c p. majority_survives r e c _
            (put_each x.books i b (λ k w. (c : ℕ) → 1 ≤ w.stamp c → MajorityBelow r x c (w.stamp c)) grounded inv.grounded k c p);
        counted =
            put_each x.books i b (λ k w. 1 ≤ k → k ≤ r → w.clock ≤ made r y n) (counted e)
            (λ k p q. let l = inv.counted k p q in let g = made_grows r e n in omega arith);
      }

  reached : {t : ℕ} → Reached r x t → t ≤ made r x n
  reached (k, p, q, l) = let c = inv.counted k p q in omega arith

  same_clock : (m : Move) → (changed (x.books (actor m)) m).clock ≡ (x.books (actor m)).clock
      → x ⊑ after x m → 1 ≤ actor m → actor m ≤ r
      → (changed (x.books (actor m)) m).clock ≤ made r (after x m) n
  same_clock m same e p q =
      let l = inv.counted (actor m) p q in
      let g = made_grows r e n in
      omega arith

  -- Nothing at or below m, and nothing from n on, is added between them.
  not_between : (a : Bool) (m k u : ℕ) → a ≡ false → (u ≤ m) ⊎ (k ≤ u) → (a || (ltb m u && ltb u k)) ≡ false
  not_between a m k u e (inl l) = grind arith
  not_between a m k u e (inr l) = grind arith

  between_low : (a : Bool) (m k u t : ℕ) → (a ≡ true → u ≤ m) → m ≤ t → k ≤ t + 1 → (a || (ltb m u && ltb u k)) ≡ true → u ≤ t
  between_low true m k u t h l w e = let z = h refl in omega arith
  between_low false m k u t h l w e = grind arith

  promise_keeps : (j c t : ℕ) → Allowed r n x (promise j c t) → Inv r n (after x (promise j c t))
  promise_keeps j c t (j1, jr, c1, cn, none, above, (u, next, top)) =
      let a = x.books j in
      let ok = inv.books j in
      keeps (promise j c t)
      (record {
        clock = omega arith;
        own = put_each a.own c t (λ d n. 1 ≤ a.own d → n ≡ a.own d) (λ p. absurd (omega arith)) (λ d p. refl);
        detached = λ u d. rw d refl;
        stamp = λ _ _. refl;
      })
      (record {
        own_low = put_each a.own c t (λ _ n. n ≤ t) (omega arith) (λ d. let l = ok.own_low d in omega arith);
        detached_low = λ u. between_low (a.detached u) a.clock t u t (ok.detached_low u) (omega arith) (omega arith);
        apart =
            put_each a.own c t (λ _ n. 1 ≤ n → with_between a.detached a.clock t n ≡ false)
            (λ _. not_between (a.detached t) a.clock t t
            (not-true (a.detached t) (λ d. let l = ok.detached_low t d in omega arith)) (inr (omega arith)))
            (λ d p. not_between (a.detached (a.own d)) a.clock t (a.own d) (ok.apart d p) (inl (ok.own_low d)));
        single =
            put_each a.own c t (λ d m. (k : ℕ) → 1 ≤ m → m ≡ put a.own c t k → d ≡ k)
            (put_each a.own c t (λ k m. 1 ≤ t → t ≡ m → c ≡ k) (λ _ _. refl) (λ k _ e. let l = ok.own_low k in absurd (omega arith)))
            (λ d. put_each a.own c t (λ k m. 1 ≤ a.own d → a.own d ≡ m → d ≡ k)
            (λ _ e. let l = ok.own_low d in absurd (omega arith)) (ok.single d));
      })
      (inv.known j) (λ t p. inl p) (inv.grounded j)
      (λ e _ _.
      let l = reached top in
      let new = at_put x.books j _ (λ w. ltb 0 (w.own c) ≡ true) (at_put a.own c t (λ m. ltb 0 m ≡ true) (grind arith)) in
      let g = made_more r e n j c j1 jr c1 cn (grind arith) new in
      omega arith)

  bump_keeps : (j t : ℕ) → Allowed r n x (bump j t) → Inv r n (after x (bump j t))
  bump_keeps j t (above, top) =
      let a = x.books j in
      let ok = inv.books j in
      keeps (bump j t)
      (record { clock = omega arith; own = λ _ _. refl; detached = λ u d. rw d refl; stamp = λ _ _. refl })
      (record {
        own_low = λ c. let l = ok.own_low c in omega arith;
        detached_low = λ u. between_low (a.detached u) a.clock (t + 1) u t (ok.detached_low u) (omega arith) (omega arith);
        apart = λ c p. not_between (a.detached (a.own c)) a.clock (t + 1) (a.own c) (ok.apart c p) (inl (ok.own_low c));
        single = ok.single;
      })
      (inv.known j) (λ t p. inl p) (inv.grounded j)
      (λ e _ _. let l = reached top in let g = made_grows r e n in omega arith)

  tell_keeps : (j : ℕ) → Inv r n (after x (tell j))
  tell_keeps j =
      keeps (tell j) (grows_same (x.books j)) (inv.books j) (inv.known j)
      (one_more (ToldOk x) _ _ (record { detached = λ _ d. d; own = λ _ _. refl }))
      (inv.grounded j) (same_clock (tell j) refl)

  hear_keeps : (i j u : ℕ) → Allowed r n x (hear i j u) → Inv r n (after x (hear i j u))
  hear_keeps i j u (m, said, who, what) =
      let a = x.books i in
      keeps (hear i j u)
      (record { clock = omega arith; own = λ _ _. refl; detached = λ _ d. d; stamp = λ _ _. refl })
      (record {
        own_low = (inv.books i).own_low;
        detached_low = (inv.books i).detached_low;
        apart = (inv.books i).apart;
        single = (inv.books i).single;
      })
      (put_each a.known j _ (λ k w. (v : ℕ) → w v ≡ true → Evidence x i k v)
      (put_each (a.known j) u true (λ v b. b ≡ true → Evidence x i j v)
      (λ _. subst (λ (k : ℕ). Evidence x i k u) who (evidence what)) (inv.known i j))
      (inv.known i))
      (λ t p. inl p) (inv.grounded i) (same_clock (hear i j u) refl)
    where
      evidence : (m.detached u ≡ true) ⊎ ((c : ℕ) × (1 ≤ (x.books i).stamp c) × (1 ≤ u) × (m.own c ≡ u)) → Evidence x i m.who u
      evidence (inl d) = inl ((inv.told m said).detached u d)
      evidence (inr (c, s, p, o)) = inr (c, s, p, (inv.told m said).own c (omega arith) ∙ o)

  commit_keeps : (i c t : ℕ) → Allowed r n x (commit i c t) → Inv r n (after x (commit i c t))
  commit_keeps i c t (none, promised) =
      let a = x.books i in
      keeps (commit i c t)
      (record {
        clock = omega arith;
        own = λ _ _. refl;
        detached = λ _ d. d;
        stamp = put_each a.stamp c t (λ d n. 1 ≤ a.stamp d → n ≡ a.stamp d) (λ p. absurd (omega arith)) (λ d p. refl);
      })
      (record {
        own_low = (inv.books i).own_low;
        detached_low = (inv.books i).detached_low;
        apart = (inv.books i).apart;
        single = (inv.books i).single;
      })
      (inv.known i) (λ t p. inl p)
      (put_each a.stamp c t (λ d n. 1 ≤ n → MajorityBelow r x d n) (λ _. promised) (inv.grounded i))
      (same_clock (commit i c t) refl)

  pub move_keeps : (m : Move) → Allowed r n x m → Inv r n (after x m)
  move_keeps (promise j c t) h = promise_keeps j c t h
  move_keeps (bump j t) h = bump_keeps j t h
  move_keeps (tell j) h = tell_keeps j
  move_keeps (hear i j u) h = hear_keeps i j u h
  move_keeps (commit i c t) h = commit_keeps i c t h

  -- ---- the law

  -- A change that a majority promised up to a timestamp stable at i is committed at i.
  nothing_left : (i s c t : ℕ) → Stable r x i s → MajorityBelow r x c t → t ≤ s → 1 ≤ (x.books i).stamp c
  nothing_left i s c t (A, an, knows) (B, bn, made) l =
      let (j, p, q) = meet A B r (omega arith) in
      let m = made j q in
      go j m.0 (inv.known i j ((x.books j).own c) (knows j p _ m.0 (omega arith)))
    where
      go : (j : ℕ) → 1 ≤ (x.books j).own c → Evidence x i j ((x.books j).own c) → 1 ≤ (x.books i).stamp c
      go j p (inl d) = clash d ((inv.books j).apart c p)
      go j p (inr (d, s, _, e)) = subst (λ (k : ℕ). 1 ≤ (x.books i).stamp k) (sym ((inv.books j).single c d p (sym e))) s

  bounded : (j : ℕ) → 1 ≤ j → j ≤ r → (x.books j).clock ≤ n * r
  bounded j p q =
      let l = inv.counted j p q in
      let h = made_all r x n in
      omega arith

  pub sound : Sound r n x
  sound =
      record {
        complete = λ i s known k c p l. nothing_left i s c _ known (inv.grounded k c p) l;
        above = λ i c t h s known. above i c t h s known (dec_le t s);
        counted = inv.counted;
        bounded = bounded;
        own_bounded = λ j c p q. let l = (inv.books j).own_low c in let h = bounded j p q in omega arith;
      }
    where
      above : (i c t : ℕ) → Allowed r n x (commit i c t) → (s : ℕ) → Stable r x i s → Dec (t ≤ s) → s < t
      above i c t (none, promised) s known (yes l) =
          let h = nothing_left i s c t known promised l in
          absurd (omega arith)
      above i c t _ s known (no l) = omega arith

pub first_ok : (r n : ℕ) → Inv r n first
first_ok r n =
    record {
      books =
          λ j.
          record {
            own_low = λ _. omega arith;
            detached_low = λ _ d. clash d refl;
            apart = λ _ _. refl;
            single = λ _ _ p _. absurd (omega arith);
          };
      known = λ i j u p. clash p refl;
      told = λ m p. absurd p;
      grounded = λ i c p. absurd (omega arith);
      counted = λ _ _ _. omega arith;
    }

pub nothing_below : NothingBelow
nothing_below r n ms l =
    sound (run_keeps (Allowed r n) after (Inv r n) (λ x m inv. move_keeps inv m) ms first (first_ok r n) l)
