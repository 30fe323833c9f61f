-- Carried-out lists are beginnings of one another.
use mathlib.Core.Path.{◌≡◌, refl, sym, subst, ap, ◌∙◌}
use mathlib.Core.Bool.{Bool, true, false}
use mathlib.Core.List.{List, [], ◌∷◌, ◌++◌}
use mathlib.Core.Logic.{◌⊎◌, inl, inr}
use Prim.Native.Nat.{ℕ, ◌≤◌}
use native.Mathlib.Decide.{ℕ_discrete, dec_le}
use native.Mathlib.Omega.{arith}
use Rattle.agreement.specs.Runs.{◌∈◌, put}
use Rattle.agreement.specs.Order.{Stamped, entry, Lawful, lower, View, blank, stamped, Step, next, Allowed, Ascends, Begins, Alike, SameBeginnings}
use Rattle.agreement.specs.Order.Step.{commit, settle, carry_out}
use Rattle.agreement.proofs.Tables.{each, put_each, run_keeps}
use Rattle.agreement.proofs.Truth.{clash, not-true}

-- ---- lists

in_front : {A : Type 0} (xs ys : List A) (y : A) → y ∈ xs → y ∈ (xs ++ ys)
in_front [] ys y p = absurd p
in_front (x ∷ xs) ys y (inl e) = inl e
in_front (x ∷ xs) ys y (inr p) = inr (in_front xs ys y p)

in_end : {A : Type 0} (xs : List A) (x : A) → x ∈ (xs ++ (x ∷ []))
in_end [] x = inl refl
in_end (y ∷ xs) x = inr (in_end xs x)

-- An entry of a list with x at its end is one of the list, or x.
split : {A : Type 0} (xs : List A) (x y : A) → y ∈ (xs ++ (x ∷ [])) → (y ∈ xs) ⊎ (x ≡ y)
split [] x y (inl e) = inr e
split [] x y (inr p) = absurd p
split (z ∷ xs) x y (inl e) = inl (inl e)
split (z ∷ xs) x y (inr p) = go (split xs x y p)
  where
    go : (y ∈ xs) ⊎ (x ≡ y) → (y ∈ (z ∷ xs)) ⊎ (x ≡ y)
    go (inl q) = inl (inr q)
    go (inr e) = inr e

same? : (x y : Stamped) → Dec (x ≡ y)
same? x y = go (ℕ_discrete x.ts y.ts) (ℕ_discrete x.change y.change)
  where
    go : Dec (x.ts ≡ y.ts) → Dec (x.change ≡ y.change) → Dec (x ≡ y)
    go (yes p) (yes q) = yes (λ i. record { ts = p i; change = q i })
    go (yes p) (no q) = no (λ e. q (ap (λ (z : Stamped). z.change) e))
    go (no p) _ = no (λ e. p (ap (λ (z : Stamped). z.ts) e))

in? : (x : Stamped) (xs : List Stamped) → Dec (x ∈ xs)
in? x [] = no (λ p. p)
in? x (y ∷ xs) = go (same? y x) (in? x xs)
  where
    go : Dec (y ≡ x) → Dec (x ∈ xs) → Dec (x ∈ (y ∷ xs))
    go (yes e) _ = yes (inl e)
    go (no e) (yes p) = yes (inr p)
    go (no e) (no p) = no out
      where
        out : x ∈ (y ∷ xs) → ⊥
        out (inl f) = e f
        out (inr q) = p q

module _ (before : Stamped → Stamped → Bool) (o : Lawful before) where
  -- ---- the order

  asymmetric : {x y : Stamped} → before x y ≡ true → before y x ≡ true → ⊥
  asymmetric {x} {y} p q = clash (o.transitive x y x p q) (o.irreflexive x)

  no_later : {x y : Stamped} → before x y ≡ true → x.ts ≤ y.ts
  no_later {x} {y} p = go (dec_le x.ts y.ts)
    where
      go : Dec (x.ts ≤ y.ts) → x.ts ≤ y.ts
      go (yes l) = l
      go (no l) = absurd (asymmetric p (o.by_timestamp y x (omega arith)))

  -- ---- two ascending lists, each closed downwards in the other

  abbrev Closed : List Stamped → List Stamped → Type 0
  Closed xs ys = (x : Stamped) → x ∈ xs → (y : Stamped) → y ∈ ys → before y x ≡ true → y ∈ xs

  -- What comes before the first entry is no entry.
  least : (x : Stamped) (xs : List Stamped) → Ascends before (x ∷ xs) → (y : Stamped) → before y x ≡ true → y ∈ (x ∷ xs) → ⊥
  least x xs a y p q =
      each (λ z. before z x ≡ true → ⊥) x xs (λ e. clash e (o.irreflexive x)) (λ z r e. asymmetric e (a.0 z r)) y q p

  -- The tails of lists with one head are closed as the lists are.
  tail_closed : (x : Stamped) (xs ys : List Stamped) → Ascends before (x ∷ ys) → Closed (x ∷ xs) (x ∷ ys) → Closed xs ys
  tail_closed x xs ys a c z p y q e = go (c z (inr p) y (inr q) e)
    where
      go : y ∈ (x ∷ xs) → y ∈ xs
      go (inl f) = clash (a.0 y q) (subst (λ (w : Stamped). before x w ≡ false) f (o.irreflexive x))
      go (inr r) = r

  beginning : (xs ys : List Stamped) → Ascends before xs → Ascends before ys → Closed xs ys → Closed ys xs
      → Begins xs ys ⊎ Begins ys xs
  beginning [] ys a b c d = inl (ys, refl)
  beginning (x ∷ xs) [] a b c d = inr (x ∷ xs, refl)
  beginning (x ∷ xs) (y ∷ ys) a b c d = go (beginning xs ys a.1 b.1 closed closed')
    where
      heads : x ≡ y
      heads =
          o.total x y
          (not-true (before x y) (λ e. least y ys b x e (d y (inl refl) x (inl refl) e)))
          (not-true (before y x) (λ e. least x xs a y e (c x (inl refl) y (inl refl) e)))

      closed : Closed xs ys
      closed =
          tail_closed x xs ys (subst (λ (z : Stamped). Ascends before (z ∷ ys)) (sym heads) b)
          (subst (λ (z : Stamped). Closed (x ∷ xs) (z ∷ ys)) (sym heads) c)

      closed' : Closed ys xs
      closed' = tail_closed x ys xs a (subst (λ (z : Stamped). Closed (z ∷ ys) (x ∷ xs)) (sym heads) d)

      go : Begins xs ys ⊎ Begins ys xs → Begins (x ∷ xs) (y ∷ ys) ⊎ Begins (y ∷ ys) (x ∷ xs)
      go (inl (zs, e)) = inl (zs, (λ i. heads i ∷ e i))
      go (inr (zs, e)) = inr (zs, (λ i. sym heads i ∷ e i))

  -- ---- what holds at every instant

  -- Two controllers that committed a change agree on it, and w's changes up to v's stable timestamp are committed at v.
  pub record Two (v w : View) : Type 0 where
    pub agree : (c : ℕ) → 1 ≤ v.stamp c → 1 ≤ w.stamp c → v.stamp c ≡ w.stamp c
    pub complete : (c : ℕ) → 1 ≤ w.stamp c → w.stamp c ≤ v.stable → 1 ≤ v.stamp c

  pub record Lone (v : View) : Type 0 where
    pub known : (x : Stamped) → x ∈ v.carried → (1 ≤ x.ts) × (v.stamp x.change ≡ x.ts) × (x.ts ≤ v.stable)
    pub closed : (x : Stamped) → x ∈ v.carried → (c : ℕ) → 1 ≤ v.stamp c → before (stamped v c) x ≡ true → stamped v c ∈ v.carried
    pub ascends : Ascends before v.carried

  pub record Inv (views : ℕ → View) : Type 0 where
    pub two : (i k : ℕ) → Two (views i) (views k)
    pub lone : (i : ℕ) → Lone (views i)

  -- It is enough to look at the view that is put, by itself and beside the old ones.
  keeps : {views : ℕ → View} → Inv views → (i : ℕ) (v : View) → Lone v
      → ((k : ℕ) → Two v (views k))
      → ((k : ℕ) → Two (views k) v)
      → Inv (put views i v)
  keeps {views} inv i v alone left right =
      record {
        two =
            put_each views i v (λ _ x. (k : ℕ) → Two x (put views i v k))
            (put_each views i v (λ _ y. Two v y) (record { agree = λ _ _ _. refl; complete = λ _ p _. p }) left)
            (λ j. put_each views i v (λ _ y. Two (views j) y) (right j) (inv.two j));
        lone = put_each views i v (λ _ x. Lone x) alone inv.lone;
      }

  commit_keeps : {views : ℕ → View} → Inv views → (i c t : ℕ) → Allowed before views (commit i c t) → Inv (next views (commit i c t))
  commit_keeps {views} inv i c t (pos, none, same, early) =
      let u = views i in
      let old = inv.lone i in
      keeps inv i _
      (record {
        known =
            λ x m. let k = old.known x m in
            (k.0, put_each u.stamp c t (λ d n. u.stamp d ≡ x.ts → n ≡ x.ts) (λ e. absurd (omega arith)) (λ d e. e) x.change k.1, k.2);
        closed =
            λ x m. put_each u.stamp c t (λ d n. 1 ≤ n → before (entry n d) x ≡ true → entry n d ∈ u.carried)
            (λ _ b. let k = old.known x m in let l = no_later b in let h = early i (omega arith) in absurd (omega arith))
            (old.closed x m);
        ascends = old.ascends;
      })
      (λ k. let h = inv.two i k in
      record {
        agree = put_each u.stamp c t (λ d n. 1 ≤ n → 1 ≤ (views k).stamp d → n ≡ (views k).stamp d) (λ _ p. sym (same k p)) h.agree;
        complete = put_each u.stamp c t (λ d n. 1 ≤ (views k).stamp d → (views k).stamp d ≤ u.stable → 1 ≤ n) (λ _ _. pos) h.complete;
      })
      (λ k. let h = inv.two k i in
      record {
        agree = put_each u.stamp c t (λ d n. 1 ≤ (views k).stamp d → 1 ≤ n → (views k).stamp d ≡ n) (λ p _. same k p) h.agree;
        complete = put_each u.stamp c t (λ d n. 1 ≤ n → n ≤ (views k).stable → 1 ≤ (views k).stamp d) (λ _. early k) h.complete;
      })

  settle_keeps : {views : ℕ → View} → Inv views → (i s : ℕ) → Allowed before views (settle i s) → Inv (next views (settle i s))
  settle_keeps {views} inv i s (grows, complete) =
      let old = inv.lone i in
      keeps inv i _
      (record {
        known = λ x m. let k = old.known x m in (k.0, k.1, omega arith);
        closed = old.closed;
        ascends = old.ascends;
      })
      (λ k. record { agree = (inv.two i k).agree; complete = complete k })
      (λ k. record { agree = (inv.two k i).agree; complete = (inv.two k i).complete })

  -- A list goes on ascending with an entry that all others come before.
  ascends_more : (xs : List Stamped) (x : Stamped) → Ascends before xs
      → ((y : Stamped) → y ∈ xs → before y x ≡ true)
      → Ascends before (xs ++ (x ∷ []))
  ascends_more [] x a h = ((λ y p. absurd p), tt)
  ascends_more (y ∷ xs) x a h = (next_one, ascends_more xs x a.1 (λ z p. h z (inr p)))
    where
      next_one : (z : Stamped) → z ∈ (xs ++ (x ∷ [])) → before y z ≡ true
      next_one z p = go (split xs x z p)
        where
          go : (z ∈ xs) ⊎ (x ≡ z) → before y z ≡ true
          go (inl q) = a.0 z q
          go (inr e) = subst (λ (w : Stamped). before y w ≡ true) e (h y (inl refl))

  carry_out_keeps : {views : ℕ → View} → Inv views → (i c : ℕ) → Allowed before views (carry_out i c) → Inv (next views (carry_out i c))
  carry_out_keeps {views} inv i c ((pos, low, new), first) =
      keeps inv i _
      (record { known = known; closed = closed; ascends = ascends_more u.carried x old.ascends earlier })
      (λ k. record { agree = (inv.two i k).agree; complete = (inv.two i k).complete })
      (λ k. record { agree = (inv.two k i).agree; complete = (inv.two k i).complete })
    where
      u : View
      u = views i

      old : Lone u
      old = inv.lone i

      x : Stamped
      x = stamped u c

      -- what holds of each entry of the old list, and of x
      both : (P : Stamped → Type 0) → ((y : Stamped) → y ∈ u.carried → P y) → P x → (y : Stamped) → y ∈ (u.carried ++ (x ∷ [])) → P y
      both P f h y p = go (split u.carried x y p)
        where
          go : (y ∈ u.carried) ⊎ (x ≡ y) → P y
          go (inl q) = f y q
          go (inr e) = subst P e h

      known : (y : Stamped) → y ∈ (u.carried ++ (x ∷ [])) → (1 ≤ y.ts) × (u.stamp y.change ≡ y.ts) × (y.ts ≤ u.stable)
      known = both _ old.known (pos, refl, low)

      -- a committed change that comes before x was carried out
      below : (d : ℕ) → 1 ≤ u.stamp d → before (stamped u d) x ≡ true → stamped u d ∈ u.carried
      below d p b = go (in? (stamped u d) u.carried)
        where
          go : Dec (stamped u d ∈ u.carried) → stamped u d ∈ u.carried
          go (yes q) = q
          go (no q) = let l = no_later b in clash b (first d (p, omega arith, q))

      closed : (y : Stamped) → y ∈ (u.carried ++ (x ∷ [])) → (d : ℕ) → 1 ≤ u.stamp d → before (stamped u d) y ≡ true
          → stamped u d ∈ (u.carried ++ (x ∷ []))
      closed =
          both _ (λ y m d p b. in_front u.carried (x ∷ []) (stamped u d) (old.closed y m d p b))
          (λ d p b. in_front u.carried (x ∷ []) (stamped u d) (below d p b))

      -- every old entry comes before x
      earlier : (y : Stamped) → y ∈ u.carried → before y x ≡ true
      earlier y m = go (before y x) (before x y) refl refl
        where
          go : (a b : Bool) → before y x ≡ a → before x y ≡ b → before y x ≡ true
          go true b e f = e
          go false true e f = absurd (new (old.closed y m c pos f))
          go false false e f = absurd (new (subst (λ (z : Stamped). z ∈ u.carried) (o.total y x e f) m))

  pub step_keeps : {views : ℕ → View} → Inv views → (m : Step) → Allowed before views m → Inv (next views m)
  step_keeps inv (commit i c t) a = commit_keeps inv i c t a
  step_keeps inv (settle i s) a = settle_keeps inv i s a
  step_keeps inv (carry_out i c) a = carry_out_keeps inv i c a

  pub blank_ok : Inv blank
  blank_ok =
      record {
        two = λ i k. record { agree = λ _ _ _. refl; complete = λ _ p _. p };
        lone = λ i. record { known = λ x p. absurd p; closed = λ x p. absurd p; ascends = tt };
      }

  -- ---- the law

  lists_closed : {views : ℕ → View} → Inv views → (i k : ℕ) → Closed (views i).carried (views k).carried
  lists_closed {views} inv i k x m y n b =
      let c = y.change in
      let hx = (inv.lone i).known x m in
      let hy = (inv.lone k).known y n in
      let l = no_later b in
      let here : 1 ≤ (views i).stamp c = (inv.two i k).complete c (omega arith) (omega arith) in
      let agreed : (views i).stamp c ≡ y.ts = (inv.two i k).agree c here (omega arith) ∙ hy.1 in
      let is : stamped (views i) c ≡ y = λ j. record { ts = agreed j; change = c } in
      subst (λ (z : Stamped). z ∈ (views i).carried) is
      ((inv.lone i).closed x m c here (subst (λ (z : Stamped). before z x ≡ true) (sym is) b))

  pub alike : {views : ℕ → View} → Inv views → Alike before views
  alike inv =
      record {
        ascends = λ i. (inv.lone i).ascends;
        beginnings =
            λ i k. beginning _ _ (inv.lone i).ascends (inv.lone k).ascends (lists_closed inv i k) (lists_closed inv k i);
        committed = λ i x m. let h = (inv.lone i).known x m in (h.0, h.1);
      }

pub same_beginnings : SameBeginnings
same_beginnings before o ms l =
    alike before o
    (run_keeps (Allowed before) next (Inv before o) (λ views m inv. step_keeps before o inv m) ms blank (blank_ok before o) l)

-- By timestamp, then by number, is such an order.
pub lower_lawful : Lawful lower
lower_lawful =
    record {
      irreflexive = λ x. grind arith;
      transitive = λ x y z p q. grind arith;
      total = λ x y p q. same_parts (ts_same x y p q) (change_same x y p q);
      by_timestamp = λ x y l. grind arith;
    }
  where
    same_parts : {x y : Stamped} → x.ts ≡ y.ts → x.change ≡ y.change → x ≡ y
    same_parts p q = λ i. record { ts = p i; change = q i }

    ts_same : (x y : Stamped) → lower x y ≡ false → lower y x ≡ false → x.ts ≡ y.ts
    ts_same x y p q = grind arith

    change_same : (x y : Stamped) → lower x y ≡ false → lower y x ≡ false → x.change ≡ y.change
    change_same x y p q = grind arith
