-- Every move keeps the invariant. A move is one or two of the four ways in which a row changes, so each of those is shown once.
use mathlib.Core.Path.{◌≡◌, refl, sym, subst, ap}
use mathlib.Core.Bool.{Bool, true, false, cond, ◌&&◌}
use mathlib.Core.List.{◌∷◌}
use mathlib.Core.Logic.{◌⊎◌, inl, inr}
use Prim.Native.Nat.{ℕ, zero, suc, ◌-◌, ◌≤◌, ◌<◌}
use native.Mathlib.Nat.{mod-eq_of_lt}
use native.Mathlib.Omega.{arith}
use lib.Dec.{eqb}
use Rattle.agreement.specs.Runs.{◌∈◌, put}
use Rattle.agreement.specs.OneChange.{Group, Row, Early, Acceptance, Reply, Instant, owner, promised, joined, accepted, committed, promise_early, promise_late, join_at, accept_at, commit_at, Gathered, Move, after, Allowed, first}
use Rattle.agreement.specs.OneChange.Move.{enter, answer, quick, slow, follow, decide, join, lead, learn}
use Rattle.agreement.proofs.Truth.{clash}
use Rattle.agreement.proofs.Tables.{one_more, either, each, put_each, at_put}
use Rattle.agreement.proofs.Invariant.{Proposal, RowOk, EarlyOk, AcceptanceOk, ReplyOk, CommitOk, Source, Gap, One, Inv, Grows, ◌⊑◌, grows_same, row_survives, early_survives, gathered_survives, source_survives, acceptance_survives, reply_survives, commit_survives}
use Rattle.agreement.proofs.Invariant.Source.{from_slow, from_lead}
use Rattle.agreement.proofs.Invariant.CommitOk.{by_quick, by_backing}

-- One row grew to x, and nothing that was said is lost.
grown : {i i' : Instant} (j : ℕ) (x : Row) → Grows (i.rows j) x → i'.rows ≡ put i.rows j x
    → ((m : Early) → m ∈ i.earlies → m ∈ i'.earlies)
    → ((m : Acceptance) → m ∈ i.acceptances → m ∈ i'.acceptances)
    → ((m : Reply) → m ∈ i.replies → m ∈ i'.replies)
    → ((t : ℕ) → t ∈ i.commits → t ∈ i'.commits)
    → i ⊑ i'
grown {i} {i'} j x h e a b c d =
    record {
      rows =
          subst (λ (rows : ℕ → Row). (k : ℕ) → Grows (i.rows k) (rows k)) (sym e)
          (put_each i.rows j x (λ k y. Grows (i.rows k) y) h (λ k. grows_same (i.rows k)));
      earlies = a;
      acceptances = b;
      replies = c;
      commits = d;
    }

module _ {g : Group} {i : Instant} (inv : Inv g i) where
  -- It is enough that the new row and the new entries are right.
  keeps : {i' : Instant} → i ⊑ i' → (j : ℕ) (x : Row) → i'.rows ≡ put i.rows j x → RowOk g i' j x
      → ((m : Early) → m ∈ i'.earlies → (m ∈ i.earlies) ⊎ EarlyOk g i' m)
      → ((m : Acceptance) → m ∈ i'.acceptances → (m ∈ i.acceptances) ⊎ AcceptanceOk g i' m)
      → ((m : Reply) → m ∈ i'.replies → (m ∈ i.replies) ⊎ ReplyOk g i' m)
      → ((t : ℕ) → t ∈ i'.commits → (t ∈ i.commits) ⊎ CommitOk g i' t)
      → Gap i'.replies i'.acceptances
      → One i'.acceptances
      → Inv g i'
  keeps {i'} ext j x same row earlies acceptances replies commits gap one =
      record {
        rows =
            subst (λ (rows : ℕ → Row). (k : ℕ) → RowOk g i' k (rows k)) (sym same)
            (put_each i.rows j x (RowOk g i') row (λ k. row_survives ext k (i.rows k) (inv.rows k)));
        earlies = λ m p. either (earlies m p) (λ q. early_survives ext m (inv.earlies m q));
        acceptances = λ m p. either (acceptances m p) (λ q. acceptance_survives ext m (inv.acceptances m q));
        replies = λ m p. either (replies m p) (λ q. reply_survives ext m (inv.replies m q));
        commits = λ t p. either (commits t p) (λ q. commit_survives ext t (inv.commits t q));
        gap = gap;
        one = one;
      }

  -- An acceptance was made at no higher ballot than the row's last.
  reaches : (a : Acceptance) → a ∈ i.acceptances → (j : ℕ) → a.who ≡ j → a.ballot ≤ (i.rows j).abal
  reaches a p j e = subst (λ (k : ℕ). a.ballot ≤ (i.rows k).abal) e (inv.acceptances a p).low

  -- ---- a promise

  -- A controller with no promise and at no ballot.
  abbrev Idle : ℕ → Type 0
  Idle j = ((i.rows j).promise ≡ 0) × ((i.rows j).bal ≡ 0) × ((i.rows j).done ≡ false)

  promise_grows : (j v : ℕ) (e : Bool) → Idle j → Grows (i.rows j) (promised (i.rows j) v e)
  promise_grows j v e h =
      record {
        promise = λ p. absurd (omega arith);
        early = λ p. absurd (omega arith);
        bal = omega arith;
        abal = omega arith;
        done = λ d. clash d h.2;
      }

  promised_ok : (i' : Instant) (j v : ℕ) (e : Bool) → Idle j → 1 ≤ v
      → (e ≡ true → (1 ≤ (i'.rows g.home).promise) × ((i'.rows g.home).promise ≤ v))
      → RowOk g i' j (promised (i.rows j) v e)
  promised_ok i' j v e h pos s =
      let old = inv.rows j in
      record {
        low = old.low;
        early_home = s;
        own = λ _ _ _. refl;
        joined = λ _ _. pos;
        kept = λ _ a. absurd (omega arith);
        done_said = λ d. clash d h.2;
        entered = λ _. (h.1, h.2);
      }

  early_grows : (j v : ℕ) → Idle j → i ⊑ promise_early i j v
  early_grows j v h =
      grown j (promised (i.rows j) v true) (promise_grows j v true h) refl (λ m p. inr p) (λ m p. p) (λ m p. p) (λ m p. p)

  promise_early_keeps : (j v : ℕ) → Idle j → 1 ≤ v
      → (let n = ((promise_early i j v).rows g.home).promise in (1 ≤ n) × (n ≤ v))
      → Inv g (promise_early i j v)
  promise_early_keeps j v h pos home =
      let i' = promise_early i j v in
      let x = promised (i.rows j) v true in
      keeps (early_grows j v h) j x refl (promised_ok i' j v true h pos (λ _. home))
      (one_more (EarlyOk g i') _ _
      (record {
        positive = pos;
        promise = at_put i.rows j x (λ y. y.promise ≡ v) refl;
        early = at_put i.rows j x (λ y. y.early ≡ true) refl;
      }))
      (λ m p. inl p) (λ m p. inl p) (λ t p. inl p) inv.gap inv.one

  late_grows : (j v : ℕ) → Idle j → i ⊑ promise_late i j v
  late_grows j v h =
      grown j (promised (i.rows j) v false) (promise_grows j v false h) refl (λ m p. p) (λ m p. p) (λ m p. p) (λ m p. p)

  promise_late_keeps : (j v : ℕ) → Idle j → 1 ≤ v → Inv g (promise_late i j v)
  promise_late_keeps j v h pos =
      keeps (late_grows j v h) j (promised (i.rows j) v false) refl
      (promised_ok _ j v false h pos (λ p. clash p refl))
      (λ m p. inl p) (λ m p. inl p) (λ m p. inl p) (λ t p. inl p) inv.gap inv.one

  -- ---- a ballot joined

  join_keeps : (j b : ℕ) → (i.rows j).done ≡ false → (i.rows j).bal < b
      → 1 ≤ (i.rows g.home).promise
      → ((i.rows j).abal ≡ 0 → 1 ≤ (i.rows j).promise)
      → Inv g (join_at i j b)
  join_keeps j b pending above home made =
      keeps ext j (joined x b) refl row (λ m p. inl p) (λ m p. inl p) (one_more (ReplyOk g i') _ _ reply) (λ t p. inl p)
      (each Told _ _ (λ a p w _. reaches a p j w) inv.gap)
      inv.one
    where
      i' : Instant
      i' = join_at i j b

      x : Row
      x = i.rows j

      ext : i ⊑ i'
      ext =
          grown j (joined x b)
          (record { promise = λ _. refl; early = λ _. refl; bal = omega arith; abal = omega arith; done = λ d. clash d pending })
          refl (λ m p. p) (λ m p. p) (λ m p. inr p) (λ m p. p)

      old : RowOk g i' j x
      old = row_survives ext j x (inv.rows j)

      row : RowOk g i' j (joined x b)
      row =
          record {
            low = let l = old.low in omega arith;
            early_home = old.early_home;
            own = old.own;
            joined = λ _ a. made a;
            kept = old.kept;
            done_said = old.done_said;
            entered = λ n. let e = (ext.rows g.home).promise home in absurd (omega arith);
          }

      reply : ReplyOk g i' (record { who = j; ballot = b; ts = x.ts; abal = x.abal; early = x.early })
      reply =
          record {
            low = at_put i.rows j (joined x b) (λ y. b ≤ y.bal) (omega arith);
            before = let l = old.low in omega arith;
            accepted = old.kept pending;
            promised =
                λ a. let own = old.own pending a (made a) in (
                  at_put i.rows j (joined x b) (λ y. y.promise ≡ x.ts) (sym own),
                  omega (arith, made a),
                  at_put i.rows j (joined x b) (λ y. y.early ≡ x.early) refl,
                );
          }

      Told : Reply → Type 0
      Told m = (a : Acceptance) → a ∈ i.acceptances → a.who ≡ m.who → a.ballot < m.ballot → a.ballot ≤ m.abal

  -- ---- a value accepted

  accept_keeps : (j b t : ℕ) → (i.rows j).done ≡ false → (i.rows j).bal ≤ b → 1 ≤ b
      → 1 ≤ (i.rows g.home).promise
      → Proposal g (accept_at i j b t) b t
      → Source g i b t
      → ((m : Acceptance) → m ∈ i.acceptances → m.ballot ≡ b → m.value ≡ t)
      → Inv g (accept_at i j b t)
  accept_keeps j b t pending above pos home proposed source same =
      keeps ext j (accepted x b t) refl row (λ m p. inl p) (one_more (AcceptanceOk g i') _ _ acceptance) (λ m p. inl p)
      (λ t p. inl p) gap one
    where
      i' : Instant
      i' = accept_at i j b t

      x : Row
      x = i.rows j

      ext : i ⊑ i'
      ext =
          grown j (accepted x b t)
          (record {
            promise = λ _. refl;
            early = λ _. refl;
            bal = above;
            abal = let l = (inv.rows j).low in omega arith;
            done = λ d. clash d pending;
          })
          refl (λ m p. p) (λ m p. inr p) (λ m p. p) (λ m p. p)

      row : RowOk g i' j (accepted x b t)
      row =
          record {
            low = omega arith;
            early_home = (row_survives ext j x (inv.rows j)).early_home;
            own = λ _ a _. absurd (omega arith);
            joined = λ _ a. absurd (omega arith);
            kept = λ _ _. inl refl;
            done_said = λ d. clash d pending;
            entered = λ n. let e = (ext.rows g.home).promise home in absurd (omega arith);
          }

      acceptance : AcceptanceOk g i' (record { who = j; ballot = b; value = t })
      acceptance =
          record {
            positive = pos;
            low = at_put i.rows j (accepted x b t) (λ y. b ≤ y.abal) (omega arith);
            proposed = proposed;
            source = source_survives ext source;
          }

      gap : Gap i.replies (record { who = j; ballot = b; value = t } ∷ i.acceptances)
      gap m p =
          each (λ a. a.who ≡ m.who → a.ballot < m.ballot → a.ballot ≤ m.abal) _ _
          (λ w l. let n = subst (λ (k : ℕ). m.ballot ≤ (i.rows k).bal) (sym w) (inv.replies m p).low in absurd (omega arith))
          (inv.gap m p)

      one : One (record { who = j; ballot = b; value = t } ∷ i.acceptances)
      one m n p q =
          each (λ m. m.ballot ≡ n.ballot → m.value ≡ n.value) _ _
          (each (λ n. b ≡ n.ballot → t ≡ n.value) _ _ (λ _. refl) (λ n q e. sym (same n q (sym e))) n q)
          (λ m p. each (λ n. m.ballot ≡ n.ballot → m.value ≡ n.value) _ _ (same m p) (λ n q. inv.one m n p q) n q)
          m p

  -- ---- a commit

  commit_keeps : (j t : ℕ) → 1 ≤ (i.rows g.home).promise
      → (i ⊑ commit_at i j t → CommitOk g (commit_at i j t) t)
      → Inv g (commit_at i j t)
  commit_keeps j t home ok =
      keeps ext j (committed x t) refl row (λ m p. inl p) (λ m p. inl p) (λ m p. inl p)
      (one_more (CommitOk g (commit_at i j t)) _ _ (ok ext)) inv.gap inv.one
    where
      x : Row
      x = i.rows j

      ext : i ⊑ commit_at i j t
      ext =
          grown j (committed x t)
          (record { promise = λ _. refl; early = λ _. refl; bal = omega arith; abal = omega arith; done = λ _. (refl, refl) })
          refl (λ m p. p) (λ m p. p) (λ m p. p) (λ m p. inr p)

      old : RowOk g (commit_at i j t) j x
      old = row_survives ext j x (inv.rows j)

      row : RowOk g (commit_at i j t) j (committed x t)
      row =
          record {
            low = old.low;
            early_home = old.early_home;
            own = λ d _ _. clash refl d;
            joined = old.joined;
            kept = λ d _. clash refl d;
            done_said = λ _. inl refl;
            entered = λ n. let e = (ext.rows g.home).promise home in absurd (omega arith);
          }

-- ---- the moves

module _ {g : Group} {i : Instant} (inv : Inv g i) where
  -- A row at a ballot is there only after the change was entered.
  entered : (k : ℕ) → 1 ≤ (i.rows k).bal → 1 ≤ (i.rows g.home).promise
  entered k h = positive _ (λ z. let e = ((inv.rows k).entered z).0 in absurd (omega arith))
    where
      positive : (n : ℕ) → (n ≡ 0 → ⊥) → 1 ≤ n
      positive zero h = absurd (h refl)
      positive (suc n) h = omega arith

  entered_accepted : (m : Acceptance) → m ∈ i.acceptances → 1 ≤ (i.rows g.home).promise
  entered_accepted m p =
      let a = inv.acceptances m p in
      let x = inv.rows m.who in
      entered m.who (omega arith)

  entered_gathered : {t : ℕ} → Gathered g i t → 1 ≤ (i.rows g.home).promise
  entered_gathered e =
      let h = inv.earlies _ (e.said g.home (g.home_first, g.home_last, g.fast_home)) in
      omega arith

  entered_committed : {t : ℕ} → CommitOk g i t → 1 ≤ (i.rows g.home).promise
  entered_committed (by_quick e n d z) = entered_gathered e
  entered_committed (by_backing b p s) = entered_accepted _ p

  -- The home's own number is a ballot of its own.
  owner_home : owner g g.home ≡ g.home
  owner_home =
      let l : g.home - 1 < g.r = omega (arith, g.home_first, g.home_last) in
      let e = mod-eq_of_lt l in
      omega (arith, g.home_first)

  -- Whoever accepted at b, the owner accepted there too, at no higher ballot than its last.
  owner_reaches : (b : ℕ) (m : Acceptance) → m ∈ i.acceptances → m.ballot ≡ b → b ≤ (i.rows (owner g b)).abal
  owner_reaches b m p e =
      let n = reaches inv _ (inv.acceptances m p).proposed (owner g b) (ap (owner g) e) in
      omega arith

  pub home_reaches : (m : Acceptance) → m ∈ i.acceptances → m.ballot ≡ g.home → g.home ≤ (i.rows g.home).abal
  home_reaches m p e = rw owner_home at (owner_reaches g.home m p e)

  pub move_keeps : (m : Move) → Allowed g i m → Inv g (after g i m)
  move_keeps (enter v) (none, pos) =
      let h = (inv.rows g.home).entered none in
      promise_early_keeps inv g.home v (none, h.0, h.1) pos
      (at_put i.rows g.home _ (λ y. (1 ≤ y.promise) × (y.promise ≤ v)) (pos, omega arith))
  move_keeps (answer j v) (none, low, pending, (m, said, above)) =
      let h = inv.earlies _ said in
      let s = ((early_grows inv j v (none, low, pending)).rows g.home).promise (omega arith) in
      promise_early_keeps inv j v (none, low, pending) (omega arith) (omega arith, omega arith)
  move_keeps (quick t) (e, enough, low) =
      commit_keeps inv g.home t (entered_gathered e)
      (λ ext. by_quick (gathered_survives ext e) enough
      (at_put i.rows g.home _ (λ y. y.done ≡ true) refl)
      (at_put i.rows g.home _ (λ y. y.bal ≡ 0) low))
  move_keeps (slow t) (e, low, pending) =
      let x = inv.rows g.home in
      accept_keeps inv g.home g.home t pending (omega arith) g.home_first (entered_gathered e)
      (inl (ap (λ (k : ℕ). record { who = k; ballot = g.home; value = t }) (sym owner_home)))
      (from_slow refl e)
      (λ m p q. let n = home_reaches m p q in absurd (omega (arith, g.home_first)))
  move_keeps (follow j b t) (said, above, pending) =
      let a = inv.acceptances _ said in
      accept_keeps inv j b t pending above a.positive (entered_accepted _ said) (inr said) a.source
      (λ m p e. inv.one m _ p said e)
  move_keeps (decide b) (backing, pos, at, pending) =
      let o = owner g b in
      let x = inv.rows o in
      commit_keeps inv o (i.rows o).ts (entered o (omega arith))
      (λ ext. by_backing b
      (subst (λ (c : ℕ). record { who = o; ballot = c; value = (i.rows o).ts } ∈ i.acceptances) at (x.kept pending (omega arith)))
      backing)
  move_keeps (join j b v) (home, above, pending, pos) = go _ refl
    where
      idle : (m n : ℕ) → (eqb m 0 && eqb n 0) ≡ true → (m ≡ 0) × (n ≡ 0)
      idle m n e = grind arith

      busy : (m n : ℕ) → (eqb m 0 && eqb n 0) ≡ false → (1 ≤ m → 1 ≤ n) → 1 ≤ n
      busy m n e h = grind arith

      go : (c : Bool) → (eqb (i.rows j).bal 0 && eqb (i.rows j).promise 0) ≡ c
          → Inv g (join_at (cond c (promise_late i j v) i) j b)
      go true e =
          let (low, none) = idle _ _ e in
          let h : Idle inv j = (none, low, pending) in
          let s = ((late_grows inv j v h).rows g.home).promise home in
          join_keeps (promise_late_keeps inv j v h pos) j b
          (at_put i.rows j _ (λ y. y.done ≡ false) pending)
          (at_put i.rows j _ (λ y. y.bal < b) above)
          (omega arith)
          (λ _. at_put i.rows j _ (λ y. 1 ≤ y.promise) pos)
      go false e =
          join_keeps inv j b pending above home (λ a. busy _ _ e (λ n. (inv.rows j).joined n a))
  move_keeps (lead b t) (high, q, pick, at, new, pending) =
      let o = owner g b in
      let x = inv.rows o in
      accept_keeps inv o b t pending (omega arith) (omega arith) (entered o (omega arith)) (inl refl) (from_lead high q pick)
      (λ m p e. let n = owner_reaches b m p e in absurd (new (omega arith)))
  move_keeps (learn j t) said =
      let c = inv.commits t said in
      commit_keeps inv j t (entered_committed c) (λ ext. commit_survives ext t c)

pub first_ok : (g : Group) → Inv g first
first_ok g =
    record {
      rows =
          λ k.
          record {
            low = omega arith;
            early_home = λ e. clash e refl;
            own = λ _ _ _. refl;
            joined = λ p _. p;
            kept = λ _ p. absurd (omega arith);
            done_said = λ d. clash d refl;
            entered = λ _. (refl, refl);
          };
      earlies = λ m p. absurd p;
      acceptances = λ m p. absurd p;
      replies = λ m p. absurd p;
      commits = λ t p. absurd p;
      gap = λ m p. absurd p;
      one = λ m n p. absurd p;
    }
