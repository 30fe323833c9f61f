-- The argument on one instant: from the invariant alone, with no step in sight.
use mathlib.Core.Path.{◌≡◌, refl, sym, subst, ◌∙◌, ap}
use mathlib.Core.Bool.{true, ◌||◌}
use mathlib.Core.Logic.{◌⊎◌, inl, inr, ◌≢◌}
use Prim.Native.Nat.{ℕ, zero, suc, ◌≤◌, ◌<◌}
use native.Mathlib.Decide.{ℕ_discrete, dec_le}
use native.Mathlib.Omega.{arith}
use lib.Dec.{eqb, eqb_refl}
use Rattle.agreement.specs.Sets.{Set, count, Among, majority}
use Rattle.agreement.specs.OneChange.{Group, Instant, Gathered, givers, Replied, fast_repliers, Picked, Backing, MajorityBelow, Promised, Agreed, Allowed, after, first, OneTimestamp}
use Rattle.agreement.specs.OneChange.Picked.{by_ballot, by_all, by_fast}
use Rattle.agreement.proofs.Tables.{run_keeps}
use Rattle.agreement.proofs.Counting.{◌∪◌, count_all, count_lt, count_two, share, meet}
use Rattle.agreement.proofs.Truth.{clash, not-true, is_true, and_both, or_either, or_left, or_right, same_number}
use Rattle.agreement.proofs.Invariant.{Proposal, Inv, Source, CommitOk}
use Rattle.agreement.proofs.Invariant.Source.{from_slow, from_lead}
use Rattle.agreement.proofs.Invariant.CommitOk.{by_quick, by_backing}
use Rattle.agreement.proofs.Moves.{first_ok, move_keeps, home_reaches}

-- Strong induction.
below : (P : ℕ → Type 0) → ((c : ℕ) → ((a : ℕ) → a < c → P a) → P c) → (c : ℕ) → P c
below P step c = go (suc c) c (omega arith)
  where
    go : (n a : ℕ) → a < n → P a
    go zero a l = absurd (omega arith)
    go (suc n) a l = step a (λ d m. go n d (omega arith))

module _ {g : Group} {i : Instant} (inv : Inv g i) where
  -- ---- ballots

  -- From ballot b on, every value proposed is t.
  abbrev Fixed : ℕ → ℕ → ℕ → Type 0
  Fixed b t c = (u : ℕ) → b ≤ c → Proposal g i c u → u ≡ t

  -- A choice that goes by the greatest accepted ballot repeats the value of that lower ballot.
  repeats : {b c t u : ℕ} → ((d : ℕ) → d < c → Fixed b t d) → (q : Replied g i c) (k : ℕ) → Among g.r q.who k
      → 1 ≤ q.abal k
      → b ≤ q.abal k
      → q.ts k ≡ u
      → u ≡ t
  repeats ih q k m z l e =
      let h = inv.replies _ (q.said k m) in
      sym e ∙ ih (q.abal k) h.before (q.ts k) l (inv.acceptances _ (h.accepted z)).proposed

  -- Up to r only the home's own ballot is ever used.
  lowest : (b t : ℕ) → b < g.home → Source g i b t → ⊥
  lowest b t l (from_slow e _) = omega arith
  lowest b t l (from_lead h _ _) = omega (arith, g.home_last)

  -- A slow quorum of acceptances at b fixes the value at every later ballot.
  backed_fixes : (b t : ℕ) → Proposal g i b t → Backing g i b → (c : ℕ) → Fixed b t c
  backed_fixes b t p (s, n, a) = below (Fixed b t) step
    where
      picked : (c u : ℕ) → ((d : ℕ) → d < c → Fixed b t d) → (q : Replied g i c) → Picked g q u
          → (j : ℕ) → Among g.r q.who j → 1 ≤ b → b ≤ q.abal j
          → u ≡ t
      picked c u ih q (by_ballot k m z top e) j w pos h = let y = top j w in repeats ih q k m z (omega arith) e
      picked c u ih q (by_all z _ _ _) j w pos h = let e = z j w in absurd (omega arith)
      picked c u ih q (by_fast z _ _ _) j w pos h = let e = z j w in absurd (omega arith)

      later : (c u : ℕ) → ((d : ℕ) → d < c → Fixed b t d) → b < c → Source g i c u → u ≡ t
      later c u ih l (from_slow e _) = absurd (lowest b t (omega arith) (inv.acceptances _ p).source)
      later c u ih l (from_lead _ q pick) =
          let (j, w, x) = meet s q.who g.r (omega (arith, q.enough)) in
          picked c u ih q pick j x (inv.acceptances _ p).positive (inv.gap _ (q.said j x) _ (a j w).1 refl l)

      step : (c : ℕ) → ((d : ℕ) → d < c → Fixed b t d) → Fixed b t c
      step c ih u l v = go (ℕ_discrete c b)
        where
          go : Dec (c ≡ b) → u ≡ t
          go (yes e) = inv.one _ _ v p e
          go (no e) = later c u ih (omega arith) (inv.acceptances _ v).source

  -- ---- the fast set

  -- An early promise that was said is the row's.
  gave_is : {t : ℕ} (e : Gathered g i t) (j : ℕ) → Among g.r g.fast j
      → (1 ≤ (i.rows j).promise) × ((i.rows j).promise ≡ e.gave j) × ((i.rows j).early ≡ true)
  gave_is e j m = let h = inv.earlies _ (e.said j m) in (omega arith, h.promise, h.early)

  -- A reply of one that had not accepted tells its promise.
  told : {b : ℕ} (q : Replied g i b) (j : ℕ) → Among g.r q.who j → q.abal j ≡ 0
      → (1 ≤ (i.rows j).promise) × ((i.rows j).promise ≡ q.ts j) × ((i.rows j).early ≡ q.early j)
  told q j m z = let h = (inv.replies _ (q.said j m)).promised z in (omega arith, h.0, h.2)

  -- The repliers in the fast set, and the home.
  abbrev with_home : {b : ℕ} → Replied g i b → Set
  with_home q j = fast_repliers g q j || eqb j g.home

  replier : {b : ℕ} (q : Replied g i b) (j : ℕ) → Among g.r (fast_repliers g q) j → Among g.r q.who j
  replier q j m = (m.0, m.1, (and_both (q.who j) (g.fast j) m.2).0)

  in_fast : {b : ℕ} (q : Replied g i b) (j : ℕ) → Among g.r (with_home q) j → g.fast j ≡ true
  in_fast q j m = go (or_either (fast_repliers g q j) (eqb j g.home) m.2)
    where
      go : (fast_repliers g q j ≡ true) ⊎ (eqb j g.home ≡ true) → g.fast j ≡ true
      go (inl e) = (and_both (q.who j) (g.fast j) e).1
      go (inr e) = ap g.fast (same_number j g.home e) ∙ g.fast_home

  -- If the home did not reply, the repliers in the fast set and the home are a majority.
  half : {b : ℕ} (q : Replied g i b) → ((k : ℕ) → Among g.r (fast_repliers g q) k → k ≢ g.home)
      → majority g.r ≤ count (with_home q) g.r
  half q away =
      omega (
        arith,
        q.enough,
        g.fast_size,
        g.most_speak,
        count_two q.who g.fast g.r,
        count_all (◌∪◌ q.who g.fast) g.r,
        count_lt (fast_repliers g q) (with_home q) g.r g.home
            (λ j m. or_left (fast_repliers g q j) (eqb j g.home) m.2)
            (g.home_first, g.home_last, or_right (fast_repliers g q g.home) _ (is_true _ (eqb_refl g.home)))
            (not-true (fast_repliers g q g.home) (λ e. away g.home (g.home_first, g.home_last, e) refl)),
      )

  -- What is chosen from the fast set alone is no less than the promise of any replier there, nor than the home's.
  bounded : {b u : ℕ} (q : Replied g i b)
      → ((j : ℕ) → Among g.r q.who j → q.abal j ≡ 0)
      → ((j : ℕ) → Among g.r (fast_repliers g q) j → q.ts j ≤ u)
      → (k : ℕ) → Among g.r (fast_repliers g q) k → q.early k ≡ true → q.ts k ≡ u
      → (j : ℕ) → Among g.r (with_home q) j → (1 ≤ (i.rows j).promise) × ((i.rows j).promise ≤ u)
  bounded {b} {u} q z top k m early is j n = go (or_either (fast_repliers g q j) (eqb j g.home) n.2)
    where
      go : (fast_repliers g q j ≡ true) ⊎ (eqb j g.home ≡ true) → (1 ≤ (i.rows j).promise) × ((i.rows j).promise ≤ u)
      go (inl r) =
          let n' : Among g.r (fast_repliers g q) j = (n.0, n.1, r) in
          let h = told q j (replier q j n') (z j (replier q j n')) in
          let l = top j n' in
          (h.0, omega arith)
      go (inr e) =
          let h = told q k (replier q k m) (z k (replier q k m)) in
          let l = (inv.rows k).early_home (h.2 ∙ early) in
          subst (λ (x : ℕ). (1 ≤ (i.rows x).promise) × ((i.rows x).promise ≤ u)) (sym (same_number j g.home e)) (l.0, omega arith)

  -- With enough givers of t, every value proposed is t.
  quick_fixes : (t : ℕ) (e : Gathered g i t) → g.f ≤ count (givers g e.gave t) g.r → (i.rows g.home).bal ≡ 0
      → (c : ℕ) → Fixed 0 t c
  quick_fixes t e enough low = below (Fixed 0 t) step
    where
      step : (c : ℕ) → ((d : ℕ) → d < c → Fixed 0 t d) → Fixed 0 t c
      step c ih u l v = go (inv.acceptances _ v).source
        where
          fast : (q : Replied g i c) (k : ℕ) → Among g.r (fast_repliers g q) k → Among g.r g.fast k
          fast q k m = (m.0, m.1, (and_both (q.who k) (g.fast k) m.2).1)

          go : Source g i c u → u ≡ t
          go (from_slow p _) =
              let h = home_reaches inv _ v p in
              let x = inv.rows g.home in
              absurd (omega (arith, g.home_first))
          go (from_lead high q (by_ballot k m z _ p)) = repeats ih q k m z (omega arith) p
          go (from_lead high q (by_all z (k, m, inl h) _ _)) =
              let n = (inv.replies _ (q.said k (replier q k m))).low in
              let x : (i.rows k).bal ≡ 0 = rw h low in
              absurd (omega arith)
          go (from_lead high q (by_all z (k, m, inr late) _ _)) =
              let h = (told q k (replier q k m) (z k (replier q k m))).2 in
              let x = (gave_is e k (fast q k m)).2 in
              clash x (h ∙ late)
          -- one of the repliers in the fast set, or the home, gave t
          go (from_lead high q (by_fast z away top (k, m, p))) =
              let (j, s) = share (with_home q) (givers g e.gave t) g.fast g.r (in_fast q)
              (λ j m. (and_both (g.fast j) (eqb (e.gave j) t) m.2).0)
              (omega (arith, half q (λ k m. (away k m).0), g.fast_size))
              in
              let (x, y) = and_both (with_home q j) (givers g e.gave t j) s.2 in
              let (w, n) = and_both (g.fast j) (eqb (e.gave j) t) y in
              let gave = same_number (e.gave j) t n in
              let jg = gave_is e j (s.0, s.1, w) in
              let jb = bounded q z top k m (away k m).1 p j (s.0, s.1, x) in
              let kg = gave_is e k (fast q k m) in
              let kl = e.below k (fast q k m) in
              let kt = told q k (replier q k m) (z k (replier q k m)) in
              omega arith

  -- ---- a majority below

  abbrev Grounded : ℕ → Type 0
  Grounded t = MajorityBelow g i t × Promised g i t

  gathered_grounded : {t : ℕ} → Gathered g i t → Grounded t
  gathered_grounded e =
      let x = gave_is e e.top e.top_in in (
        (g.fast, omega (arith, g.fast_size, g.one_silent), λ j m. let h = gave_is e j m in let l = e.below j m in (h.0, omega arith)),
        (e.top, e.top_in.0, e.top_in.1, x.1 ∙ e.top_is),
      )

  proposal_grounded : (c u : ℕ) → Proposal g i c u → Grounded u
  proposal_grounded = below (λ c. (u : ℕ) → Proposal g i c u → Grounded u) step
    where
      step : (c : ℕ) → ((d : ℕ) → d < c → (u : ℕ) → Proposal g i d u → Grounded u) → (u : ℕ) → Proposal g i c u → Grounded u
      step c ih u v = go (inv.acceptances _ v).source
        where
          go : Source g i c u → Grounded u
          go (from_slow p e) = gathered_grounded e
          go (from_lead high q (by_ballot k m z _ p)) =
              let h = inv.replies _ (q.said k m) in
              subst Grounded p (ih (q.abal k) h.before (q.ts k) (inv.acceptances _ (h.accepted z)).proposed)
          go (from_lead high q (by_all z _ top (k, m, p))) = (
            (q.who, omega (arith, q.enough, g.most_speak), λ j m. let h = told q j m (z j m) in let l = top j m in (h.0, omega arith)),
            (k, m.0, m.1, (told q k m (z k m)).1 ∙ p),
          )
          go (from_lead high q (by_fast z away top (k, m, p))) = (
            (with_home q, half q (λ k m. (away k m).0), bounded q z top k m (away k m).1 p),
            (k, m.0, m.1, (told q k (replier q k m) (z k (replier q k m))).1 ∙ p),
          )

  commit_grounded : {t : ℕ} → CommitOk g i t → Grounded t
  commit_grounded (by_quick e _ _ _) = gathered_grounded e
  commit_grounded (by_backing b p _) = proposal_grounded b _ p

  -- ---- one timestamp

  agree : {t u : ℕ} → CommitOk g i t → CommitOk g i u → t ≡ u
  agree (by_quick e _ _ _) (by_quick d _ _ _) =
      let x = gave_is e e.top e.top_in in
      let y = gave_is d e.top e.top_in in
      let z = d.below e.top e.top_in in
      let x' = gave_is d d.top d.top_in in
      let y' = gave_is e d.top d.top_in in
      let z' = e.below d.top d.top_in in
      omega (arith, e.top_is, d.top_is)
  agree (by_quick e n _ low) (by_backing c v _) = sym (quick_fixes _ e n low c _ (omega arith) v)
  agree (by_backing b p _) (by_quick e n _ low) = quick_fixes _ e n low b _ (omega arith) p
  agree {t} {u} (by_backing b p s) (by_backing c v w) = go (dec_le b c)
    where
      go : Dec (b ≤ c) → t ≡ u
      go (yes l) = sym (backed_fixes b t p s c u l v)
      go (no l) = backed_fixes c u v w b t (omega arith) p

  -- At one instant the group agrees.
  pub agreed : Agreed g i
  agreed =
      record {
        one = λ t u p q. agree (inv.commits t p) (inv.commits u q);
        majority = λ t p. (commit_grounded (inv.commits t p)).0;
        committed_promised = λ t p. (commit_grounded (inv.commits t p)).1;
        accepted_promised = λ j b t p. (proposal_grounded b t (inv.acceptances _ p).proposed).1;
        done_said = λ j d. (inv.rows j).done_said d;
      }

-- And so after any moves.
pub one_timestamp : OneTimestamp
one_timestamp g ms l =
    agreed (run_keeps (Allowed g) (after g) (Inv g) (λ i m inv. move_keeps inv m) ms first (first_ok g) l)
