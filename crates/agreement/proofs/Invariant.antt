-- What holds at every instant of one change, and that it goes on holding as rows and lists grow.
use mathlib.Core.Path.{◌≡◌, refl, ◌∙◌}
use mathlib.Core.Bool.{true, false}
use mathlib.Core.List.{List}
use Prim.Native.Nat.{ℕ, zero, suc, ◌≤◌, ◌<◌}
use native.Mathlib.Omega.{arith}
use Rattle.agreement.specs.Sets.{count}
use Rattle.agreement.specs.Runs.{◌∈◌}
use Rattle.agreement.specs.OneChange.{Group, Row, Early, Acceptance, Reply, Instant, owner, Gathered, givers, Replied, Picked, Backing}
use Rattle.agreement.specs.OneChange.Picked.{by_ballot, by_all, by_fast}

-- ---- the facts

-- The owner of b proposed t there.
abbrev pub Proposal : Group → Instant → ℕ → ℕ → Type 0
Proposal g i b t = record { who = owner g b; ballot = b; value = t } ∈ i.acceptances

pub record RowOk (g : Group) (i : Instant) (k : ℕ) (x : Row) : Type 0 where
  pub low : x.abal ≤ x.bal
  pub early_home : x.early ≡ true → (1 ≤ (i.rows g.home).promise) × ((i.rows g.home).promise ≤ x.promise)
  pub own : x.done ≡ false → x.abal ≡ 0 → 1 ≤ x.promise → x.ts ≡ x.promise
  pub joined : 1 ≤ x.bal → x.abal ≡ 0 → 1 ≤ x.promise
  pub kept : x.done ≡ false → 1 ≤ x.abal → record { who = k; ballot = x.abal; value = x.ts } ∈ i.acceptances
  pub done_said : x.done ≡ true → x.ts ∈ i.commits
  pub entered : (i.rows g.home).promise ≡ 0 → (x.bal ≡ 0) × (x.done ≡ false)

pub record EarlyOk (g : Group) (i : Instant) (m : Early) : Type 0 where
  pub positive : 1 ≤ m.value
  pub promise : (i.rows m.who).promise ≡ m.value
  pub early : (i.rows m.who).early ≡ true

-- Where the value at a ballot came from, with what the step saw.
pub data Source (g : Group) (i : Instant) (b t : ℕ) : Type 0 where
  from_slow : b ≡ g.home → Gathered g i t → Source g i b t
  from_lead : g.r < b → (q : Replied g i b) → Picked g q t → Source g i b t

pub record AcceptanceOk (g : Group) (i : Instant) (m : Acceptance) : Type 0 where
  pub positive : 1 ≤ m.ballot
  pub low : m.ballot ≤ (i.rows m.who).abal
  pub proposed : Proposal g i m.ballot m.value
  pub source : Source g i m.ballot m.value

pub record ReplyOk (g : Group) (i : Instant) (m : Reply) : Type 0 where
  pub low : m.ballot ≤ (i.rows m.who).bal
  pub before : m.abal < m.ballot
  pub accepted : 1 ≤ m.abal → record { who = m.who; ballot = m.abal; value = m.ts } ∈ i.acceptances
  pub promised : m.abal ≡ 0 → ((i.rows m.who).promise ≡ m.ts) × (1 ≤ m.ts) × ((i.rows m.who).early ≡ m.early)

pub data CommitOk (g : Group) (i : Instant) (t : ℕ) : Type 0 where
  by_quick : (e : Gathered g i t) → g.f ≤ count (givers g e.gave t) g.r
      → (i.rows g.home).done ≡ true
      → (i.rows g.home).bal ≡ 0
      → CommitOk g i t
  by_backing : (b : ℕ) → Proposal g i b t → Backing g i b → CommitOk g i t

-- Who replied at a ballot had told of every lower one at which it ever accepted.
abbrev pub Gap : List Reply → List Acceptance → Type 0
Gap replies acceptances =
    (m : Reply) → m ∈ replies → (a : Acceptance) → a ∈ acceptances → a.who ≡ m.who → a.ballot < m.ballot → a.ballot ≤ m.abal

-- One value at one ballot.
abbrev pub One : List Acceptance → Type 0
One acceptances =
    (m n : Acceptance) → m ∈ acceptances → n ∈ acceptances → m.ballot ≡ n.ballot → m.value ≡ n.value

pub record Inv (g : Group) (i : Instant) : Type 0 where
  pub rows : (k : ℕ) → RowOk g i k (i.rows k)
  pub earlies : (m : Early) → m ∈ i.earlies → EarlyOk g i m
  pub acceptances : (m : Acceptance) → m ∈ i.acceptances → AcceptanceOk g i m
  pub replies : (m : Reply) → m ∈ i.replies → ReplyOk g i m
  pub commits : (t : ℕ) → t ∈ i.commits → CommitOk g i t
  pub gap : Gap i.replies i.acceptances
  pub one : One i.acceptances

-- ---- growth

-- What stays of a row: a promise once made, ballots do not fall, and who is done stays so at its ballot.
pub record Grows (x y : Row) : Type 0 where
  pub promise : 1 ≤ x.promise → y.promise ≡ x.promise
  pub early : 1 ≤ x.promise → y.early ≡ x.early
  pub bal : x.bal ≤ y.bal
  pub abal : x.abal ≤ y.abal
  pub done : x.done ≡ true → (y.done ≡ true) × (y.bal ≡ x.bal)

pub record ◌⊑◌ (i i' : Instant) : Type 0 where
  pub rows : (k : ℕ) → Grows (i.rows k) (i'.rows k)
  pub earlies : (m : Early) → m ∈ i.earlies → m ∈ i'.earlies
  pub acceptances : (m : Acceptance) → m ∈ i.acceptances → m ∈ i'.acceptances
  pub replies : (m : Reply) → m ∈ i.replies → m ∈ i'.replies
  pub commits : (t : ℕ) → t ∈ i.commits → t ∈ i'.commits

infix 40 ◌⊑◌
pub grows_same : (x : Row) → Grows x x
grows_same x =
    record { promise = λ _. refl; early = λ _. refl; bal = omega arith; abal = omega arith; done = λ d. (d, refl) }

not_yet : (p q : ℕ) → (1 ≤ p → q ≡ p) → q ≡ 0 → p ≡ 0
not_yet zero q h z = refl
not_yet (suc p) q h z = let e = h (omega arith) in omega arith

module _ {g : Group} {i i' : Instant} (e : i ⊑ i') where
  pub row_survives : (k : ℕ) (x : Row) → RowOk g i k x → RowOk g i' k x
  row_survives k x h =
      let home = e.rows g.home in
      record {
        low = h.low;
        early_home = λ p. let q = h.early_home p in let s = home.promise q.0 in (omega arith, omega arith);
        own = h.own;
        joined = h.joined;
        kept = λ d a. e.acceptances _ (h.kept d a);
        done_said = λ d. e.commits _ (h.done_said d);
        entered = λ z. h.entered (not_yet _ _ home.promise z);
      }

  pub early_survives : (m : Early) → EarlyOk g i m → EarlyOk g i' m
  early_survives m h =
      let x = e.rows m.who in
      record {
        positive = h.positive;
        promise = x.promise (omega arith) ∙ h.promise;
        early = x.early (omega arith) ∙ h.early;
      }

  abbrev pub gathered_survives : {t : ℕ} → Gathered g i t → Gathered g i' t
  gathered_survives h =
      record {
        gave = h.gave;
        said = λ j p. e.earlies _ (h.said j p);
        below = h.below;
        top = h.top;
        top_in = h.top_in;
        top_is = h.top_is;
      }

  pub source_survives : {b t : ℕ} → Source g i b t → Source g i' b t
  source_survives (from_slow p h) = from_slow p (gathered_survives h)
  source_survives {b} {t} (from_lead h q p) = from_lead h q' (again p)
    where
      q' : Replied g i' b
      q' =
          record {
            who = q.who;
            enough = q.enough;
            ts = q.ts;
            abal = q.abal;
            early = q.early;
            said = λ j m. e.replies _ (q.said j m);
          }

      again : Picked g q t → Picked g q' t
      again (by_ballot k m a top v) = by_ballot k m a top v
      again (by_all z w top v) = by_all z w top v
      again (by_fast z w top v) = by_fast z w top v

  pub acceptance_survives : (m : Acceptance) → AcceptanceOk g i m → AcceptanceOk g i' m
  acceptance_survives m h =
      let x = e.rows m.who in
      record {
        positive = h.positive;
        low = omega arith;
        proposed = e.acceptances _ h.proposed;
        source = source_survives h.source;
      }

  pub reply_survives : (m : Reply) → ReplyOk g i m → ReplyOk g i' m
  reply_survives m h =
      let x = e.rows m.who in
      record {
        low = omega arith;
        before = h.before;
        accepted = λ a. e.acceptances _ (h.accepted a);
        promised = λ z. let p = h.promised z in (x.promise (omega arith) ∙ p.0, p.1, x.early (omega arith) ∙ p.2);
      }

  pub commit_survives : (t : ℕ) → CommitOk g i t → CommitOk g i' t
  commit_survives t (by_quick h n d z) =
      let x = (e.rows g.home).done d in
      by_quick (gathered_survives h) n x.0 (x.1 ∙ z)
  commit_survives t (by_backing b p (s, n, a)) =
      by_backing b (e.acceptances _ p) (s, n, λ j m. let (v, q) = a j m in (v, e.acceptances _ q))
