-- One change in a group of controllers, and what the group agrees on about it.
-- Nothing here knows what a change asks for, how it is numbered, what a clock is, or how large a group may be.
use Rattle.std.specs.Prelude.{◌≡◌, Bool, true, false, cond, ◌&&◌, List, [], ◌∷◌, ◌⊎◌, ◌≢◌, ℕ, ◌+◌, ◌-◌, ◌*◌, ◌%◌, ◌≤◌, ◌<◌, eqb}
use Rattle.agreement.specs.Sets.{Set, count, Among, majority, fast_quorum, slow_quorum, take_over_quorum}
use Rattle.agreement.specs.Runs.{◌∈◌, put, Legal, outcome}

-- A group of r controllers that tolerates f silent ones, and one change: its home and its fast set.
pub record Group : Type 0 where
  pub r : ℕ
  -- at least one may be silent, and always more than half speak
  pub f : ℕ
  pub one_silent : 1 ≤ f
  pub most_speak : 2 * f + 1 ≤ r
  -- the home is one of 1 to r
  pub home : ℕ
  pub home_first : 1 ≤ home
  pub home_last : home ≤ r
  -- the fast set has the size of a fast quorum, with the home in it
  pub fast : Set
  pub fast_size : count fast r ≡ fast_quorum r f
  pub fast_home : fast home ≡ true

-- The controller to which a ballot belongs.
abbrev pub owner : Group → ℕ → ℕ
owner g b = (b - 1) % g.r + 1

-- What a controller holds about the change.
pub record Row : Type 0 where
  -- the timestamp that it promised for the change, 0 for none
  pub promise : ℕ
  -- it promised on the home's proposal, before any ballot
  pub early : Bool
  -- the highest ballot that it joined, 0 for none
  pub bal : ℕ
  -- the ballot at which it last accepted, 0 for never
  pub abal : ℕ
  -- its timestamp: promised, then accepted, at last committed
  pub ts : ℕ
  -- it committed
  pub done : Bool

-- A promise made on the home's proposal, the home's own included.
pub record Early : Type 0 where
  pub who : ℕ
  pub value : ℕ

-- A controller accepted the value at the ballot. By its owner this is also the proposal at that ballot.
pub record Acceptance : Type 0 where
  pub who : ℕ
  pub ballot : ℕ
  pub value : ℕ

-- A controller joined the ballot, and says the timestamp that it held, where it had last accepted, and whether it promised early.
pub record Reply : Type 0 where
  pub who : ℕ
  pub ballot : ℕ
  pub ts : ℕ
  pub abal : ℕ
  pub early : Bool

-- Every row, and everything that was ever said, newest first. A step reads whatever it likes of what was said, so a network that
-- loses, repeats, delays or reorders is one that reads otherwise.
pub record Instant : Type 0 where
  pub rows : ℕ → Row
  pub earlies : List Early
  pub acceptances : List Acceptance
  pub replies : List Reply
  pub commits : List ℕ

abbrev pub first : Instant
first =
    record {
      rows = λ _. record { promise = 0; early = false; bal = 0; abal = 0; ts = 0; done = false };
      earlies = [];
      acceptances = [];
      replies = [];
      commits = [];
    }

-- ---- the four ways in which a row changes

-- The row after it promised v, joined the ballot b, accepted t at b, and committed t.
abbrev pub promised : Row → ℕ → Bool → Row
promised x v e = record { promise = v; early = e; bal = x.bal; abal = x.abal; ts = v; done = x.done }

abbrev pub joined : Row → ℕ → Row
joined x b = record { promise = x.promise; early = x.early; bal = b; abal = x.abal; ts = x.ts; done = x.done }

abbrev pub accepted : Row → ℕ → ℕ → Row
accepted x b t = record { promise = x.promise; early = x.early; bal = b; abal = b; ts = t; done = x.done }

abbrev pub committed : Row → ℕ → Row
committed x t =
    record { promise = x.promise; early = x.early; bal = x.bal; abal = x.abal; ts = t; done = true }

-- Controller j promises v on the home's proposal, and says so.
abbrev pub promise_early : Instant → ℕ → ℕ → Instant
promise_early i j v =
    record {
      rows = put i.rows j (promised (i.rows j) v true);
      earlies = record { who = j; value = v } ∷ i.earlies;
      acceptances = i.acceptances;
      replies = i.replies;
      commits = i.commits;
    }

-- Controller j promises v on a take over.
abbrev pub promise_late : Instant → ℕ → ℕ → Instant
promise_late i j v =
    record {
      rows = put i.rows j (promised (i.rows j) v false);
      earlies = i.earlies;
      acceptances = i.acceptances;
      replies = i.replies;
      commits = i.commits;
    }

-- Controller j joins the ballot b, and says what its row holds.
abbrev pub join_at : Instant → ℕ → ℕ → Instant
join_at i j b =
    let x = i.rows j in
    record {
      rows = put i.rows j (joined x b);
      earlies = i.earlies;
      acceptances = i.acceptances;
      replies = record { who = j; ballot = b; ts = x.ts; abal = x.abal; early = x.early } ∷ i.replies;
      commits = i.commits;
    }

-- Controller j accepts t at the ballot b, and says so.
abbrev pub accept_at : Instant → ℕ → ℕ → ℕ → Instant
accept_at i j b t =
    record {
      rows = put i.rows j (accepted (i.rows j) b t);
      earlies = i.earlies;
      acceptances = record { who = j; ballot = b; value = t } ∷ i.acceptances;
      replies = i.replies;
      commits = i.commits;
    }

-- Controller j commits t, and says so.
abbrev pub commit_at : Instant → ℕ → ℕ → Instant
commit_at i j t =
    record {
      rows = put i.rows j (committed (i.rows j) t);
      earlies = i.earlies;
      acceptances = i.acceptances;
      replies = i.replies;
      commits = t ∷ i.commits;
    }

-- A controller at no ballot and with no promise promises v; any other row stays.
abbrev pub ready : Instant → ℕ → ℕ → Instant
ready i j v = cond (eqb (i.rows j).bal 0 && eqb (i.rows j).promise 0) (promise_late i j v) i

-- ---- the moves

pub data Move : Type 0 where
  -- the home enters the change and promises v
  enter : (v : ℕ) → Move
  -- j promises v on the home's proposal
  answer : (j v : ℕ) → Move
  -- the home commits t, which enough of the fast set gave
  quick : (t : ℕ) → Move
  -- the home proposes t at the ballot of its own number
  slow : (t : ℕ) → Move
  -- j accepts what the owner of the ballot b proposed
  follow : (j b t : ℕ) → Move
  -- the owner of b commits what enough controllers accepted there
  decide : (b : ℕ) → Move
  -- j joins the take over at b; if it has no promise yet it promises v
  join : (j b v : ℕ) → Move
  -- the owner of b chooses t from the replies, and proposes it
  lead : (b t : ℕ) → Move
  -- j hears of a commit of t
  learn : (j t : ℕ) → Move

abbrev pub after : Group → Instant → Move → Instant
after g i (enter v) = promise_early i g.home v
after g i (answer j v) = promise_early i j v
after g i (quick t) = commit_at i g.home t
after g i (slow t) = accept_at i g.home g.home t
after g i (follow j b t) = accept_at i j b t
after g i (decide b) = commit_at i (owner g b) (i.rows (owner g b)).ts
after g i (join j b v) = join_at (ready i j v) j b
after g i (lead b t) = accept_at i (owner g b) b t
after g i (learn j t) = commit_at i j t

-- ---- when a move may be made

-- All of the fast set said their early promises, and t is the greatest of them.
pub record Gathered (g : Group) (i : Instant) (t : ℕ) : Type 0 where
  -- what each gave, and that it said so
  pub gave : ℕ → ℕ
  pub said : (j : ℕ) → Among g.r g.fast j → record { who = j; value = gave j } ∈ i.earlies
  -- nobody gave more than t
  pub below : (j : ℕ) → Among g.r g.fast j → gave j ≤ t
  -- and somebody gave t
  pub top : ℕ
  pub top_in : Among g.r g.fast top
  pub top_is : gave top ≡ t

-- Those of the fast set that gave t.
abbrev pub givers : Group → (ℕ → ℕ) → ℕ → Set
givers g gave t j = g.fast j && eqb (gave j) t

-- A take-over quorum said replies at the ballot b.
pub record Replied (g : Group) (i : Instant) (b : ℕ) : Type 0 where
  pub who : Set
  pub enough : take_over_quorum g.r g.f ≤ count who g.r
  -- what each replied, and that it said so
  pub ts : ℕ → ℕ
  pub abal : ℕ → ℕ
  pub early : ℕ → Bool
  pub said :
      (j : ℕ) → Among g.r who j
      → record { who = j; ballot = b; ts = ts j; abal = abal j; early = early j } ∈ i.replies

-- The repliers in the fast set.
abbrev pub fast_repliers : (g : Group) {i : Instant} {b : ℕ} → Replied g i b → Set
fast_repliers g q j = q.who j && g.fast j

-- t is the timestamp that the replies give, in one of three ways.
pub data Picked (g : Group) {i : Instant} {b : ℕ} (q : Replied g i b) (t : ℕ) : Type 0 where
  -- some replier had accepted: that of the greatest ballot
  by_ballot :
      (k : ℕ) → Among g.r q.who k → 1 ≤ q.abal k
      → ((j : ℕ) → Among g.r q.who j → q.abal j ≤ q.abal k)
      → q.ts k ≡ t
      → Picked g q t
  -- nobody had, and the home replied or one of the fast set that had not promised early: the greatest of all
  by_all :
      ((j : ℕ) → Among g.r q.who j → q.abal j ≡ 0)
      → ((k : ℕ) × Among g.r (fast_repliers g q) k × ((k ≡ g.home) ⊎ (q.early k ≡ false)))
      → ((j : ℕ) → Among g.r q.who j → q.ts j ≤ t)
      → ((k : ℕ) × Among g.r q.who k × (q.ts k ≡ t))
      → Picked g q t
  -- otherwise: the greatest of the repliers in the fast set
  by_fast :
      ((j : ℕ) → Among g.r q.who j → q.abal j ≡ 0)
      → ((k : ℕ) → Among g.r (fast_repliers g q) k → (k ≢ g.home) × (q.early k ≡ true))
      → ((j : ℕ) → Among g.r (fast_repliers g q) j → q.ts j ≤ t)
      → ((k : ℕ) × Among g.r (fast_repliers g q) k × (q.ts k ≡ t))
      → Picked g q t

-- A slow quorum said acceptances at the ballot b, of whatever value.
abbrev pub Backing : Group → Instant → ℕ → Type 0
Backing g i b =
    (who : Set) × (slow_quorum g.f ≤ count who g.r)
    × ((j : ℕ) → Among g.r who j → (t : ℕ) × (record { who = j; ballot = b; value = t } ∈ i.acceptances))

-- Beside each move: which conditions of the rules it stands for, and which of them the law does without.
-- That a controller is one of the r is nowhere needed: the sets are counted over 1 to r.
abbrev pub Allowed : Group → Instant → Move → Type 0
-- The home takes a number that it has not used, and promises a timestamp above its clock.
-- Not needed: that nothing else stands in its row, that v is above the clock.
Allowed g i (enter v) = ((i.rows g.home).promise ≡ 0) × (1 ≤ v)
-- A controller that does not know the change, and is at no ballot, gets the home's proposal of m, and promises m or more.
-- Not needed: that it is in the fast set, that the proposal came from the home itself, that v is above the clock.
Allowed g i (answer j v) =
    ((i.rows j).promise ≡ 0) × ((i.rows j).bal ≡ 0) × ((i.rows j).done ≡ false)
    × ((m : ℕ) × (record { who = g.home; value = m } ∈ i.earlies) × (m ≤ v))
-- The home has the answers of the whole fast set, at least f gave the greatest, and it is at no ballot.
-- Not needed: that it has not committed, that each answer was new.
Allowed g i (quick t) =
    (e : Gathered g i t) × (g.f ≤ count (givers g e.gave t) g.r) × ((i.rows g.home).bal ≡ 0)
-- The home has the answers of the whole fast set, is at no ballot, and has not committed.
-- Not needed: that fewer than f gave the greatest.
Allowed g i (slow t) =
    Gathered g i t × ((i.rows g.home).bal ≡ 0) × ((i.rows g.home).done ≡ false)
-- The owner of b proposed t there; the controller has not committed, and is at no higher ballot.
-- Not needed: that the proposal came from the owner itself, that the controller knows the change.
Allowed g i (follow j b t) =
    (record { who = owner g b; ballot = b; value = t } ∈ i.acceptances) × ((i.rows j).bal ≤ b)
    × ((i.rows j).done ≡ false)
-- A slow quorum accepted at b; the owner last accepted at b, and has not committed.
-- Not needed: that the owner is at no higher ballot, that its own acceptance is among those counted, that each was new.
Allowed g i (decide b) =
    Backing g i b × (1 ≤ b) × ((i.rows (owner g b)).abal ≡ b) × ((i.rows (owner g b)).done ≡ false)
-- The controller knows the change, so it was entered; it has not committed, and is at a lower ballot.
-- Not needed: that b is above r, that the owner of b asked.
Allowed g i (join j b v) =
    (1 ≤ (i.rows g.home).promise) × ((i.rows j).bal < b) × ((i.rows j).done ≡ false) × (1 ≤ v)
-- The ballot is above r, and a take-over quorum replied; its owner is at it, has not accepted at it, and has not committed.
-- Not needed: that its own reply is among those counted, that each was new, which one counts on equal ballots.
Allowed g i (lead b t) =
    (g.r < b) × (q : Replied g i b) × Picked g q t × ((i.rows (owner g b)).bal ≡ b)
    × ((i.rows (owner g b)).abal ≢ b)
    × ((i.rows (owner g b)).done ≡ false)
-- Somebody said a commit of t.
-- Not needed: that the controller knows the change, that it has not committed.
Allowed g i (learn j t) = t ∈ i.commits

-- ---- the law

-- A majority of the controllers has a promise between 1 and t.
abbrev pub MajorityBelow : Group → Instant → ℕ → Type 0
MajorityBelow g i t =
    (who : Set) × (majority g.r ≤ count who g.r)
    × ((j : ℕ) → Among g.r who j → (1 ≤ (i.rows j).promise) × ((i.rows j).promise ≤ t))

-- Some controller promised t.
abbrev pub Promised : Group → Instant → ℕ → Type 0
Promised g i t = (j : ℕ) × (1 ≤ j) × (j ≤ g.r) × ((i.rows j).promise ≡ t)

pub record Agreed (g : Group) (i : Instant) : Type 0 where
  -- any two commits have one timestamp
  pub one : (t u : ℕ) → t ∈ i.commits → u ∈ i.commits → t ≡ u
  -- a committed timestamp has a majority with promises up to it
  pub majority : (t : ℕ) → t ∈ i.commits → MajorityBelow g i t
  -- what is committed or accepted was promised by somebody
  pub committed_promised : (t : ℕ) → t ∈ i.commits → Promised g i t
  pub accepted_promised :
      (j b t : ℕ) → record { who = j; ballot = b; value = t } ∈ i.acceptances → Promised g i t
  -- whoever is done has a said commit with its timestamp
  pub done_said : (j : ℕ) → (i.rows j).done ≡ true → (i.rows j).ts ∈ i.commits

-- Whatever the group does about a change, it agrees on one timestamp.
abbrev pub OneTimestamp : Type 0
OneTimestamp =
    (g : Group) (ms : List Move) → Legal (Allowed g) (after g) first ms → Agreed g (outcome (after g) first ms)
