-- The order in which committed changes are carried out.
-- Nothing here knows of ballots, quorums or promises, and the order is any that puts a lower timestamp first.
use Rattle.std.specs.Prelude.{◌≡◌, Bool, true, false, ◌&&◌, ◌||◌, List, [], ◌∷◌, ◌++◌, ◌⊎◌, ℕ, ◌≤◌, ◌<◌, eqb, ltb}
use Rattle.agreement.specs.Runs.{◌∈◌, put, Legal, outcome}

-- A change, by its number, with its timestamp.
pub record Stamped : Type 0 where
  pub ts : ℕ
  pub change : ℕ

abbrev pub entry : ℕ → ℕ → Stamped
entry t c = record { ts = t; change = c }

-- A strict total order in which a lower timestamp always comes first.
pub record Lawful (before : Stamped → Stamped → Bool) : Type 0 where
  pub irreflexive : (x : Stamped) → before x x ≡ false
  pub transitive : (x y z : Stamped) → before x y ≡ true → before y z ≡ true → before x z ≡ true
  pub total : (x y : Stamped) → before x y ≡ false → before y x ≡ false → x ≡ y
  pub by_timestamp : (x y : Stamped) → x.ts < y.ts → before x y ≡ true

-- One such order: the lower timestamp first, and of equal ones the lower number.
abbrev pub lower : Stamped → Stamped → Bool
lower x y = ltb x.ts y.ts || (eqb x.ts y.ts && ltb x.change y.change)

-- What a controller holds.
pub record View : Type 0 where
  -- under which timestamp it committed each change, 0 for not yet
  pub stamp : ℕ → ℕ
  -- up to which timestamp nothing more is to come
  pub stable : ℕ
  -- what it carried out, oldest first
  pub carried : List Stamped

abbrev pub blank : ℕ → View
blank _ = record { stamp = λ _. 0; stable = 0; carried = [] }

-- A change under the timestamp that the controller committed it with.
abbrev pub stamped : View → ℕ → Stamped
stamped v c = entry (v.stamp c) c

pub data Step : Type 0 where
  -- controller i commits the change c under t
  commit : (i c t : ℕ) → Step
  -- at controller i the timestamps up to s become stable
  settle : (i s : ℕ) → Step
  -- controller i carries out the change c
  carry_out : (i c : ℕ) → Step

-- What the controllers hold after a step.
abbrev pub next : (ℕ → View) → Step → ℕ → View
next views (commit i c t) =
    put views i
    (record { stamp = put (views i).stamp c t; stable = (views i).stable; carried = (views i).carried })
next views (settle i s) =
    put views i (record { stamp = (views i).stamp; stable = s; carried = (views i).carried })
next views (carry_out i c) =
    put views i
    (record {
      stamp = (views i).stamp;
      stable = (views i).stable;
      carried = (views i).carried ++ (stamped (views i) c ∷ []);
    })

-- The change is due: committed, up to the stable timestamp, and not carried out.
abbrev pub Due : View → ℕ → Type 0
Due v c = (1 ≤ v.stamp c) × (v.stamp c ≤ v.stable) × ¬ (stamped v c ∈ v.carried)

-- When a step may be made.
abbrev pub Allowed : (Stamped → Stamped → Bool) → (ℕ → View) → Step → Type 0
-- Commits agree, and whoever is stable up to t has the change already: so t lies above what is stable at i.
Allowed before views (commit i c t) =
    (1 ≤ t) × ((views i).stamp c ≡ 0) × ((k : ℕ) → 1 ≤ (views k).stamp c → (views k).stamp c ≡ t)
    × ((k : ℕ) → t ≤ (views k).stable → 1 ≤ (views k).stamp c)
-- What is stable only grows, and what was committed anywhere up to s is committed at i.
Allowed before views (settle i s) =
    ((views i).stable ≤ s)
    × ((k c : ℕ) → 1 ≤ (views k).stamp c → (views k).stamp c ≤ s → 1 ≤ (views i).stamp c)
-- The change is due, and no other that is due comes before it.
Allowed before views (carry_out i c) =
    Due (views i) c
    × ((d : ℕ) → Due (views i) d → before (stamped (views i) d) (stamped (views i) c) ≡ false)

-- Each entry comes before all later ones.
abbrev pub Ascends : (Stamped → Stamped → Bool) → List Stamped → Type 0
Ascends before [] = Unit {0}
Ascends before (x ∷ xs) = ((y : Stamped) → y ∈ xs → before x y ≡ true) × Ascends before xs

-- The second list begins with the first.
abbrev pub Begins : List Stamped → List Stamped → Type 0
Begins xs ys = (zs : List Stamped) × (xs ++ zs ≡ ys)

pub record Alike (before : Stamped → Stamped → Bool) (views : ℕ → View) : Type 0 where
  -- each list ascends strictly, so it holds nothing twice
  pub ascends : (i : ℕ) → Ascends before (views i).carried
  -- of two lists one is the beginning of the other
  pub beginnings : (i k : ℕ) → Begins (views i).carried (views k).carried ⊎ Begins (views k).carried (views i).carried
  -- a list holds committed changes only, under their timestamps
  pub committed :
      (i : ℕ) (x : Stamped) → x ∈ (views i).carried → (1 ≤ x.ts) × ((views i).stamp x.change ≡ x.ts)

-- Whatever the controllers do, and in whatever such order they carry out, their lists are beginnings of one another.
abbrev pub SameBeginnings : Type 0
SameBeginnings =
    (before : Stamped → Stamped → Bool) → Lawful before → (ms : List Step) → Legal (Allowed before) next blank ms
    → Alike before (outcome next blank ms)
