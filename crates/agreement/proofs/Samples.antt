-- The sample runs.
use mathlib.Core.Path.{◌≡◌, refl}
use mathlib.Core.Bool.{true, false}
use mathlib.Core.List.{List, [], ◌∷◌}
use mathlib.Core.Logic.{inl, inr}
use Prim.Native.Nat.{ℕ, zero, suc, ◌≤◌}
use native.Mathlib.Omega.{arith}
use lib.Dec.{leb, lit≤, lit<}
use Rattle.agreement.specs.Sets.{Set, count, bits, Among}
use Rattle.agreement.specs.Runs.{◌∈◌, Legal, outcome}
use Rattle.agreement.specs.OneChange.{Group, Instant, Gathered, Backing, Replied, Picked, Move, Allowed, first, after}
use Rattle.agreement.specs.OneChange.Move.{enter, answer, quick, slow, follow, decide, join, lead}
use Rattle.agreement.specs.OneChange.Picked.{by_ballot, by_all, by_fast}
use Rattle.agreement.proofs.Truth.{clash}
use Rattle.agreement.specs.Samples.Way.{of_greatest_ballot, of_all, of_fast_set}
use Rattle.agreement.specs.Samples.{CarriesOutTwo, Settles, Commits, TakesOver, fast_run, slow_run, accepted_before, home_replies, home_silent, seen_through, Samples}

fast_four : count (λ j. leb j 4) 5 ≡ 4
unfolding count
fast_four = refl

-- Five controllers, two may be silent; the home is 1, the fast set 1 to 4.
abbrev five : Group
five =
    record {
      r = 5;
      f = 2;
      one_silent = lit≤ tt;
      most_speak = lit≤ tt;
      home = 1;
      home_first = lit≤ tt;
      home_last = lit≤ tt;
      fast = λ j. leb j 4;
      fast_size = fast_four;
      fast_home = refl;
    }

infixr 5 ◌then◌
-- A move may be made, and then the rest.
abbrev ◌then◌ : {A B : Type 0} → A → B → A × B
a then b = (a, b)

-- Who is not in the set need not be looked at.
out : {A : Type 0} → false ≡ true → A
out e = clash e refl

-- What holds of each member among five.
each_of : (A : Set) (P : ℕ → Type 0) → (A 1 ≡ true → P 1) → (A 2 ≡ true → P 2) → (A 3 ≡ true → P 3) → (A 4 ≡ true → P 4)
    → (A 5 ≡ true → P 5)
    → (j : ℕ) → Among 5 A j → P j
each_of A P p1 p2 p3 p4 p5 zero m = absurd (omega arith)
each_of A P p1 p2 p3 p4 p5 (suc zero) m = p1 m.2
each_of A P p1 p2 p3 p4 p5 (suc (suc zero)) m = p2 m.2
each_of A P p1 p2 p3 p4 p5 (suc (suc (suc zero))) m = p3 m.2
each_of A P p1 p2 p3 p4 p5 (suc (suc (suc (suc zero)))) m = p4 m.2
each_of A P p1 p2 p3 p4 p5 (suc (suc (suc (suc (suc zero))))) m = p5 m.2
each_of A P p1 p2 p3 p4 p5 (suc (suc (suc (suc (suc (suc n)))))) m = absurd (omega arith)

-- ---- the home's own ways: the fast set promises 6, 7, 11 and v

abbrev asked : ℕ → List Move → List Move
asked v rest = enter 6 ∷ answer 2 7 ∷ answer 3 11 ∷ answer 4 v ∷ rest

abbrev promised : ℕ → Instant
promised v = outcome (after five) first (asked v [])

asked_legal : (v : ℕ) → 6 ≤ v → (rest : List Move) → Legal (Allowed five) (after five) (promised v) rest
    → Legal (Allowed five) (after five) first (asked v rest)
asked_legal v l rest legal =
    (refl, lit≤ tt)
    then (refl, refl, refl, (6, inl refl, lit≤ tt))
    then (refl, refl, refl, (6, inr (inl refl), lit≤ tt))
    then (refl, refl, refl, (6, inr (inr (inl refl)), l))
    then legal

abbrev gathered : (v : ℕ) → v ≤ 11 → Gathered five (promised v) 11
gathered v l =
    record {
      gave = λ j. ((promised v).rows j).promise;
      said =
          each_of _ _ (λ _. inr (inr (inr (inl refl)))) (λ _. inr (inr (inl refl))) (λ _. inr (inl refl)) (λ _. inl refl)
          out;
      below = each_of _ _ (λ _. lit≤ tt) (λ _. lit≤ tt) (λ _. lit≤ tt) (λ _. l) out;
      top = 3;
      top_in = (lit≤ tt, lit≤ tt, refl);
      top_is = refl;
    }

fast : Commits fast_run 11
unfolding count
fast = (
  five,
  refl,
  refl,
  asked_legal 11 (lit≤ tt) (quick 11 ∷ []) ((gathered 11 (lit≤ tt), lit≤ tt, refl) then tt),
  refl,
)

slow_path : Commits slow_run 11
unfolding count
slow_path = (
  five,
  refl,
  refl,
  asked_legal 6 (lit≤ tt) (slow 11 ∷ follow 2 1 11 ∷ follow 5 1 11 ∷ decide 1 ∷ [])
      ((gathered 6 (lit≤ tt), refl, refl)
      then (inl refl, lit≤ tt, refl)
      then (inr (inl refl), lit≤ tt, refl)
      then (backing, lit≤ tt, refl, refl)
      then tt),
  refl,
)
  where
    backing : Backing five (outcome (after five) first (asked 6 (slow 11 ∷ follow 2 1 11 ∷ follow 5 1 11 ∷ []))) 1
    backing = (
      bits 19,
      lit≤ tt,
      each_of _ _ (λ _. (11, inr (inr (inl refl)))) (λ _. (11, inr (inl refl))) out out (λ _. (11, inl refl)),
    )

-- ---- take over: controller 5 at ballot 10

-- Once 5 has chosen 11, controllers 3 and 4 accept it and 5 commits.
seen : (i : Instant) → (i.rows 3).bal ≤ 10 → (i.rows 3).done ≡ false → (i.rows 4).bal ≤ 10 → (i.rows 4).done ≡ false
    → (i.rows 5).done ≡ false
    → Legal (Allowed five) (after five) (after five i (lead 10 11)) seen_through
unfolding count
seen i l3 d3 l4 d4 d5 =
    (inl refl, l3, d3) then (inr (inl refl), l4, d4) then (backing, lit≤ tt, refl, d5) then tt
  where
    backing : Backing five (outcome (after five) (after five i (lead 10 11)) (follow 3 10 11 ∷ follow 4 10 11 ∷ [])) 10
    backing = (
      bits 28,
      lit≤ tt,
      each_of _ _ out out (λ _. (11, inr (inl refl))) (λ _. (11, inl refl)) (λ _. (11, inr (inr (inl refl)))),
    )

-- The replies of the set s at ballot 10 are what the rows hold.
abbrev from_rows : (i : Instant) (s : ℕ) → 3 ≤ count (bits s) 5
    → ((j : ℕ) → Among 5 (bits s) j
    → record { who = j; ballot = 10; ts = (i.rows j).ts; abal = (i.rows j).abal; early = (i.rows j).early } ∈ i.replies)
    → Replied five i 10
from_rows i s enough said =
    record {
      who = bits s;
      enough = enough;
      ts = λ j. (i.rows j).ts;
      abal = λ j. (i.rows j).abal;
      early = λ j. (i.rows j).early;
      said = said;
    }

greatest_ballot : TakesOver of_greatest_ballot accepted_before 10 11 seen_through
unfolding count
greatest_ballot = (
  five,
  refl,
  refl,
  asked_legal 6 (lit≤ tt) (slow 11 ∷ follow 2 1 11 ∷ join 5 10 1 ∷ join 2 10 1 ∷ join 4 10 1 ∷ [])
      ((gathered 6 (lit≤ tt), refl, refl)
      then (inl refl, lit≤ tt, refl)
      then (lit≤ tt, lit< tt, refl, lit≤ tt)
      then (lit≤ tt, lit< tt, refl, lit≤ tt)
      then (lit≤ tt, lit< tt, refl, lit≤ tt)
      then tt),
  (lit< tt, replied, picked, refl, omega arith, refl),
  refl,
  seen i (lit≤ tt) refl (lit≤ tt) refl refl,
  refl,
)
  where
    i : Instant
    i = outcome (after five) first accepted_before

    replied : Replied five i 10
    replied = from_rows i 26 (lit≤ tt) (each_of _ _ out (λ _. inr (inl refl)) out (λ _. inl refl) (λ _. inr (inr (inl refl))))

    picked : Picked five replied 11
    picked =
        by_ballot 2 (lit≤ tt, lit≤ tt, refl) (lit≤ tt)
        (each_of _ _ out (λ _. lit≤ tt) out (λ _. lit≤ tt) (λ _. lit≤ tt))
        refl

all : TakesOver of_all home_replies 10 11 seen_through
unfolding count
all = (
  five,
  refl,
  refl,
  (refl, lit≤ tt)
      then (refl, refl, refl, (6, inl refl, lit≤ tt))
      then (lit≤ tt, lit< tt, refl, lit≤ tt)
      then (lit≤ tt, lit< tt, refl, lit≤ tt)
      then (lit≤ tt, lit< tt, refl, lit≤ tt)
      then tt,
  (lit< tt, replied, picked, refl, omega arith, refl),
  refl,
  seen i (lit≤ tt) refl (lit≤ tt) refl refl,
  refl,
)
  where
    i : Instant
    i = outcome (after five) first home_replies

    replied : Replied five i 10
    replied = from_rows i 21 (lit≤ tt) (each_of _ _ (λ _. inr (inl refl)) out (λ _. inl refl) out (λ _. inr (inr (inl refl))))

    picked : Picked five replied 11
    picked =
        by_all (each_of _ _ (λ _. refl) out (λ _. refl) out (λ _. refl))
        (1, (lit≤ tt, lit≤ tt, refl), inl refl)
        (each_of _ _ (λ _. lit≤ tt) out (λ _. lit≤ tt) out (λ _. lit≤ tt))
        (3, (lit≤ tt, lit≤ tt, refl), refl)

fast_set : TakesOver of_fast_set home_silent 10 11 seen_through
unfolding count
fast_set = (
  five,
  refl,
  refl,
  (refl, lit≤ tt)
      then (refl, refl, refl, (6, inl refl, lit≤ tt))
      then (refl, refl, refl, (6, inr (inl refl), lit≤ tt))
      then (lit≤ tt, lit< tt, refl, lit≤ tt)
      then (lit≤ tt, lit< tt, refl, lit≤ tt)
      then (lit≤ tt, lit< tt, refl, lit≤ tt)
      then tt,
  (lit< tt, replied, picked, refl, omega arith, refl),
  refl,
  seen i (lit≤ tt) refl (lit≤ tt) refl refl,
  refl,
)
  where
    i : Instant
    i = outcome (after five) first home_silent

    replied : Replied five i 10
    replied = from_rows i 28 (lit≤ tt) (each_of _ _ out out (λ _. inr (inl refl)) (λ _. inl refl) (λ _. inr (inr (inl refl))))

    picked : Picked five replied 11
    picked =
        by_fast (each_of _ _ out out (λ _. refl) (λ _. refl) (λ _. refl))
        (each_of _ _ out out (λ _. (omega arith, refl)) (λ _. (omega arith, refl)) out)
        (each_of _ _ out out (λ _. lit≤ tt) (λ _. lit≤ tt) out)
        (3, (lit≤ tt, lit≤ tt, refl), refl)

-- ---- carrying out, and promises

carried : CarriesOutTwo 11
carried = (
  (lit≤ tt, refl, (λ k p. absurd (omega arith)), (λ k p. absurd (omega arith)))
      then (lit≤ tt, refl, (λ k p. grind arith), (λ k p. grind arith))
      then (lit≤ tt, (λ k c p l. grind arith))
      then ((lit≤ tt, lit≤ tt, λ p. p), λ d p. grind arith)
      then ((lit≤ tt, lit≤ tt, λ p. grind arith), λ d p. grind arith)
      then tt,
  refl,
)

settled : Settles
unfolding count
settled = (
  (lit≤ tt, lit≤ tt, lit≤ tt, lit≤ tt, refl, lit< tt, (0, lit≤ tt, (1, lit≤ tt, lit≤ tt, lit≤ tt)))
      then (lit≤ tt, lit≤ tt, lit≤ tt, lit≤ tt, refl, lit< tt, (0, lit≤ tt, (1, lit≤ tt, lit≤ tt, lit≤ tt)))
      then (lit≤ tt, lit≤ tt, lit≤ tt, lit≤ tt, refl, lit< tt, (0, lit≤ tt, (1, lit≤ tt, lit≤ tt, lit≤ tt)))
      then tt
      then tt
      then tt
      then (refl, (bits 7, lit≤ tt, each_of _ _ (λ _. (lit≤ tt, lit≤ tt)) (λ _. (lit≤ tt, lit≤ tt)) (λ _. (lit≤ tt, lit≤ tt)) out out))
      then (_, inr (inr (inl refl)), refl, inr (1, lit≤ tt, lit≤ tt, refl))
      then (_, inr (inl refl), refl, inr (1, lit≤ tt, lit≤ tt, refl))
      then (_, inl refl, refl, inr (1, lit≤ tt, lit≤ tt, refl))
      then tt,
  (bits 7, lit≤ tt, each_of _ _ (λ _ u p q. grind arith) (λ _ u p q. grind arith) (λ _ u p q. grind arith) out out),
)

pub samples : Samples 11
samples =
    record {
      fast = fast;
      slow = slow_path;
      greatest_ballot = greatest_ballot;
      all = all;
      fast_set = fast_set;
      carried = carried;
      settled = settled;
    }
