-- Lists as they are printed, piece by piece.
use Rattle.std.proofs.Common.{◌≡◌, ℕ, suc, ◌+◌, ◌-◌, ◌<◌, ◌≤◌, Bool, true, false, List, [], ◌∷◌, ◌++◌, Some, None, Option, sym, refl, ap, ◌∙◌, append_assoc, arith}
use Rattle.schedule.specs.Sets.{member}
use Rattle.line_text.specs.Lists.{comma, list_from}
use Rattle.line_text.specs.Promises.{has, ranges_from}
use Rattle.line_text.specs.Sets.{members_from}

-- after one more piece
pub one_more : (before p all : List ℕ) (first : Bool) (ps qs : List (List ℕ)) → qs ≡ p ∷ ps → before ++ list_from qs first ≡ all → (before ++ (comma first ++ p)) ++ list_from ps false ≡ all
one_more before p all first ps qs next sofar = simp append_assoc (ap (λ l. before ++ list_from l first) (sym next) ∙ sofar)

-- after the last
pub no_more : (before all : List ℕ) (first : Bool) (qs : List (List ℕ)) → qs ≡ [] → before ++ list_from qs first ≡ all → before ++ list_from [] first ≡ all
no_more before all first qs over sofar = ap (λ l. before ++ list_from l first) (sym over) ∙ sofar

module _ (bits j n : ℕ) (h : j < n) where
  less : n - j ≡ suc (n - (j + 1))
  less = omega arith

  pub member_next : member bits j ≡ true → members_from bits j (n - j) ≡ j ∷ members_from bits (j + 1) (n - (j + 1))
  unfolding members_from
  member_next e = rw (less, e) refl

  pub member_skip : member bits j ≡ false → members_from bits j (n - j) ≡ members_from bits (j + 1) (n - (j + 1))
  unfolding members_from
  member_skip e = rw (less, e) refl

pub members_done : (bits j n : ℕ) → n ≤ j → members_from bits j (n - j) ≡ []
unfolding members_from
members_done bits j n h = let e : n - j ≡ 0 = omega arith in rw e refl

module _ (ws : List ℕ) (t n : ℕ) (h : t < n) where
  fewer : n - t ≡ suc (n - (t + 1))
  fewer = omega arith

  pub run_opens : has ws t ≡ true → ranges_from ws None t (n - t) ≡ ranges_from ws (Some t) (t + 1) (n - (t + 1))
  unfolding ranges_from
  run_opens e = rw (fewer, e) refl

  pub run_waits : has ws t ≡ false → ranges_from ws None t (n - t) ≡ ranges_from ws None (t + 1) (n - (t + 1))
  unfolding ranges_from
  run_waits e = rw (fewer, e) refl

  pub run_goes_on : (first : ℕ) → has ws t ≡ true → ranges_from ws (Some first) t (n - t) ≡ ranges_from ws (Some first) (t + 1) (n - (t + 1))
  unfolding ranges_from
  run_goes_on first e = rw (fewer, e) refl

  pub run_ends : (first : ℕ) → has ws t ≡ false → ranges_from ws (Some first) t (n - t) ≡ (first, t - 1) ∷ ranges_from ws None (t + 1) (n - (t + 1))
  unfolding ranges_from
  run_ends first e = rw (fewer, e) refl

pub ranges_done : (ws : List ℕ) (run : Option ℕ) (t n : ℕ) → n ≤ t → ranges_from ws run t (n - t) ≡ []
unfolding ranges_from
ranges_done ws None t n h = let e : n - t ≡ 0 = omega arith in rw e refl
ranges_done ws (Some first) t n h = let e : n - t ≡ 0 = omega arith in rw e refl
