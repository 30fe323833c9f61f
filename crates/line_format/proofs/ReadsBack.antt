-- A message within its limits, read from what it is written as, is that message.
use Rattle.std.proofs.Common.{◌≡◌, ℕ, suc, ◌+◌, ◌-◌, ◌*◌, ◌/◌, ◌%◌, ◌^◌, ◌<◌, ◌≤◌, true, false, not, ◌&&◌, ltb, List, [], ◌∷◌, ◌++◌, length, get_or, take, drop, replicate, is_some, Ok, sym, refl, ap, ◌∙◌, subst, ap₂, append_assoc, append-nil, arith, length-append, pow_mono}
use Rattle.std.proofs.lemmas.List.{drop-replicate, take-append-drop, length-take-le, length-drop}
use Rattle.std.proofs.lemmas.Bool.Decides.{nat_tests}
use Rattle.schedule.specs.Changes.{department_fits, kind_fits, hour_fits, slot_fits, value_fits}
use Rattle.schedule.specs.Group.{id_fits, timestamp_fits, ballot_fits, changes_each}
use Rattle.line_format.specs.Encoding.{ints, encode}
use Rattle.line_format.specs.Fields.{hyper_bytes, pair_bytes, fields, int_at, hyper_at, pair_at, fields_at}
use Rattle.line_format.specs.Laws.{Typed, ReadsBack, NoLonger, longest}
use Rattle.line_format.specs.Limits.{Check, checks, first_unfit, within, words, most_pairs, sender_fits, set_fits, phase_fits, accepted_fits, pairs_rise, pairs_fit, unused}
use Rattle.line_format.specs.Reading.{no_pair, no_pairs, promises_shaped, shape, limited}
use Rattle.line_format.specs.declared.message.Message.{Message}
use Rattle.line_format.specs.declared.message.Message.TheVariants.{MPayload, MPropose, MProposeAck, MCommit, MConsensus, MConsensusAck, MRec, MRecAck, MPromises}
use Rattle.line_format.specs.declared.message.Pair.{Pair}
use Rattle.line_format.specs.declared.message.Promises.{Promises}
use Rattle.schedule.specs.declared.change.Change.{Change}
use Rattle.line_format.proofs.Numbers.{value, int_same}
use Rattle.line_format.proofs.Rows.{Each, Int, Hyper, IntPair, row_back, int_back, hyper_back, pair_back}
use Rattle.line_format.proofs.Laying.{length_fields}

-- where no field is unfit, each fits
fit_first : (c : Check) (cs : List Check) → not (is_some (first_unfit (c ∷ cs))) ≡ true → (c.fits ≡ true) × (not (is_some (first_unfit cs)) ≡ true)
fit_first c cs h = grind arith

all_fit : (cs : List Check) → not (is_some (first_unfit cs)) ≡ true → Each (λ c. c.fits ≡ true) cs
all_fit [] h = tt
all_fit (c ∷ cs) h = let both = fit_first c cs h in (both.0, all_fit cs both.1)

-- the number that the bytes of an int make
abbrev coded : ℕ → ℕ
coded n = value (n / 16777216 % 256) (n / 65536 % 256) (n / 256 % 256) (n % 256)

-- a field within its limits is the number that its bytes make
module _ (r : ℕ) (small : r ≤ 7) where
  sender_same : (n : ℕ) → sender_fits r n ≡ true → coded n ≡ n
  sender_same n h = int_same n (grind (arith, nat_tests))

  id_same : (n : ℕ) → id_fits r n ≡ true → coded n ≡ n
  id_same n h = int_same n (grind (arith, nat_tests))

  set_same : (f id set : ℕ) → set_fits r f id set ≡ true → coded set ≡ set
  set_same f id set h =
      let bound : set < 2 ^ r = grind (arith, nat_tests) in
      let top : 2 ^ r ≤ 2 ^ 7 = pow_mono small in
      int_same set (omega arith)

timestamp_same : (n : ℕ) → timestamp_fits n ≡ true → coded n ≡ n
timestamp_same n h = int_same n (grind (arith, nat_tests))

ballot_same : (n : ℕ) → ballot_fits n ≡ true → coded n ≡ n
ballot_same n h = int_same n (grind (arith, nat_tests))

takeover_same : (r n : ℕ) → (ballot_fits n && ltb r n) ≡ true → coded n ≡ n
takeover_same r n h = int_same n (grind (arith, nat_tests))

phase_same : (n : ℕ) → phase_fits n ≡ true → coded n ≡ n
phase_same n h = int_same n (grind (arith, nat_tests))

accepted_same : (n : ℕ) → accepted_fits n ≡ true → coded n ≡ n
accepted_same n h = int_same n (grind (arith, nat_tests))

change_same : (c : Change) → department_fits c.department ≡ true → kind_fits c.kind ≡ true → hour_fits c.hour ≡ true → slot_fits c.slot ≡ true → value_fits c.value ≡ true → ◌≡◌ {A = Change} (record { department = coded c.department; kind = coded c.kind; hour = coded c.hour; slot = coded c.slot; value = coded c.value }) c
change_same c d k h s v =
    let department = int_same c.department (grind (arith, nat_tests)) in
    let kind = int_same c.kind (grind (arith, nat_tests)) in
    let hour = int_same c.hour (grind (arith, nat_tests)) in
    let slot = int_same c.slot (grind (arith, nat_tests)) in
    let value = int_same c.value (grind (arith, nat_tests)) in
    λ j. record { department = department j; kind = kind j; hour = hour j; slot = slot j; value = value j }

-- the fields of a list of pairs whose numbers rise fit 32 bits
pub rising_ints : (r last : ℕ) → r ≤ 7 → (ps : List Pair) → pairs_rise r last ps ≡ true → Each IntPair ps
rising_ints r last small [] h = tt
rising_ints r last small (p ∷ ps) h =
    let id : Int p.id = grind (arith, nat_tests) in
    let timestamp : Int p.timestamp = grind (arith, nat_tests) in
    let rest : pairs_rise r p.id ps ≡ true = grind (arith, nat_tests) in
    ((id, timestamp), rising_ints r p.id small ps rest)

-- places that are not used hold nothing but the pair of zeros
unused_zeros : (ps : List Pair) → unused ps ≡ true → ps ≡ replicate (length ps) no_pair
unused_zeros [] h = refl
unused_zeros (p ∷ ps) h =
    let id : p.id ≡ 0 = grind (arith, nat_tests) in
    let timestamp : p.timestamp ≡ 0 = grind (arith, nat_tests) in
    let rest : unused ps ≡ true = grind (arith, nat_tests) in
    ap₂ ◌∷◌ (ap₂ (λ x y. record { id = x; timestamp = y }) id timestamp) (unused_zeros ps rest)

words_each : (ws : List ℕ) → ((i : ℕ) → get_or ws i 0 < 2 ^ 64) → Each Hyper ws
words_each [] h = tt
words_each (w ∷ ws) h = (h 0, words_each ws (λ i. h (suc i)))

-- the parts of a message of promises, read from the whole
module _ (r : ℕ) (small : r ≤ 7) (s : ℕ) (p : Promises) (ty : Typed (MPromises s p)) (h : pairs_fit r p ≡ true) where
  abbrev opening : List ℕ
  opening = ints (9 ∷ s ∷ [])

  abbrev words_part : List ℕ
  words_part = fields hyper_bytes p.detached

  abbrev count_part : List ℕ
  count_part = ints (p.count ∷ [])

  abbrev used : List Pair
  used = take p.count p.pairs

  abbrev pairs_part : List ℕ
  pairs_part = fields pair_bytes used

  abbrev bytes : List ℕ
  bytes = opening ++ (words_part ++ (count_part ++ pairs_part))

  few : p.count ≤ most_pairs
  few = grind (arith, nat_tests)

  words_long : length words_part ≡ 200
  words_long = omega (arith, length_fields hyper_bytes 8 (λ _. refl) p.detached, ty.0)

  pub used_long : length used ≡ p.count
  used_long = length-take-le p.count p.pairs (omega (arith, few, ty.2))

  pairs_long : length pairs_part ≡ 8 * p.count
  pairs_long = omega (arith, length_fields pair_bytes 8 (λ _. refl) used, used_long)

  pub whole_long : length bytes ≡ 212 + 8 * p.count
  whole_long = omega (arith, length-append words_part (count_part ++ pairs_part), words_long, pairs_long)

  pub count_back : int_at bytes 208 ≡ p.count
  count_back =
      let before = opening ++ words_part in
      let n : length before ≡ 208 = omega (arith, words_long) in
      let back = int_back before pairs_part p.count (omega (arith, few)) in
      rw n at back

  pub shaped : promises_shaped bytes ≡ true
  shaped = let len = whole_long in let n = count_back in let k = few in grind (arith, nat_tests)

  pub not_short : ltb (length bytes) 4 ≡ false
  not_short = let len = whole_long in grind (arith, nat_tests)

  pub words_back : fields_at hyper_at 8 bytes 8 words ≡ p.detached
  words_back =
      subst (λ n. fields_at hyper_at 8 bytes 8 n ≡ p.detached) ty.0
      (row_back hyper_at hyper_bytes 8 Hyper (λ _. refl) hyper_back opening (count_part ++ pairs_part) p.detached (words_each p.detached ty.1))

  used_back : fields_at pair_at 8 bytes 212 p.count ≡ used
  used_back =
      let before = opening ++ (words_part ++ count_part) in
      let n : length before ≡ 212 = omega (arith, length-append words_part count_part, words_long) in
      let
      moved : before ++ (pairs_part ++ []) ≡ bytes
      = simp (append_assoc, append-nil) in
      let rise : pairs_rise r 0 used ≡ true = grind (arith, nat_tests) in
      let back = row_back pair_at pair_bytes 8 IntPair (λ _. refl) pair_back before [] used (rising_ints r 0 small used rise) in
      let P : List ℕ → ℕ → ℕ → Type 0 = λ bs at k. fields_at pair_at 8 bs at k ≡ used in
      subst (P bytes 212) used_long (subst (λ at. P bytes at (length used)) n (subst (λ bs. P bs (length before) (length used)) moved back))

  pub rest_zeros : drop p.count no_pairs ≡ drop p.count p.pairs
  unfolding no_pairs
  rest_zeros =
      let none : unused (drop p.count p.pairs) ≡ true = grind (arith, nat_tests) in
      let n : length (drop p.count p.pairs) ≡ most_pairs - p.count = length-drop p.count p.pairs ∙ ap (λ k. k - p.count) ty.2 in
      drop-replicate p.count most_pairs no_pair ∙ sym (unused_zeros (drop p.count p.pairs) none ∙ ap (λ k. replicate k no_pair) n)

  pub pairs_back : fields_at pair_at 8 bytes 212 (int_at bytes 208) ++ drop (int_at bytes 208) no_pairs ≡ p.pairs
  pairs_back = rw (count_back, used_back, rest_zeros) (take-append-drop p.count p.pairs)

module _ (r f : ℕ) (small : r ≤ 7) where
  shape_back : (m : Message) → Typed m → within r f m ≡ true → shape (encode m) ≡ Ok m
  shape_back (MPayload s i c set) ty w =
      let h = all_fit (checks r f (MPayload s i c set)) w in
      let change = change_same c h.1.1.0 h.1.1.1.0 h.1.1.1.1.0 h.1.1.1.1.1.0 h.1.1.1.1.1.1.0 in
      let bits = set_same r small f i set.bits h.1.1.1.1.1.1.1.0 in
      λ j. Ok (MPayload (sender_same r small s h.0 j) (id_same r small i h.1.0 j) (change j) (record { bits = bits j }))
  shape_back (MPropose s i c set t) ty w =
      let h = all_fit (checks r f (MPropose s i c set t)) w in
      let change = change_same c h.1.1.0 h.1.1.1.0 h.1.1.1.1.0 h.1.1.1.1.1.0 h.1.1.1.1.1.1.0 in
      let bits = set_same r small f i set.bits h.1.1.1.1.1.1.1.0 in
      let timestamp = timestamp_same t h.1.1.1.1.1.1.1.1.0 in
      λ j. Ok (MPropose (sender_same r small s h.0 j) (id_same r small i h.1.0 j) (change j) (record { bits = bits j }) (timestamp j))
  shape_back (MProposeAck s i t) ty w =
      let h = all_fit (checks r f (MProposeAck s i t)) w in
      λ j. Ok (MProposeAck (sender_same r small s h.0 j) (id_same r small i h.1.0 j) (timestamp_same t h.1.1.0 j))
  shape_back (MCommit s i t) ty w =
      let h = all_fit (checks r f (MCommit s i t)) w in
      λ j. Ok (MCommit (sender_same r small s h.0 j) (id_same r small i h.1.0 j) (timestamp_same t h.1.1.0 j))
  shape_back (MConsensus s i t b) ty w =
      let h = all_fit (checks r f (MConsensus s i t b)) w in
      λ j. Ok (MConsensus (sender_same r small s h.0 j) (id_same r small i h.1.0 j) (timestamp_same t h.1.1.0 j) (ballot_same b h.1.1.1.0 j))
  shape_back (MConsensusAck s i b) ty w =
      let h = all_fit (checks r f (MConsensusAck s i b)) w in
      λ j. Ok (MConsensusAck (sender_same r small s h.0 j) (id_same r small i h.1.0 j) (ballot_same b h.1.1.0 j))
  shape_back (MRec s i b) ty w =
      let h = all_fit (checks r f (MRec s i b)) w in
      λ j. Ok (MRec (sender_same r small s h.0 j) (id_same r small i h.1.0 j) (takeover_same r b h.1.1.0 j))
  shape_back (MRecAck s i t p a b) ty w =
      let h = all_fit (checks r f (MRecAck s i t p a b)) w in
      λ j. Ok (MRecAck (sender_same r small s h.0 j) (id_same r small i h.1.0 j) (timestamp_same t h.1.1.0 j) (phase_same p h.1.1.1.0 j) (accepted_same a h.1.1.1.1.0 j) (ballot_same b h.1.1.1.1.1.0 j))
  shape_back (MPromises s p) ty w =
      let h = all_fit (checks r f (MPromises s p)) w in
      let fit = h.1.1.0 in
      let words_same = words_back r small s p ty fit in
      let count_same = count_back r small s p ty fit in
      let pairs_same = pairs_back r small s p ty fit in
      rw (not_short r small s p ty fit, shaped r small s p ty fit) (λ j. Ok (MPromises (sender_same r small s h.0 j) (record { detached = words_same j; count = count_same j; pairs = pairs_same j })))

pub reads_back : (r f : ℕ) → r ≤ 7 → ReadsBack r f
reads_back r f small m ty w = ap (limited r f) (shape_back r f small m ty w) ∙ rw w

-- numbers that rise up to a limit are no more than it
rising_few : (r last : ℕ) → last ≤ changes_each * r → (ps : List Pair) → pairs_rise r last ps ≡ true → last + length ps ≤ changes_each * r
rising_few r last top [] h = omega arith
rising_few r last top (p ∷ ps) h =
    let above : last < p.id = grind (arith, nat_tests) in
    let below : p.id ≤ changes_each * r = grind (arith, nat_tests) in
    let rest : pairs_rise r p.id ps ≡ true = grind (arith, nat_tests) in
    omega (arith, rising_few r p.id below ps rest)

module _ (r f : ℕ) (some : 1 ≤ r) (small : r ≤ 7) where
  pub no_longer : NoLonger r f (longest r)
  no_longer (MPayload s i c set) ty w = omega arith
  no_longer (MPropose s i c set t) ty w = omega arith
  no_longer (MProposeAck s i t) ty w = omega arith
  no_longer (MCommit s i t) ty w = omega arith
  no_longer (MConsensus s i t b) ty w = omega arith
  no_longer (MConsensusAck s i b) ty w = omega arith
  no_longer (MRec s i b) ty w = omega arith
  no_longer (MRecAck s i t p a b) ty w = omega arith
  no_longer (MPromises s p) ty w =
      let fit = (all_fit (checks r f (MPromises s p)) w).1.1.0 in
      let rise : pairs_rise r 0 (take p.count p.pairs) ≡ true = grind (arith, nat_tests) in
      omega (arith, whole_long r small s p ty fit, used_long r small s p ty fit, rising_few r 0 (omega arith) (take p.count p.pairs) rise)
