-- The text of a message, read back, is the message.
use Rattle.std.proofs.Common.{◌≡◌, ℕ, ◌^◌, ◌<◌, ◌≤◌, Bool, true, false, cond, not, ◌&&◌, ltb, List, [], ◌∷◌, ◌++◌, map, length, drop, slice_index, is_some, Some, Ok, codes, decimal, Option, refl, ap, ◌∙◌, append_assoc, append-nil, arith, length-append, pow_mono}
use Rattle.std.proofs.lemmas.Bool.Decides.{nat_tests}
use Rattle.std.specs.Option.{ok_or}
use Rattle.schedule.specs.Changes.{hour_fits, slot_fits, value_fits}
use Rattle.schedule.specs.Group.{id_fits, timestamp_fits, ballot_fits}
use Rattle.line_format.specs.Limits.{sender_fits, set_fits, accepted_fits, pairs_fit}
use Rattle.line_format.specs.declared.limits.Field.{Field}
use Rattle.line_format.specs.declared.limits.Field.TheVariants.{Sender, Id, Hour, Slot, Value, Set, Timestamp, Ballot, Phase, Accepted, Detached, Pairs}
use Rattle.line_format.specs.declared.message.Message.{Message}
use Rattle.line_format.specs.declared.message.Message.TheVariants.{MPayload, MPropose, MProposeAck, MCommit, MConsensus, MConsensusAck, MRec, MRecAck, MPromises}
use Rattle.line_format.specs.declared.message.Promises.{Promises}
use Rattle.line_format.specs.Laws.{Typed}
use Rattle.text_forms.specs.Forms.{form_name, form_named}
use Rattle.text_forms.specs.declared.form.Form.{Form}
use Rattle.text_forms.specs.declared.form.Form.TheVariants as form
use Rattle.line_text.specs.Labels.{label}
use Rattle.line_text.specs.Laws.{fixed, ReadsBack, TypedReadsBack}
use Rattle.line_text.specs.Lists.{filled, listed, pieces, words}
use Rattle.line_text.specs.Promises.{with_detached, no_detached, with_pair, none_yet, detached_text, pairs_text}
use Rattle.line_text.specs.Reading.{then, numbers_first, listed_first, ended, numbers_all, entry_change, entry_set, by_form, reading, said}
use Rattle.line_text.specs.declared.fault.NotUnderstood.TheVariants as fault
use Rattle.line_text.specs.Showing.{entry_numbers, field_text, numbers_text, text}
use Rattle.line_text.specs.Values.{number_text, word}
use Rattle.line_text.specs.declared.promises.Detached as detached
use Rattle.line_text.specs.declared.promises.Pairs as pairs
use Rattle.line_text.proofs.Back.{lacks, lacks_at, lacks_append, Good, decimal_good, department_good, kind_good, phase_good, set_good, label_plain, value_first_back, number_first_back}
use Rattle.line_text.proofs.Paired.{pairs_lack, pairs_listed}
use Rattle.line_text.proofs.Ranged.{detached_lacks, detached_listed}
use Rattle.line_text.proofs.Cuts.{pieces_at, pieces_whole}
use Rattle.line_text.proofs.Words.{one_word}

-- fields with their numbers, as words
abbrev entry_word : Field × ℕ → List ℕ
entry_word e = word e.0 (number_text e.0 e.1)

abbrev AllGood : List (Field × ℕ) → Type 0
AllGood [] = Unit {0}
AllGood (e ∷ es) = Good e.0 e.1 × AllGood es

word_lacks : (f : Field) (v : List ℕ) → lacks 32 v ≡ true → lacks 32 (word f v) ≡ true
word_lacks f v h = lacks_append 32 (label f) (61 ∷ v) (label_plain f).1 h

pieces_text : (w : List ℕ) (es : List (Field × ℕ)) → lacks 32 w ≡ true → AllGood es → pieces 32 (w ++ numbers_text es) ≡ w ∷ map entry_word es
unfolding numbers_text
pieces_text w [] h g = ap (pieces 32) (append-nil w) ∙ pieces_whole 32 w (lacks_at 32 w h)
pieces_text w (e ∷ es) h g =
    let v = number_text e.0 e.1 in
    let rest = numbers_text es in
    pieces_at 32 w (entry_word e ++ rest) (lacks_at 32 w h)
    ∙ ap (λ l. w ∷ l) (pieces_text (entry_word e) es (word_lacks e.0 v g.0.0) g.1)

filled_words : (es : List (Field × ℕ)) → filled (map entry_word es) ≡ map entry_word es
filled_words [] = refl
filled_words (e ∷ es) =
    let v = number_text e.0 e.1 in
    one_word (entry_word e) (map entry_word es) (λ none. omega (arith, length-append (label e.0) (61 ∷ v))) ∙ ap (λ l. entry_word e ∷ l) (filled_words es)

-- the words of a name that begins with M and of fields
words_text : (w : List ℕ) (es : List (Field × ℕ)) → lacks 32 w ≡ true → (length w ≡ 0 → ⊥) → AllGood es → words (w ++ numbers_text es) ≡ w ∷ map entry_word es
words_text w es h some g = ap filled (pieces_text w es h g) ∙ one_word w (map entry_word es) some ∙ ap (λ l. w ∷ l) (filled_words es)

numbers_append : (xs ys : List (Field × ℕ)) → numbers_text xs ++ numbers_text ys ≡ numbers_text (xs ++ ys)
unfolding numbers_text
numbers_append [] ys = refl
numbers_append (x ∷ xs) ys =
    let first = field_text x.0 (number_text x.0 x.1) in
    append_assoc first (numbers_text xs) (numbers_text ys) ∙ ap (λ l. first ++ l) (numbers_append xs ys)

-- where no field is unfit, each fits
fits_first : (b : Bool) (o : Option Field) (f : Field) → not (is_some (cond b o (Some f))) ≡ true → (b ≡ true) × (not (is_some o) ≡ true)
fits_first true o f h = (refl, h)
fits_first false o f h = absurd (grind arith)

module _ (r f : ℕ) (small : r ≤ 7) where
  sender_good : (n : ℕ) → sender_fits r n ≡ true → Good Sender n
  sender_good n h = decimal_good n (grind (arith, nat_tests))

  id_good : (n : ℕ) → id_fits r n ≡ true → Good Id n
  id_good n h = decimal_good n (grind (arith, nat_tests))

  member_good : (id n : ℕ) → set_fits r f id n ≡ true → Good Set n
  member_good id n h =
      let bound : n < 2 ^ r = grind (arith, nat_tests) in
      let top : 2 ^ r ≤ 2 ^ 7 = pow_mono small in
      set_good n (omega arith)

timestamp_good : (n : ℕ) → timestamp_fits n ≡ true → Good Timestamp n
timestamp_good n h = decimal_good n (grind (arith, nat_tests))

ballot_good : (n : ℕ) → ballot_fits n ≡ true → Good Ballot n
ballot_good n h = decimal_good n (grind (arith, nat_tests))

takeover_good : (r n : ℕ) → ballot_fits n && ltb r n ≡ true → Good Ballot n
takeover_good r n h = decimal_good n (grind (arith, nat_tests))

accepted_good : (n : ℕ) → accepted_fits n ≡ true → Good Accepted n
accepted_good n h = decimal_good n (grind (arith, nat_tests))

hour_good : (n : ℕ) → hour_fits n ≡ true → Good Hour n
hour_good n h = decimal_good n (grind (arith, nat_tests))

slot_good : (n : ℕ) → slot_fits n ≡ true → Good Slot n
slot_good n h = decimal_good n (grind (arith, nat_tests))

value_good : (n : ℕ) → value_fits n ≡ true → Good Value n
value_good n h = decimal_good n (grind (arith, nat_tests))

-- the numbers of fields, read back, and the message that they make
numbers_back : (es : List (Field × ℕ)) → AllGood es → numbers_first (map (λ e. e.0) es) (map entry_word es) ≡ Ok (map (λ e. e.1) es)
unfolding numbers_first
numbers_back [] g = refl
numbers_back (e ∷ es) g = rw (number_first_back e.0 e.1 (map entry_word es) g.0, numbers_back es g.1) refl

all_back : (es : List (Field × ℕ)) → AllGood es → numbers_all (map (λ e. e.0) es) (map entry_word es) ≡ Ok (map (λ e. e.1) es)
unfolding numbers_all
all_back es g = rw (numbers_back es g) (ap (λ l. ended l (map (λ e. e.1) es)) (none_left es))
  where
    none_left : (es : List (Field × ℕ)) → drop (length (map (λ e. e.0) es)) (map entry_word es) ≡ []
    none_left [] = refl
    none_left (e ∷ es) = none_left es

message_back : (form : Form) (es : List (Field × ℕ)) (make : List ℕ → Message) → AllGood es → ((ws : List (List ℕ)) → by_form form ws ≡ then (numbers_all (map (λ e. e.0) es) ws) (λ ns. Ok (make ns)))
    → form_named (form_name form) ≡ Some form → lacks 32 (form_name form) ≡ true → (length (form_name form) ≡ 0 → ⊥)
    → reading (form_name form ++ numbers_text es) ≡ Ok (make (map (λ e. e.1) es))
message_back form es make g reads named free some =
    ap said (words_text (form_name form) es free some g)
    ∙ ap (λ o. then (ok_or o fault.Name) (λ f. by_form f (map entry_word es))) named
    ∙ reads (map entry_word es) ∙ ap (λ r. then r (λ ns. Ok (make ns))) (all_back es g)

-- the words of a message of promises
promises_words : (s : ℕ) (d v : List ℕ) → Good Sender s → lacks 32 d ≡ true → lacks 32 v ≡ true → words (codes "MPromises" ++ (numbers_text ((Sender, s) ∷ []) ++ (field_text Detached d ++ field_text Pairs v))) ≡ codes "MPromises" ∷ word Sender (decimal s) ∷ word Detached d ∷ word Pairs v ∷ []
unfolding numbers_text
promises_words s d v g h k =
    let piece : (f : Field) (x rest : List ℕ) → lacks 32 x ≡ true → pieces 32 (word f x ++ (32 ∷ rest)) ≡ word f x ∷ pieces 32 rest = λ f x rest free. pieces_at 32 (word f x) rest (lacks_at 32 (word f x) (word_lacks f x free)) in
    let name = codes "MPromises" in
    ap (λ l. words (name ++ (32 ∷ (label Sender ++ (61 ∷ (l ++ (32 ∷ (word Detached d ++ (32 ∷ word Pairs v))))))))) (append-nil (decimal s))
    ∙ ap filled (pieces_at 32 name (word Sender (decimal s) ++ (32 ∷ (word Detached d ++ (32 ∷ word Pairs v)))) (lacks_at 32 name refl)
    ∙ ap (λ l. name ∷ l) (piece Sender (decimal s) (word Detached d ++ (32 ∷ word Pairs v)) g.0
    ∙ ap (λ l. word Sender (decimal s) ∷ l) (piece Detached d (word Pairs v) h
    ∙ ap (λ l. word Detached d ∷ l) (pieces_whole 32 (word Pairs v) (lacks_at 32 (word Pairs v) (word_lacks Pairs v k))))))

listed_back_first : {A : Type 0} (adds : A → List ℕ → Option A) (start a : A) (f : Field) (v : List ℕ) (ws : List (List ℕ)) → listed adds start v ≡ Some a → listed_first adds start f (word f v ∷ ws) ≡ Ok a
unfolding listed_first
listed_back_first adds start a f v ws all = rw (value_first_back f v ws) (ap (λ o. ok_or o (fault.Value f)) all)

promises_back : (r s : ℕ) (p : Promises) → r ≤ 7 → Typed (MPromises s p) → Good Sender s → pairs_fit r p ≡ true → reading (text (MPromises s p)) ≡ Ok (MPromises s p)
promises_back r s p small ty g fit =
    let d = detached_text p.detached in
    let v = pairs_text p in
    let ranges : detached.Detached = record { words = p.detached } in
    let found : pairs.Pairs = record { count = p.count; pairs = p.pairs } in
    let whole = listed_back_first with_detached no_detached ranges Detached d (word Pairs v ∷ []) (detached_listed p.detached ty.0 ty.1) in
    let paired = listed_back_first with_pair none_yet found Pairs v [] (pairs_listed r small s p ty fit) in
    ap said (promises_words s d v g (detached_lacks p.detached ty.0 ty.1) (pairs_lack r small s p ty fit))
    ∙ rw (number_first_back Sender s (word Detached d ∷ word Pairs v ∷ []) g, whole, paired) refl

pub typed_reads_back : TypedReadsBack
typed_reads_back r f small (MPayload s i c set) ty h =
    let x1 = fits_first _ _ _ h in let x2 = fits_first _ _ _ x1.1 in let x3 = fits_first _ _ _ x2.1 in let x4 = fits_first _ _ _ x3.1 in let x5 = fits_first _ _ _ x4.1 in let x6 = fits_first _ _ _ x5.1 in let x7 = fits_first _ _ _ x6.1 in let x8 = fits_first _ _ _ x7.1 in
    message_back form.MPayload (entry_numbers s i c set.bits) (λ ns. MPayload (slice_index ns 0) (slice_index ns 1) (entry_change ns) (entry_set ns)) (sender_good r f small s x1.0, (id_good r f small i x2.0, (department_good c.department x3.0, (kind_good c.kind x4.0, (hour_good c.hour x5.0, (slot_good c.slot x6.0, (value_good c.value x7.0, (member_good r f small i set.bits x8.0, tt)))))))) (λ _. refl) refl refl (λ none. omega arith)
typed_reads_back r f small (MPropose s i c set t) ty h =
    let x1 = fits_first _ _ _ h in let x2 = fits_first _ _ _ x1.1 in let x3 = fits_first _ _ _ x2.1 in let x4 = fits_first _ _ _ x3.1 in let x5 = fits_first _ _ _ x4.1 in let x6 = fits_first _ _ _ x5.1 in let x7 = fits_first _ _ _ x6.1 in let x8 = fits_first _ _ _ x7.1 in let x9 = fits_first _ _ _ x8.1 in
    ap (λ l. reading (codes "MPropose" ++ l)) (numbers_append (entry_numbers s i c set.bits) ((Timestamp, t) ∷ []))
    ∙ message_back form.MPropose (entry_numbers s i c set.bits ++ ((Timestamp, t) ∷ [])) (λ ns. MPropose (slice_index ns 0) (slice_index ns 1) (entry_change ns) (entry_set ns) (slice_index ns 8)) (sender_good r f small s x1.0, (id_good r f small i x2.0, (department_good c.department x3.0, (kind_good c.kind x4.0, (hour_good c.hour x5.0, (slot_good c.slot x6.0, (value_good c.value x7.0, (member_good r f small i set.bits x8.0, (timestamp_good t x9.0, tt))))))))) (λ _. refl) refl refl (λ none. omega arith)
typed_reads_back r f small (MProposeAck s i t) ty h =
    let x1 = fits_first _ _ _ h in let x2 = fits_first _ _ _ x1.1 in let x3 = fits_first _ _ _ x2.1 in
    message_back form.MProposeAck ((Sender, s) ∷ (Id, i) ∷ (Timestamp, t) ∷ []) (λ ns. MProposeAck (slice_index ns 0) (slice_index ns 1) (slice_index ns 2)) (sender_good r f small s x1.0, (id_good r f small i x2.0, (timestamp_good t x3.0, tt))) (λ _. refl) refl refl (λ none. omega arith)
typed_reads_back r f small (MCommit s i t) ty h =
    let x1 = fits_first _ _ _ h in let x2 = fits_first _ _ _ x1.1 in let x3 = fits_first _ _ _ x2.1 in
    message_back form.MCommit ((Sender, s) ∷ (Id, i) ∷ (Timestamp, t) ∷ []) (λ ns. MCommit (slice_index ns 0) (slice_index ns 1) (slice_index ns 2)) (sender_good r f small s x1.0, (id_good r f small i x2.0, (timestamp_good t x3.0, tt))) (λ _. refl) refl refl (λ none. omega arith)
typed_reads_back r f small (MConsensus s i t b) ty h =
    let x1 = fits_first _ _ _ h in let x2 = fits_first _ _ _ x1.1 in let x3 = fits_first _ _ _ x2.1 in let x4 = fits_first _ _ _ x3.1 in
    message_back form.MConsensus ((Sender, s) ∷ (Id, i) ∷ (Timestamp, t) ∷ (Ballot, b) ∷ []) (λ ns. MConsensus (slice_index ns 0) (slice_index ns 1) (slice_index ns 2) (slice_index ns 3)) (sender_good r f small s x1.0, (id_good r f small i x2.0, (timestamp_good t x3.0, (ballot_good b x4.0, tt)))) (λ _. refl) refl refl (λ none. omega arith)
typed_reads_back r f small (MConsensusAck s i b) ty h =
    let x1 = fits_first _ _ _ h in let x2 = fits_first _ _ _ x1.1 in let x3 = fits_first _ _ _ x2.1 in
    message_back form.MConsensusAck ((Sender, s) ∷ (Id, i) ∷ (Ballot, b) ∷ []) (λ ns. MConsensusAck (slice_index ns 0) (slice_index ns 1) (slice_index ns 2)) (sender_good r f small s x1.0, (id_good r f small i x2.0, (ballot_good b x3.0, tt))) (λ _. refl) refl refl (λ none. omega arith)
typed_reads_back r f small (MRec s i b) ty h =
    let x1 = fits_first _ _ _ h in let x2 = fits_first _ _ _ x1.1 in let x3 = fits_first _ _ _ x2.1 in
    message_back form.MRec ((Sender, s) ∷ (Id, i) ∷ (Ballot, b) ∷ []) (λ ns. MRec (slice_index ns 0) (slice_index ns 1) (slice_index ns 2)) (sender_good r f small s x1.0, (id_good r f small i x2.0, (takeover_good r b x3.0, tt))) (λ _. refl) refl refl (λ none. omega arith)
typed_reads_back r f small (MRecAck s i t p a b) ty h =
    let x1 = fits_first _ _ _ h in let x2 = fits_first _ _ _ x1.1 in let x3 = fits_first _ _ _ x2.1 in let x4 = fits_first _ _ _ x3.1 in let x5 = fits_first _ _ _ x4.1 in let x6 = fits_first _ _ _ x5.1 in
    message_back form.MRecAck ((Sender, s) ∷ (Id, i) ∷ (Timestamp, t) ∷ (Phase, p) ∷ (Accepted, a) ∷ (Ballot, b) ∷ []) (λ ns. MRecAck (slice_index ns 0) (slice_index ns 1) (slice_index ns 2) (slice_index ns 3) (slice_index ns 4) (slice_index ns 5)) (sender_good r f small s x1.0, (id_good r f small i x2.0, (timestamp_good t x3.0, (phase_good p x4.0, (accepted_good a x5.0, (ballot_good b x6.0, tt)))))) (λ _. refl) refl refl (λ none. omega arith)
typed_reads_back r f small (MPromises s p) ty h =
    let x1 = fits_first _ _ _ h in let x2 = fits_first _ _ _ x1.1 in let x3 = fits_first _ _ _ x2.1 in
    promises_back r s p small ty (sender_good r f small s x1.0) x3.0

-- the numbers of a message with fixed fields may be anything
fixed_typed : (m : Message) → fixed m ≡ true → Typed m
fixed_typed (MPayload s i c set) on = tt
fixed_typed (MPropose s i c set t) on = tt
fixed_typed (MProposeAck s i t) on = tt
fixed_typed (MCommit s i t) on = tt
fixed_typed (MConsensus s i t b) on = tt
fixed_typed (MConsensusAck s i b) on = tt
fixed_typed (MRec s i b) on = tt
fixed_typed (MRecAck s i t p a b) on = tt
fixed_typed (MPromises s p) on = absurd (grind arith)

pub reads_back : ReadsBack
reads_back r f small m on h = typed_reads_back r f small m (fixed_typed m on) h
