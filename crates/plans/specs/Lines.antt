-- What the words of a plan's line ask for.
use Rattle.std.specs.Prelude.{◌≡◌, ℕ, zero, suc, ◌^◌, ◌<◌, Bool, false, cond, ◌&&◌, List, [], ◌∷◌, ◌++◌, length, Some, None, Ok, Err, codes, Option, Result, nat_lt}
use Rattle.std.specs.Option.{option_map, option_or}
use Rattle.std.specs.Str.Parse.{without_leading_plus, digits_value}
use Rattle.std.specs.Char.{is_whitespace, is_not_whitespace}
use Rattle.std.specs.Str.{NoCharPasses, EmptyOrStartsWithPassing, bytes_eq, all_ascii_digits}
use denote.Ref.{Bor}
use Rattle.schedule.specs.Changes.{department_number, kind_number}
use Rattle.schedule.specs.Changes as changes
use Rattle.schedule.specs.declared.change.Change.{Change}
use Rattle.plans.specs.declared.request.Misread.{Misread}
use Rattle.plans.specs.declared.request.Misread.TheVariants as misread
use Rattle.plans.specs.declared.request.Request.{Request}
use Rattle.plans.specs.declared.request.Request.TheVariants as request

-- bs is white space, the word w, and rest, which is empty or begins with white space
pub record First (bs w rest : List ℕ) : Type 0 where
  pub gap : List ℕ
  pub cut : bs ≡ gap ++ (w ++ rest)
  pub some : 0 < length w
  pub blank : NoCharPasses is_not_whitespace gap
  pub solid : NoCharPasses is_whitespace w
  pub ends : (more : List ℕ) × EmptyOrStartsWithPassing is_whitespace rest more

-- the words of bs, or the first n of them where there are more (in UTF-8 text there is one such list alone)
abbrev pub FirstWords : ℕ → List ℕ → List (List ℕ) → Type 0
FirstWords zero bs words = words ≡ []
FirstWords (suc n) bs [] = NoCharPasses is_not_whitespace bs
FirstWords (suc n) bs (w ∷ words) = (rest : List ℕ) × First bs w rest × FirstWords n rest words

-- the words that calls of `next` found, up to the first that found none
abbrev pub found : List (Option (Bor (List ℕ))) → List (List ℕ)
found [] = []
found (None ∷ nexts) = []
found (Some w ∷ nexts) = w.now ∷ found nexts

abbrev pub some_digits : List ℕ → Bool
some_digits [] = false
some_digits (c ∷ cs) = all_ascii_digits (c ∷ cs)

-- digits, with a plus before them or none, that write a number of 32 bits
abbrev pub number_of : List ℕ → Option ℕ
number_of w = cond (some_digits (without_leading_plus w) && nat_lt (digits_value 10 (without_leading_plus w)) (2 ^ 32)) (Some (digits_value 10 (without_leading_plus w))) None

-- the number of what has the name, or the number that the word writes
abbrev pub department_named : List ℕ → Option ℕ
department_named w = option_or (option_map department_number (changes.department_named w)) (number_of w)

abbrev pub kind_named : List ℕ → Option ℕ
kind_named w = option_or (option_map kind_number (changes.kind_named w)) (number_of w)

-- a number that was read, or the reason that the word is none; then what goes on with it
abbrev pub with_number : {X : Type 0} → Option ℕ → Misread → (ℕ → Result X Misread) → Result X Misread
with_number None why go = Err why
with_number (Some n) why go = go n

abbrev pub place_named : List ℕ → List ℕ → Result (ℕ × ℕ) Misread
place_named h s = with_number (number_of h) misread.NoHour (λ hn. with_number (number_of s) misread.NoSlot (λ sn. Ok (hn, sn)))

-- what goes on with what was read, unless it was not
abbrev pub with_read : {X Y : Type 0} → Result X Misread → (X → Result Y Misread) → Result Y Misread
with_read (Ok x) go = go x
with_read (Err why) go = Err why

abbrev pub change_named : List ℕ → List ℕ → List ℕ → List ℕ → List ℕ → Result Change Misread
change_named d k h s v =
    with_number (department_named d) misread.NoDepartment (λ dn.
    with_number (kind_named k) misread.NoKind (λ kn.
    with_read (place_named h s) (λ p.
    with_number (number_of v) misread.NoValue (λ vn. Ok (record { department = dn; kind = kn; hour = p.0; slot = p.1; value = vn })))))

abbrev pub reading : Result (ℕ × ℕ) Misread → Result Request Misread
reading place = with_read place (λ p. Ok (request.Reading p.0 p.1))

abbrev pub carrying : Result Change Misread → Result Request Misread
carrying change = with_read change (λ c. Ok (request.Carrying c))

-- three words that begin with `read`, or the five of a change
abbrev pub asked_by : List (List ℕ) → Result Request Misread
asked_by [] = Err misread.OtherWords
asked_by (a ∷ []) = Err misread.OtherWords
asked_by (a ∷ b ∷ []) = Err misread.OtherWords
asked_by (a ∷ h ∷ s ∷ []) = cond (bytes_eq a (codes "read")) (reading (place_named h s)) (Err misread.OtherWords)
asked_by (a ∷ b ∷ c ∷ d ∷ []) = Err misread.OtherWords
asked_by (d ∷ k ∷ h ∷ s ∷ v ∷ []) = carrying (change_named d k h s v)
asked_by (a ∷ b ∷ c ∷ d ∷ e ∷ f ∷ more) = Err misread.OtherWords
