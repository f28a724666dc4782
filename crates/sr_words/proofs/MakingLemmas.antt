-- What a typed getter of clap says of an option's number, and what a parse says of the words.
use Rattle.std.proofs.Common.{◌≡◌, ◌≤◌, ◌^◌, ◌<◌, ℕ, List, [], Option, Some, None, Result, Ok, Err, refl, sym, subst, ◌∙◌, arith}
use Rattle.std.specs.Str.Parse.{ParsesUnsigned}
use Rattle.clap.specs.Faults.{fault_of}
use Rattle.clap.specs.Matches.{ReadsOne}
use Rattle.clap.specs.Simple.{matches_of}
use Rattle.clap.specs.Walk.{Row, Text, one_of}
use Rattle.sr_words.specs.Making.{Ranged, make_command, HasNumber, ShowNumbers, AreNumbersOf}

-- how a getter reads a number of 32 bits in a text
abbrev pub Reader : Type 0 → Type 1
Reader E = (gives : List ℕ → Result ℕ E → Type 0) × ((t : Text) (x : Result ℕ E) → gives t x → ParsesUnsigned 32 10 t x)

-- such a reader that says more besides
abbrev pub reader_of : {E : Type 0} (P Q : (t : Text) → Result ℕ E → Type 0) → Reader E
reader_of P Q = ((λ t x. ParsesUnsigned 32 10 t x × P t x × Q t x), λ t x h. h.0)

-- what such a getter says of a text that the rows show
abbrev pub Got : {E : Type 0} → Reader E → Ranged → List Row → Option ℕ → Type 0
Got reader range rows r = (t : Text) → one_of range.name rows ≡ Some t → ReadsOne reader.0 t r

module _ (E : Type 0) (reader : Reader E) (range : Ranged) (rows : List Row) where
  -- a number of this range that was read
  pub shown : (n : ℕ) → (one_of range.name rows ≡ None → Some n ≡ None) → Got reader range rows (Some n)
      → range.least ≤ n → n ≤ range.most → HasNumber range rows n
  shown n none value low high = go (one_of range.name rows) refl
    where
      go : (o : Option Text) → one_of range.name rows ≡ o → HasNumber range rows n
      go None is = let bad = none is in absurd (cc bad)
      go (Some t) is = let h = reader.1 t (Ok n) (value t is) in record { text = t; given = is; numeral = h.0.0; value = h.1; enough = low; few = high }

  -- a number of another range
  pub outside : (n : ℕ) → Got reader range rows (Some n) → (range.least ≤ n → range.most < n) → (m : ℕ) → ¬ HasNumber range rows m
  outside n value out m has =
      let h = reader.1 has.text (Ok n) (value has.text has.given) in
      let is : m ≡ n = has.value ∙ sym h.1 in
      absurd (omega (arith, out (omega (arith, has.enough)), has.few))

  -- no number of 32 bits
  pub unread : range.most < 2 ^ 32 → Got reader range rows None → (m : ℕ) → ¬ HasNumber range rows m
  unread fits value m has =
      let h = value has.text has.given in
      reader.1 has.text (Err h.0) h.1 (has.numeral, omega (arith, has.value, has.few))

-- the numbers of the matches are those that the words give
pub given : (words : List Text) (rows : List Row) → rows ≡ matches_of make_command words → fault_of make_command words ≡ []
    → (r : Option (ℕ × ℕ)) → ShowNumbers rows r → AreNumbersOf words r
given words rows found fine (Some p) shows = record { taken = fine; shown = subst (λ (m : List Row). ShowNumbers m (Some p)) found shows }
given words rows found fine None shows = λ numbers gives. subst (λ (m : List Row). ShowNumbers m None) found shows numbers gives.shown
