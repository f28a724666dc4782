-- Sub-TLVs by kind, and what a run of them says of the fields of a value.
use Rattle.std.specs.Prelude.{ℕ, List, [], ◌∷◌, ◌++◌, map, Option, Some, None, IfSome, All}
use Rattle.std.specs.List.{flat_map}
use Rattle.sr_wire.specs.Tlv.{Tlv, tlv_text}
use Rattle.sr_wire.specs.Sub.{AddsAll, AddsFirst, AllSay, FirstSays}

-- a kind of sub-TLV: its type, what the octets of a value mean, the one spelling of a value, which values have one,
-- and which have numbers that fit their octets
pub record Sub (X : Type 0) : Type 1 where
  pub kind : ℕ
  pub means : List ℕ → X → Type 0
  pub value : X → List ℕ
  pub fits : X → Type 0
  pub widths : X → Type 0

-- the sub-TLV of a value
abbrev pub sub_of : {X : Type 0} → Sub X → X → Tlv
sub_of s x = record { kind = s.kind; value = s.value x }

-- the sub-TLV of a value that may be absent, as a list
abbrev pub sub_if_some : {X : Type 0} → Sub X → Option X → List Tlv
sub_if_some s None = []
sub_if_some s (Some x) = sub_of s x ∷ []

-- the octets of a value's sub-TLV
abbrev pub sub_text : {X : Type 0} → Sub X → X → List ℕ
sub_text s x = tlv_text (sub_of s x)

-- the octets of a value that may be absent
abbrev pub text_if_some : {X : Type 0} → (X → List ℕ) → Option X → List ℕ
text_if_some text None = []
text_if_some text (Some x) = text x

-- a field that sub-TLVs of one kind say: their type, what they say of the field, those in which it is written and
-- their octets, what one more adds, which fields have a spelling, and which have numbers that fit their octets
pub record Field (S : Type 0) : Type 1 where
  pub kind : ℕ
  pub says : List Tlv → S → Type 0
  pub subs : S → List Tlv
  pub text : S → List ℕ
  pub adds : Tlv → S → S → Type 0
  pub fits : S → Type 0
  pub widths : S → Type 0

-- the field is what the first of them says that says something
abbrev pub first_of : {S X : Type 0} → Sub X → (S → Option X) → Field S
first_of s get = record {
  kind = s.kind;
  says = λ subs x. FirstSays s.kind s.means subs (get x);
  subs = λ x. sub_if_some s (get x);
  text = λ x. text_if_some (sub_text s) (get x);
  adds = λ sub old new. AddsFirst s.kind s.means sub (get old) (get new);
  fits = λ x. IfSome (get x) s.fits;
  widths = λ x. IfSome (get x) s.widths;
}

-- the field is what all of them say that say something, in their order
abbrev pub all_of : {S X : Type 0} → Sub X → (S → List X) → Field S
all_of s get = record {
  kind = s.kind;
  says = λ subs x. AllSay s.kind s.means subs (get x);
  subs = λ x. map (sub_of s) (get x);
  text = λ x. flat_map (sub_text s) (get x);
  adds = λ sub old new. AddsAll s.kind s.means sub (get old) (get new);
  fits = λ x. All s.fits (get x);
  widths = λ x. All s.widths (get x);
}

-- the sub-TLVs say all the fields
abbrev pub SayFields : {S : Type 0} → List (Field S) → List Tlv → S → Type 0
SayFields [] subs x = Unit {0}
SayFields (f ∷ fs) subs x = f.says subs x × SayFields fs subs x

-- one more sub-TLV adds this to the fields
abbrev pub AddFields : {S : Type 0} → List (Field S) → Tlv → S → S → Type 0
AddFields [] sub old new = Unit {0}
AddFields (f ∷ fs) sub old new = f.adds sub old new × AddFields fs sub old new

-- the fields have a spelling
abbrev pub FitFields : {S : Type 0} → List (Field S) → S → Type 0
FitFields [] x = Unit {0}
FitFields (f ∷ fs) x = f.fits x × FitFields fs x

-- the numbers of the fields fit the octets in which they are written
abbrev pub HaveWidths : {S : Type 0} → List (Field S) → S → Type 0
HaveWidths [] x = Unit {0}
HaveWidths (f ∷ fs) x = f.widths x × HaveWidths fs x

-- the sub-TLVs in which the fields are written, in order of the fields
abbrev pub field_subs : {S : Type 0} → List (Field S) → S → List Tlv
field_subs [] x = []
field_subs (f ∷ fs) x = f.subs x ++ field_subs fs x

-- the octets of those sub-TLVs
abbrev pub fields_text : {S : Type 0} → List (Field S) → S → List ℕ
fields_text [] x = []
fields_text (f ∷ fs) x = f.text x ++ fields_text fs x
