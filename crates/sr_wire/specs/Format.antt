-- Formats: what octets say, and the first fault in them; and tables of kinds of TLVs, each with its format.
use Rattle.std.specs.Prelude.{◌≡◌, ℕ, ◌+◌, ◌==◌, List, [], ◌∷◌, ◌++◌, MatchBool}
use Rattle.sr_wire.specs.declared.fault.Check.{Check}
use Rattle.sr_wire.specs.Run.{Layout, IsRun, RunFault}
use Rattle.sr_wire.specs.Tlv.{Tlv, tlv_text}

-- what octets say, in their order, and the faults in them, by their places
pub record Format (X : Type 0) : Type 1 where
  pub says : List ℕ → List X → Type 0
  pub fault : List ℕ → ℕ → Check → Type 0

-- octets that say one value, as a part
abbrev pub one_part : {P X : Type 0} → (X → P) → (List ℕ → X → Type 0) → (List ℕ → ℕ → Check → Type 0) → Format P
one_part {X = X} part means fault = record {
  says = λ octets parts. (x : X) × means octets x × (parts ≡ part x ∷ []);
  fault = fault;
}

-- what each piece says, one after another
abbrev pub EachSays : {E X : Type 0} → (E → List X → Type 0) → List E → List X → Type 0
EachSays says [] xs = xs ≡ []
EachSays {X = X} says (e ∷ es) xs =
    (own : List X) × (more : List X) × says e own × EachSays says es more × (xs ≡ own ++ more)

-- octets are a run of pieces, each of which says something
pub record SaysRun {E X : Type 0} (layout : Layout E) (says : E → List X → Type 0) (octets : List ℕ)
    (xs : List X) : Type 0 where
  pub pieces : List E
  pub run : IsRun layout octets pieces
  pub say : EachSays says pieces xs

-- a run, whose own check is that each piece is whole
abbrev pub run_of : {E X : Type 0} → Layout E → Check → (E → List X → Type 0) → Format X
run_of layout own says = record { says = SaysRun layout says; fault = RunFault layout own }

-- a kind of TLV: its type, the part of a PDU that a value is, what the octets of a value say as parts, the one
-- spelling of a value, which values have one, and which have numbers that fit their octets
pub record Kind (P X : Type 0) : Type 1 where
  pub kind : ℕ
  pub part : X → P
  pub format : Format P
  pub value : X → List ℕ
  pub fits : X → Type 0
  pub widths : X → Type 0

-- a value in a TLV of its own
abbrev pub kind_text : {P X : Type 0} → Kind P X → X → List ℕ
kind_text k x = tlv_text (record { kind = k.kind; value = k.value x })

-- a row of a table of kinds: a type, and what the octets of a value say as parts of a PDU
pub record Row (P : Type 0) : Type 1 where
  pub kind : ℕ
  pub format : Format P

-- the row of a kind
abbrev pub row_of : {P X : Type 0} → Kind P X → Row P
row_of k = record { kind = k.kind; format = k.format }

-- no row has this type
abbrev pub NoRow : {P : Type 0} → List (Row P) → ℕ → Type 0
NoRow [] kind = Unit {0}
NoRow (r ∷ rs) kind = (kind ≡ r.kind → ⊥) × NoRow rs kind

-- what a TLV says: what the row of its type tells, and nothing where there is none
abbrev pub TlvSays : {P : Type 0} → List (Row P) → Tlv → List P → Type 0
TlvSays [] tlv parts = parts ≡ []
TlvSays (r ∷ rs) tlv parts = MatchBool (tlv.kind == r.kind) (r.format.says tlv.value parts) (TlvSays rs tlv parts)

-- a fault inside a TLV's value, by its place in the value
abbrev pub ValueFault : {P : Type 0} → List (Row P) → Tlv → ℕ → Check → Type 0
ValueFault [] tlv at check = ⊥
ValueFault (r ∷ rs) tlv at check =
    MatchBool (tlv.kind == r.kind) (r.format.fault tlv.value at check) (ValueFault rs tlv at check)

-- TLVs, whose values stand behind two octets
abbrev pub tlv_layout : {P : Type 0} → List (Row P) → Layout Tlv
tlv_layout rows = record {
  is = λ tlv. Unit {0};
  text = tlv_text;
  fault = λ tlv at check. (inside : ℕ) × ValueFault rows tlv inside check × (at ≡ 2 + inside);
}

-- a part as it is written: the type and the value of its TLV, whether it has a spelling, and whether its numbers fit
-- their octets
pub record Spelling : Type 1 where
  pub kind : ℕ
  pub value : List ℕ
  pub fits : Type 0
  pub widths : Type 0

-- a value of a kind as it is written
abbrev pub spelling_of : {P X : Type 0} → Kind P X → X → Spelling
spelling_of k x = record { kind = k.kind; value = k.value x; fits = k.fits x; widths = k.widths x }
