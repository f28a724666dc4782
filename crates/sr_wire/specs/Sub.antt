-- Sub-TLVs of an entry or of a value, and what several of them say together.
use Rattle.std.specs.Prelude.{◌≡◌, ℕ, ◌⊎◌, List, [], ◌∷◌, ◌++◌, Option, Some, None, MatchOption}
use Rattle.sr_wire.specs.Tlv.{Tlv, tlv_text}
use Rattle.sr_wire.specs.declared.fault.Check.{Check}
use Rattle.sr_wire.specs.declared.fault.Check.TheVariants.{FieldExtent}
use Rattle.sr_wire.specs.Run.{Layout, IsRun, RunFault}

-- a sub-TLV has no fault inside: a value of another form is ignored
abbrev pub sub_layout : Layout Tlv
sub_layout = record { is = λ tlv. Unit {0}; text = tlv_text; fault = λ tlv at check. ⊥ }

-- the octets are these whole sub-TLVs
abbrev pub AreSubs : List ℕ → List Tlv → Type 0
AreSubs octets subs = IsRun sub_layout octets subs

-- the first sub-TLV that isn't whole: it passes the end of what holds it
abbrev pub SubFault : List ℕ → ℕ → Check → Type 0
SubFault octets at check = RunFault sub_layout FieldExtent octets at check

-- a sub-TLV of this type whose value says x
abbrev pub SubSays : {X : Type 0} → ℕ → (List ℕ → X → Type 0) → Tlv → X → Type 0
SubSays kind means sub x = (sub.kind ≡ kind) × means sub.value x

-- a sub-TLV says nothing of this kind: it has another type, or its value is ignored
abbrev pub SaysNothing : {X : Type 0} → ℕ → (List ℕ → X → Type 0) → Tlv → Type 0
SaysNothing {X = X} kind means sub = (x : X) → SubSays kind means sub x → ⊥

-- what the first sub-TLV says that says something
abbrev pub FirstSays : {X : Type 0} → ℕ → (List ℕ → X → Type 0) → List Tlv → Option X → Type 0
FirstSays kind means [] None = Unit {0}
FirstSays kind means [] (Some x) = ⊥
FirstSays kind means (sub ∷ subs) None = SaysNothing kind means sub × FirstSays kind means subs None
FirstSays kind means (sub ∷ subs) (Some x) =
    SubSays kind means sub x ⊎ (SaysNothing kind means sub × FirstSays kind means subs (Some x))

-- what all sub-TLVs say that say something, in their order
abbrev pub AllSay : {X : Type 0} → ℕ → (List ℕ → X → Type 0) → List Tlv → List X → Type 0
AllSay kind means [] xs = xs ≡ []
AllSay kind means (sub ∷ subs) [] = SaysNothing kind means sub × AllSay kind means subs []
AllSay kind means (sub ∷ subs) (x ∷ xs) =
    (SubSays kind means sub x × AllSay kind means subs xs)
    ⊎ (SaysNothing kind means sub × AllSay kind means subs (x ∷ xs))

-- what was said first, after one more sub-TLV
abbrev pub AddsFirst : {X : Type 0} → ℕ → (List ℕ → X → Type 0) → Tlv → Option X → Option X → Type 0
AddsFirst kind means sub None new = MatchOption new (SaysNothing kind means sub) (λ x. SubSays kind means sub x)
AddsFirst kind means sub (Some x) new = new ≡ Some x

-- all that was said, after one more sub-TLV
abbrev pub AddsAll : {X : Type 0} → ℕ → (List ℕ → X → Type 0) → Tlv → List X → List X → Type 0
AddsAll {X = X} kind means sub old new =
    (SaysNothing kind means sub × (new ≡ old)) ⊎ ((x : X) × SubSays kind means sub x × (new ≡ old ++ x ∷ []))
