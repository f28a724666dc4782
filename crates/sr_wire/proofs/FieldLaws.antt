-- The laws of fields that sub-TLVs say, each proved once from what a kind of sub-TLV carries.
use Rattle.std.proofs.Common.{◌≡◌, ◌≢◌, ℕ, ◌+◌, ◌<◌, ◌≤◌, inl, inr, List, [], ◌∷◌, ◌++◌, length, map, refl, sym, ap, ◌∙◌, subst, arith, append_assoc, Option, Some, None, IfSome}
use Rattle.std.specs.List.{AllByRecursion, flat_map}
use Rattle.std.proofs.lemmas.Grind.{flat_map-append}
use Rattle.std.proofs.lemmas.List.{append-nil}
use Rattle.std.proofs.lemmas.List.Folds.{flat_map-map}
use Rattle.std.proofs.lemmas.List.Elements.{All-from_recursion, recursion_from_All}
use Rattle.sr_wire.specs.declared.fault.Check.{Check}
use Rattle.sr_wire.specs.Tlv.{Tlv, tlv_text}
use Rattle.sr_wire.specs.Sub.{AllSay, AreSubs, FirstSays, SubFault, sub_layout}
use Rattle.sr_wire.specs.Fields.{Field, FitFields, HaveWidths, SayFields, Sub, all_of, field_subs, fields_text, first_of, sub_if_some, sub_of, sub_text, text_if_some}
use Rattle.sr_wire.proofs.OctetLemmas.{AreOctets, octets_back, octets_front, octets_same}
use Rattle.sr_wire.proofs.SameRunLemmas.{same_run, same_run_fault, SamePlace}
use Rattle.sr_wire.proofs.TlvLemmas.{any_tlvs, tlv_code}

-- what a kind of sub-TLV carries: octets mean at most one value, a written value is meant again, and a value of octets fits
pub record SubLaws {X : Type 0} (s : Sub X) : Type 0 where
  pub one : (octets : List ℕ) (x y : X) → s.means octets x → s.means octets y → x ≡ y
  pub again : (x : X) → s.fits x → s.widths x → s.means (s.value x) x
  pub fit : (octets : List ℕ) (x : X) → AreOctets octets → s.means octets x → s.fits x

-- all have other types
abbrev pub HaveOther : ℕ → List Tlv → Type 0
HaveOther kind subs = AllByRecursion (λ sub. sub.kind ≢ kind) subs

-- what follows of a field: it is read again among sub-TLVs of other types, and fits where it is read
pub record FieldLaws {S : Type 0} (f : Field S) : Type 0 where
  pub own : (x : S) → f.fits x → f.widths x → f.says (f.subs x) x
  pub kinds : (x : S) → AllByRecursion (λ sub. sub.kind ≡ f.kind) (f.subs x)
  pub before : (front subs : List Tlv) (x : S) → HaveOther f.kind front → f.says subs x → f.says (front ++ subs) x
  pub behind : (subs back : List Tlv) (x : S) → HaveOther f.kind back → f.says subs x → f.says (subs ++ back) x
  pub fit : (subs : List Tlv) (x : S) → AreOctets (flat_map tlv_text subs) → f.says subs x → f.fits x
  pub text : (x : S) → f.text x ≡ flat_map tlv_text (f.subs x)

-- sub-TLVs of other types say nothing first
first_none : {X : Type 0} (kind : ℕ) (means : List ℕ → X → Type 0) (subs : List Tlv) → HaveOther kind subs → FirstSays kind means subs None
first_none kind means [] other = tt
first_none kind means (s ∷ ss) other = (λ x says. other.0 says.0, first_none kind means ss other.1)

-- nor do they where they stand in front
first_before : {X : Type 0} (kind : ℕ) (means : List ℕ → X → Type 0) (front subs : List Tlv) (o : Option X) → HaveOther kind front → FirstSays kind means subs o
    → FirstSays kind means (front ++ subs) o
first_before kind means [] subs o other says = says
first_before kind means (s ∷ ss) subs None other says = (λ x told. other.0 told.0, first_before kind means ss subs None other.1 says)
first_before kind means (s ∷ ss) subs (Some x) other says = inr (λ y told. other.0 told.0, first_before kind means ss subs (Some x) other.1 says)

-- nor behind
first_behind : {X : Type 0} (kind : ℕ) (means : List ℕ → X → Type 0) (subs back : List Tlv) (o : Option X) → HaveOther kind back → FirstSays kind means subs o
    → FirstSays kind means (subs ++ back) o
first_behind kind means [] back None other says = first_none kind means back other
first_behind kind means [] back (Some x) other says = absurd says
first_behind kind means (s ∷ ss) back None other says = (says.0, first_behind kind means ss back None other says.1)
first_behind kind means (s ∷ ss) back (Some x) other says = elim says [ inl told ↦ inl told | inr later ↦ inr (later.0, first_behind kind means ss back (Some x) other later.1) ]

-- the sub-TLV in which a value is written says that value first
first_own : {X : Type 0} (s : Sub X) → SubLaws s → (o : Option X) → IfSome o s.fits → IfSome o s.widths → FirstSays s.kind s.means (sub_if_some s o) o
first_own s laws None fits widths = tt
first_own s laws (Some x) fits widths = inl (refl, laws.again x fits widths)

-- it has the type of its kind
first_kinds : {X : Type 0} (s : Sub X) (o : Option X) → AllByRecursion (λ sub. sub.kind ≡ s.kind) (sub_if_some s o)
first_kinds s None = tt
first_kinds s (Some x) = (refl, tt)

-- the octets of the first sub-TLV's value
pub value_octets : (sub : Tlv) (more : List ℕ) → AreOctets (tlv_text sub ++ more) → AreOctets sub.value
value_octets sub more small = octets_front sub.value more (octets_back (sub.kind ∷ length sub.value ∷ []) (sub.value ++ more) small)

-- what sub-TLVs of octets say first fits
first_fit : {X : Type 0} (s : Sub X) → SubLaws s → (subs : List Tlv) (o : Option X) → AreOctets (flat_map tlv_text subs) → FirstSays s.kind s.means subs o → IfSome o s.fits
first_fit s laws [] None small first = tt
first_fit s laws [] (Some x) small first = absurd first
first_fit s laws (t ∷ ts) None small first = tt
first_fit s laws (t ∷ ts) (Some x) small first =
    elim first [
      | inl says ↦ laws.fit t.value x (value_octets t (flat_map tlv_text ts) small) says.1
      | inr other ↦ first_fit s laws ts (Some x) (octets_back (tlv_text t) (flat_map tlv_text ts) small) other.1
    ]

-- the octets of a value that may be absent are those of its sub-TLVs
first_text : {X : Type 0} (s : Sub X) (o : Option X) → text_if_some (sub_text s) o ≡ flat_map tlv_text (sub_if_some s o)
first_text s None = refl
first_text s (Some x) = sym (append-nil (sub_text s x))

-- the laws of a field that the first sub-TLV says
pub first_laws : {S X : Type 0} (s : Sub X) → SubLaws s → (get : S → Option X) → FieldLaws (first_of s get)
first_laws s laws get = record {
  own = λ x fits widths. first_own s laws (get x) fits widths;
  kinds = λ x. first_kinds s (get x);
  before = λ front subs x other says. first_before s.kind s.means front subs (get x) other says;
  behind = λ subs back x other says. first_behind s.kind s.means subs back (get x) other says;
  fit = λ subs x small says. first_fit s laws subs (get x) small says;
  text = λ x. first_text s (get x);
}

-- sub-TLVs of other types add nothing to what all say
all_none : {X : Type 0} (kind : ℕ) (means : List ℕ → X → Type 0) (subs : List Tlv) → HaveOther kind subs → AllSay kind means subs []
all_none kind means [] other = refl
all_none kind means (s ∷ ss) other = (λ x told. other.0 told.0, all_none kind means ss other.1)

-- nor do they where they stand in front
all_before : {X : Type 0} (kind : ℕ) (means : List ℕ → X → Type 0) (front subs : List Tlv) (xs : List X) → HaveOther kind front → AllSay kind means subs xs → AllSay kind means (front ++ subs) xs
all_before kind means [] subs xs other say = say
all_before kind means (s ∷ ss) subs [] other say = (λ x told. other.0 told.0, all_before kind means ss subs [] other.1 say)
all_before kind means (s ∷ ss) subs (x ∷ xs) other say = inr (λ y told. other.0 told.0, all_before kind means ss subs (x ∷ xs) other.1 say)

-- nor behind
all_behind : {X : Type 0} (kind : ℕ) (means : List ℕ → X → Type 0) (subs back : List Tlv) (xs : List X) → HaveOther kind back → AllSay kind means subs xs → AllSay kind means (subs ++ back) xs
all_behind kind means [] back [] other say = all_none kind means back other
all_behind kind means [] back (x ∷ xs) other say = absurd {0} (cc)
all_behind kind means (s ∷ ss) back [] other say = (say.0, all_behind kind means ss back [] other say.1)
all_behind kind means (s ∷ ss) back (x ∷ xs) other say =
    elim say [ inl told ↦ inl (told.0, all_behind kind means ss back xs other told.1) | inr later ↦ inr (later.0, all_behind kind means ss back (x ∷ xs) other later.1) ]

-- the sub-TLVs in which values are written say those values
all_own : {X : Type 0} (s : Sub X) → SubLaws s → (xs : List X) → AllByRecursion s.fits xs → AllByRecursion s.widths xs → AllSay s.kind s.means (map (sub_of s) xs) xs
all_own s laws [] fits widths = refl
all_own s laws (x ∷ xs) fits widths = inl ((refl, laws.again x fits.0 widths.0), all_own s laws xs fits.1 widths.1)

-- they have the type of their kind
all_kinds : {X : Type 0} (s : Sub X) (xs : List X) → AllByRecursion (λ sub. sub.kind ≡ s.kind) (map (sub_of s) xs)
all_kinds s [] = tt
all_kinds s (x ∷ xs) = (refl, all_kinds s xs)

-- what all sub-TLVs of octets say fits
all_fit : {X : Type 0} (s : Sub X) → SubLaws s → (subs : List Tlv) (xs : List X) → AreOctets (flat_map tlv_text subs) → AllSay s.kind s.means subs xs → AllByRecursion s.fits xs
all_fit s laws [] [] small all = tt
all_fit s laws [] (x ∷ xs) small all = absurd {0} (cc)
all_fit s laws (t ∷ ts) [] small all = tt
all_fit s laws (t ∷ ts) (x ∷ xs) small all =
    let more : AreOctets (flat_map tlv_text ts) = octets_back (tlv_text t) (flat_map tlv_text ts) small in
    elim all [
      | inl says ↦ (laws.fit t.value x (value_octets t (flat_map tlv_text ts) small) says.0.1, all_fit s laws ts xs more says.1)
      | inr other ↦ all_fit s laws ts (x ∷ xs) more other.1
    ]

-- the laws of a field that all sub-TLVs say
pub all_laws : {S X : Type 0} (s : Sub X) → SubLaws s → (get : S → List X) → FieldLaws (all_of s get)
all_laws s laws get = record {
  own = λ x fits widths. all_own s laws (get x) (recursion_from_All s.fits (get x) fits) (recursion_from_All s.widths (get x) widths);
  kinds = λ x. all_kinds s (get x);
  before = λ front subs x other says. all_before s.kind s.means front subs (get x) other says;
  behind = λ subs back x other says. all_behind s.kind s.means subs back (get x) other says;
  fit = λ subs x small says. All-from_recursion s.fits (get x) (all_fit s laws subs (get x) small says);
  text = λ x. sym (flat_map-map tlv_text (sub_of s) (get x));
}

-- one value: what is said first, and all that is said
pub same_first : {X : Type 0} (s : Sub X) → SubLaws s → (subs : List Tlv) (x y : Option X) → FirstSays s.kind s.means subs x → FirstSays s.kind s.means subs y → x ≡ y
same_first s laws [] None None a b = refl
same_first s laws [] None (Some y) a b = absurd b
same_first s laws [] (Some x) y a b = absurd a
same_first s laws (t ∷ ts) None None a b = refl
same_first s laws (t ∷ ts) None (Some y) a b = elim b [ inl says ↦ absurd (a.0 y says) | inr later ↦ same_first s laws ts None (Some y) a.1 later.1 ]
same_first s laws (t ∷ ts) (Some x) None a b = elim a [ inl says ↦ absurd (b.0 x says) | inr later ↦ same_first s laws ts (Some x) None later.1 b.1 ]
same_first s laws (t ∷ ts) (Some x) (Some y) a b =
    elim a [
      | inl says ↦ elim b [ inl told ↦ ap Some (laws.one t.value x y says.1 told.1) | inr later ↦ absurd (later.0 x says) ]
      | inr later ↦ elim b [ inl told ↦ absurd (later.0 y told) | inr after ↦ same_first s laws ts (Some x) (Some y) later.1 after.1 ]
    ]

-- sub-TLVs say one list of values together
pub same_all : {X : Type 0} (s : Sub X) → SubLaws s → (subs : List Tlv) (xs ys : List X) → AllSay s.kind s.means subs xs → AllSay s.kind s.means subs ys → xs ≡ ys
same_all s laws [] xs ys a b = a ∙ sym b
same_all s laws (t ∷ ts) [] [] a b = refl
same_all s laws (t ∷ ts) [] (y ∷ ys) a b = elim b [ inl says ↦ absurd (a.0 y says.0) | inr later ↦ same_all s laws ts [] (y ∷ ys) a.1 later.1 ]
same_all s laws (t ∷ ts) (x ∷ xs) [] a b = elim a [ inl says ↦ absurd (b.0 x says.0) | inr later ↦ same_all s laws ts (x ∷ xs) [] later.1 b.1 ]
same_all s laws (t ∷ ts) (x ∷ xs) (y ∷ ys) a b =
    elim a [
      | inl says ↦ elim b [
        | inl told ↦ ap (λ z. z ∷ xs) (laws.one t.value x y says.0.1 told.0.1) ∙ ap (λ zs. y ∷ zs) (same_all s laws ts xs ys says.1 told.1)
        | inr later ↦ absurd (later.0 x says.0)
      ]
      | inr later ↦ elim b [ inl told ↦ absurd (later.0 y told.0) | inr after ↦ same_all s laws ts (x ∷ xs) (y ∷ ys) later.1 after.1 ]
    ]

-- one run
pub same_subs : (octets : List ℕ) (xs ys : List Tlv) → AreSubs octets xs → AreSubs octets ys → xs ≡ ys
same_subs octets xs ys a b = same_run sub_layout tlv_code octets xs ys a b

-- a run of sub-TLVs has one first fault
pub same_sub_fault : (octets : List ℕ) (at other : ℕ) (check check' : Check) → SubFault octets at check → SubFault octets other check' → SamePlace at other check check'
same_sub_fault octets at other check check' a b = same_run_fault sub_layout tlv_code (λ x i j c d never _. absurd never) _ octets at other check check' a b

-- the types of the fields ascend, the first from here
abbrev pub Ascend : {S : Type 0} → ℕ → List (Field S) → Type 0
Ascend least [] = Unit {0}
Ascend least (f ∷ fs) = (least ≤ f.kind) × Ascend (f.kind + 1) fs

-- the laws of each field
abbrev pub FieldsLaws : {S : Type 0} → List (Field S) → Type 0
FieldsLaws [] = Unit {0}
FieldsLaws (f ∷ fs) = FieldLaws f × FieldsLaws fs

-- what holds of two lists holds of both together
pub all_both : {X : Type 0} (P : X → Type 0) (xs ys : List X) → AllByRecursion P xs → AllByRecursion P ys → AllByRecursion P (xs ++ ys)
all_both P [] ys all more = more
all_both P (x ∷ xs) ys all more = (all.0, all_both P xs ys all.1 more)

-- what follows of each item holds of all
weaker : {X : Type 0} (P Q : X → Type 0) → ((x : X) → P x → Q x) → (xs : List X) → AllByRecursion P xs → AllByRecursion Q xs
weaker P Q step [] all = tt
weaker P Q step (x ∷ xs) all = (step x all.0, weaker P Q step xs all.1)

-- sub-TLVs below a type, and those of the fields from it on, have another
others_below : (kind least : ℕ) (subs : List Tlv) → least ≤ kind → AllByRecursion (λ sub. sub.kind < least) subs → HaveOther kind subs
others_below kind least subs most below = weaker (λ sub. sub.kind < least) (λ sub. sub.kind ≢ kind) (λ sub (under : sub.kind < least) (same : sub.kind ≡ kind). absurd (omega arith)) subs below

-- so have those of the fields whose types are above
others_above : {S : Type 0} (kind least : ℕ) (fs : List (Field S)) (x : S) → kind < least → Ascend least fs → FieldsLaws fs → HaveOther kind (field_subs fs x)
others_above kind least [] x above ascend laws = tt
others_above kind least (f ∷ fs) x above ascend laws =
    let here : least ≤ f.kind = ascend.0 in
    all_both (λ sub. sub.kind ≢ kind) (f.subs x) (field_subs fs x)
    (weaker (λ sub. sub.kind ≡ f.kind) (λ sub. sub.kind ≢ kind) (λ sub (own : sub.kind ≡ f.kind) (same : sub.kind ≡ kind). absurd (omega arith)) (f.subs x) (laws.0.kinds x))
    (others_above kind (f.kind + 1) fs x (omega arith) ascend.1 laws.1)

-- fields that are written in order of their types are said again
again_behind : {S : Type 0} (front : List Tlv) (least : ℕ) (fs : List (Field S)) (x : S) → AllByRecursion (λ sub. sub.kind < least) front → Ascend least fs → FieldsLaws fs → FitFields fs x → HaveWidths fs x
    → SayFields fs (front ++ field_subs fs x) x
again_behind front least [] x below ascend laws fits widths = tt
again_behind front least (f ∷ fs) x below ascend laws fits widths =
    let rest = field_subs fs x in
    let here : least ≤ f.kind = ascend.0 in
    let P : List Tlv → Type 0 = λ subs. SayFields fs subs x in
    let under : AllByRecursion (λ sub. sub.kind < f.kind + 1) (front ++ f.subs x) =
    all_both (λ sub. sub.kind < f.kind + 1) front (f.subs x) (weaker (λ sub. sub.kind < least) (λ sub. sub.kind < f.kind + 1) (λ sub (low : sub.kind < least). omega arith) front below)
    (weaker (λ sub. sub.kind ≡ f.kind) (λ sub. sub.kind < f.kind + 1) (λ sub (own : sub.kind ≡ f.kind). omega arith) (f.subs x) (laws.0.kinds x)) in (
      laws.0.before front (f.subs x ++ rest) x (others_below f.kind least front here below)
          (laws.0.behind (f.subs x) rest x (others_above f.kind (f.kind + 1) fs x (omega arith) ascend.1 laws.1) (laws.0.own x fits.0 widths.0)),
      subst P (append_assoc front (f.subs x) rest) (again_behind (front ++ f.subs x) (f.kind + 1) fs x under ascend.1 laws.1 fits.1 widths.1),
    )

-- the sub-TLVs in which fields are written say the fields
pub fields_again : {S : Type 0} (fs : List (Field S)) (x : S) → Ascend 0 fs → FieldsLaws fs → FitFields fs x → HaveWidths fs x → SayFields fs (field_subs fs x) x
fields_again fs x ascend laws fits widths = again_behind [] 0 fs x tt ascend laws fits widths

-- sub-TLVs have no fault inside
no_faults : (subs : List Tlv) → AllByRecursion (λ sub. (at : ℕ) (check : Check) → ⊥ → ⊥) subs
no_faults [] = tt
no_faults (s ∷ ss) = (λ at check never. never, no_faults ss)

-- the octets that are written are those of the sub-TLVs
pub fields_text-subs : {S : Type 0} (fs : List (Field S)) → FieldsLaws fs → (x : S) → fields_text fs x ≡ flat_map tlv_text (field_subs fs x)
fields_text-subs [] laws x = refl
fields_text-subs (f ∷ fs) laws x =
    ap (λ (xs : List ℕ). xs ++ fields_text fs x) (laws.0.text x) ∙ ap (λ (xs : List ℕ). flat_map tlv_text (f.subs x) ++ xs) (fields_text-subs fs laws.1 x)
    ∙ sym (flat_map-append tlv_text (f.subs x) (field_subs fs x))

-- octets of sub-TLVs are those sub-TLVs
pub are_subs : (octets : List ℕ) (subs : List Tlv) → octets ≡ flat_map tlv_text subs → AreSubs octets subs
are_subs octets subs text = record { text = text; each = any_tlvs subs; sound = no_faults subs }

-- fields of octets fit
pub fields_fit : {S : Type 0} (fs : List (Field S)) → FieldsLaws fs → (octets : List ℕ) (subs : List Tlv) (x : S) → AreOctets octets → AreSubs octets subs → SayFields fs subs x → FitFields fs x
fields_fit [] laws octets subs x small are say = tt
fields_fit (f ∷ fs) laws octets subs x small are say =
    (laws.0.fit subs x (octets_same octets (flat_map tlv_text subs) are.text small) say.0, fields_fit fs laws.1 octets subs x small are say.1)
