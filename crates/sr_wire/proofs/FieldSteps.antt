-- One sub-TLV more, field by field. An `impl` of `SubTlvs` gives its law by these.
use Rattle.std.proofs.Common.{List, [], ◌∷◌, ◌++◌, Option}
use Rattle.sr_wire.specs.Tlv.{Tlv}
use Rattle.sr_wire.specs.Fields.{AddFields, Field, SayFields, Sub, all_of, first_of}
use Rattle.sr_wire.proofs.SubLemmas.{all_more_say, first_more}

-- with what one more adds, what was said of the field is what all say
abbrev pub Grows : {S : Type 0} → Field S → Type 0
Grows {S = S} f = (subs : List Tlv) (sub : Tlv) (old new : S) → f.says subs old → f.adds sub old new → f.says (subs ++ sub ∷ []) new

-- so it is with what the first sub-TLV says
pub first_grows : {S X : Type 0} (s : Sub X) (get : S → Option X) → Grows (first_of s get)
first_grows s get = λ subs sub old new says adds. first_more s.kind s.means subs sub (get old) (get new) says adds

-- so it is with what all say
pub all_grows : {S X : Type 0} (s : Sub X) (get : S → List X) → Grows (all_of s get)
all_grows s get = λ subs sub old new says adds. all_more_say s.kind s.means subs sub (get old) (get new) says adds

-- so it is with each field
abbrev pub AllGrow : {S : Type 0} → List (Field S) → Type 0
AllGrow [] = Unit {0}
AllGrow (f ∷ fs) = Grows f × AllGrow fs

-- then it is so with all fields together
pub fields_grow : {S : Type 0} (fs : List (Field S)) → AllGrow fs → (subs : List Tlv) (sub : Tlv) (old new : S) → SayFields fs subs old → AddFields fs sub old new → SayFields fs (subs ++ sub ∷ []) new
fields_grow [] grow subs sub old new says adds = tt
fields_grow (f ∷ fs) grow subs sub old new says adds = (grow.0 subs sub old new says.0 adds.0, fields_grow fs grow.1 subs sub old new says.1 adds.1)
