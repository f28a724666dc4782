-- The laws of formats, each proved once: of runs from what a piece carries, and of a table of kinds from what a row carries.
use Rattle.std.proofs.Common.{◌≡◌, ◌==◌, Bool, true, false, MatchBool, ℕ, ◌+◌, ◌≤◌, List, [], ◌∷◌, ◌++◌, length, drop, map, refl, sym, ap, ◌∙◌, subst, arith, append_assoc}
use Rattle.std.specs.List.{All, AllByRecursion, flat_map}
use Rattle.std.proofs.lemmas.Bool.{eqb-true}
use Rattle.std.proofs.lemmas.List.{append-nil}
use Rattle.std.proofs.lemmas.List.Folds.{flat_map-map}
use Rattle.std.proofs.lemmas.List.Elements.{All-from_recursion, recursion_from_All}
use Rattle.sr_wire.specs.declared.fault.Check.{Check}
use Rattle.sr_wire.specs.declared.fault.Check.TheVariants.{TlvExtent}
use Rattle.sr_wire.specs.declared.place.Frame.{Frame}
use Rattle.sr_wire.specs.Entries.{IsNextPiece}
use Rattle.sr_wire.specs.Format.{EachSays, Format, Kind, NoRow, Row, SaysRun, Spelling, TlvSays, ValueFault, one_part, row_of, run_of, tlv_layout}
use Rattle.sr_wire.specs.Parts.{body_of, part_text, tlv_of}
use Rattle.sr_wire.specs.Run.{Layout, RunFault}
use Rattle.sr_wire.specs.Tlv.{Tlv, tlv_text, framed, IsFrame}
use Rattle.sr_wire.proofs.Codes.{IsCode}
use Rattle.sr_wire.proofs.FieldLaws.{all_both, value_octets}
use Rattle.sr_wire.proofs.OctetLemmas.{AreOctets, octets_back, octets_front, octets_same}
use Rattle.sr_wire.proofs.SameRunLemmas.{HasOneFault, IsSound, SamePlace, same_run, same_run_fault}
use Rattle.sr_wire.proofs.SubLemmas.{RunSoFar, one_piece, piece_fault, whole_run_sound}
use Rattle.sr_wire.proofs.TlvLemmas.{any_tlvs, tlv_code}

-- octets say one list of values; where they say one they have no fault; they have one first fault
pub record FormatLaws {X : Type 0} (f : Format X) : Type 0 where
  pub one : (octets : List ℕ) (xs ys : List X) → f.says octets xs → f.says octets ys → xs ≡ ys
  pub sound : (octets : List ℕ) (xs : List X) (at : ℕ) (check : Check) → f.says octets xs → f.fault octets at check → ⊥
  pub first : (octets : List ℕ) (at other : ℕ) (check check' : Check) → f.fault octets at check → f.fault octets other check' → SamePlace at other check check'

-- the laws of octets that say one value
pub one_part_laws : {P X : Type 0} (part : X → P) (means : List ℕ → X → Type 0) (fault : List ℕ → ℕ → Check → Type 0)
    → ((octets : List ℕ) (x y : X) → means octets x → means octets y → x ≡ y)
    → ((octets : List ℕ) (x : X) (at : ℕ) (check : Check) → means octets x → fault octets at check → ⊥)
    → ((octets : List ℕ) (at other : ℕ) (check check' : Check) → fault octets at check → fault octets other check' → SamePlace at other check check')
    → FormatLaws (one_part part means fault)
one_part_laws {X = X} part means fault one sound first = record {
  one = λ octets xs ys a b. a.2 ∙ ap (λ (x : X). part x ∷ []) (one octets a.0 b.0 a.1 b.1) ∙ sym b.2;
  sound = λ octets xs at check says bad. sound octets says.0 at check says.1 bad;
  first = first;
}

-- what a piece of a run carries
pub record PieceLaws {E X : Type 0} (layout : Layout E) (says : E → List X → Type 0) : Type 0 where
  pub code : IsCode layout.is layout.text
  pub one : (e : E) (xs ys : List X) → says e xs → says e ys → xs ≡ ys
  pub first : HasOneFault layout

-- pieces say one list of values, where each does
each_one : {E X : Type 0} (says : E → List X → Type 0) → ((e : E) (xs ys : List X) → says e xs → says e ys → xs ≡ ys)
    → (es : List E) (xs ys : List X) → EachSays says es xs → EachSays says es ys → xs ≡ ys
each_one says one [] xs ys a b = a ∙ sym b
each_one {X = X} says one (e ∷ es) xs ys a b =
    let heads : a.0 ≡ b.0 = one e a.0 b.0 a.2 b.2 in
    let tails : a.1 ≡ b.1 = each_one says one es a.1 b.1 a.3 b.3 in
    a.4 ∙ ap (λ (ps : List X). ps ++ a.1) heads ∙ ap (λ (ps : List X). b.0 ++ ps) tails ∙ sym b.4

-- a run of octets says one list of values
run_one : {E X : Type 0} (layout : Layout E) (says : E → List X → Type 0) → PieceLaws layout says → (octets : List ℕ) (xs ys : List X) → SaysRun layout says octets xs → SaysRun layout says octets ys → xs ≡ ys
run_one {E = E} layout says laws octets xs ys a b =
    let pieces : a.pieces ≡ b.pieces = same_run layout laws.code octets a.pieces b.pieces a.run b.run in
    let P : List E → Type 0 = λ es. EachSays says es xs in
    each_one says laws.one b.pieces xs ys (subst P pieces a.say) b.say

-- the laws of a run
pub run_laws : {E X : Type 0} (layout : Layout E) (own : Check) (says : E → List X → Type 0) → PieceLaws layout says → FormatLaws (run_of layout own says)
run_laws layout own says laws = record {
  one = run_one layout says laws;
  sound = λ octets xs at check says bad. whole_run_sound layout laws.code octets says.pieces own at check says.run bad;
  first = λ octets at other check check' a b. same_run_fault layout laws.code laws.first own octets at other check check' a b;
}

-- what holds of two lists holds of both together
-- what holds of all that the pieces say
pub each_have : {E X : Type 0} (layout : Layout E) (says : E → List X → Type 0) (P : X → Type 0)
    → ((e : E) (xs : List X) → AreOctets (layout.text e) → layout.is e → says e xs → AllByRecursion P xs)
    → (es : List E) (xs : List X) → AreOctets (flat_map layout.text es) → AllByRecursion layout.is es → EachSays says es xs → AllByRecursion P xs
each_have layout says P each [] xs small is say = let Q : List _ → Type 0 = λ ys. AllByRecursion P ys in subst Q (sym say) tt
each_have layout says P each (e ∷ es) xs small is say =
    let Q : List _ → Type 0 = λ ys. AllByRecursion P ys in
    let own = each e say.0 (octets_front (layout.text e) (flat_map layout.text es) small) is.0 say.2 in
    let more = each_have layout says P each es say.1 (octets_back (layout.text e) (flat_map layout.text es) small) is.1 say.3 in
    subst Q (sym say.4) (all_both P say.0 say.1 own more)

-- a part of this kind whose value fits
abbrev pub IsFitting : {P X : Type 0} → Kind P X → P → Type 0
IsFitting {X = X} k p = (x : X) × (p ≡ k.part x) × k.fits x

-- what a kind of TLV carries: the laws of its format, a written value is read again, and what octets say fits
pub record KindLaws {P X : Type 0} (k : Kind P X) : Type 0 where
  pub format : FormatLaws k.format
  pub again : (x : X) → k.fits x → k.widths x → k.format.says (k.value x) (k.part x ∷ [])
  pub fit : (value : List ℕ) (parts : List P) → AreOctets value → k.format.says value parts → AllByRecursion (IsFitting k) parts

-- what a row of a table carries
pub record RowLaws {P : Type 0} (fits : P → Type 0) (r : Row P) : Type 0 where
  pub format : FormatLaws r.format
  pub fit : (value : List ℕ) (parts : List P) → AreOctets value → r.format.says value parts → AllByRecursion fits parts

-- parts that fit their kind fit
parts_fit : {P X : Type 0} (fits : P → Type 0) (k : Kind P X) → ((x : X) → k.fits x → fits (k.part x)) → (parts : List P) → AllByRecursion (IsFitting k) parts → AllByRecursion fits parts
parts_fit fits k same [] all = tt
parts_fit fits k same (p ∷ ps) all = (subst fits (sym all.0.1) (same all.0.0 all.0.2), parts_fit fits k same ps all.1)

-- a kind's laws are those of its row
pub row_laws : {P X : Type 0} (fits : P → Type 0) (k : Kind P X) → KindLaws k → ((x : X) → k.fits x → fits (k.part x)) → RowLaws fits (row_of k)
row_laws fits k laws same = record { format = laws.format; fit = λ value parts small says. parts_fit fits k same parts (laws.fit value parts small says) }

-- the one value that octets say fits, where its kind asks it
pub one_part_fit : {P X : Type 0} (k : Kind P X) (means : List ℕ → X → Type 0) → ((octets : List ℕ) (x : X) → AreOctets octets → means octets x → k.fits x)
    → (octets : List ℕ) (parts : List P) → AreOctets octets → ((x : X) × means octets x × (parts ≡ k.part x ∷ [])) → AllByRecursion (IsFitting k) parts
one_part_fit {P = P} k means fit octets parts small says =
    let Q : List P → Type 0 = λ ps. AllByRecursion (IsFitting k) ps in
    subst Q (sym says.2) ((says.0, refl, fit octets says.0 small says.1), tt)

-- the laws of each row
abbrev pub TableLaws : {P : Type 0} → (P → Type 0) → List (Row P) → Type 0
TableLaws fits [] = Unit {0}
TableLaws fits (r ∷ rs) = RowLaws fits r × TableLaws fits rs

-- a fact of either branch
one_branch : (b : Bool) (A B G : Type 0) → MatchBool b A B → (A → G) → (B → G) → G
one_branch true A B G x f g = f x
one_branch false A B G x f g = g x

-- a fact of the branch that both take
both_branches : (b : Bool) (A B C D G : Type 0) → MatchBool b A B → MatchBool b C D → (A → C → G) → (B → D → G) → G
both_branches true A B C D G x y f g = f x y
both_branches false A B C D G x y f g = g x y

-- a TLV says one list of parts
tlv_one : {P : Type 0} (fits : P → Type 0) (rows : List (Row P)) → TableLaws fits rows → (tlv : Tlv) (xs ys : List P) → TlvSays rows tlv xs → TlvSays rows tlv ys → xs ≡ ys
tlv_one fits [] laws tlv xs ys a b = a ∙ sym b
tlv_one fits (r ∷ rs) laws tlv xs ys a b =
    both_branches (tlv.kind == r.kind) (r.format.says tlv.value xs) (TlvSays rs tlv xs) (r.format.says tlv.value ys) (TlvSays rs tlv ys) (xs ≡ ys) a b
    (laws.0.format.one tlv.value xs ys) (tlv_one fits rs laws.1 tlv xs ys)

-- a TLV that says parts has no fault in its value
pub tlv_sound : {P : Type 0} (fits : P → Type 0) (rows : List (Row P)) → TableLaws fits rows → (tlv : Tlv) (xs : List P) (at : ℕ) (check : Check) → TlvSays rows tlv xs → ValueFault rows tlv at check → ⊥
tlv_sound fits [] laws tlv xs at check says bad = bad
tlv_sound fits (r ∷ rs) laws tlv xs at check says bad =
    both_branches (tlv.kind == r.kind) (r.format.says tlv.value xs) (TlvSays rs tlv xs) (r.format.fault tlv.value at check) (ValueFault rs tlv at check) ⊥ says bad
    (laws.0.format.sound tlv.value xs at check) (tlv_sound fits rs laws.1 tlv xs at check)

-- the value of a TLV has one first fault
value_first : {P : Type 0} (fits : P → Type 0) (rows : List (Row P)) → TableLaws fits rows → (tlv : Tlv) (at other : ℕ) (check check' : Check) → ValueFault rows tlv at check → ValueFault rows tlv other check'
    → SamePlace at other check check'
value_first fits [] laws tlv at other check check' a b = absurd a
value_first fits (r ∷ rs) laws tlv at other check check' a b =
    both_branches (tlv.kind == r.kind) (r.format.fault tlv.value at check) (ValueFault rs tlv at check) (r.format.fault tlv.value other check') (ValueFault rs tlv other check') (SamePlace at other check check') a b
    (laws.0.format.first tlv.value at other check check') (value_first fits rs laws.1 tlv at other check check')

-- the parts of a TLV of octets fit
tlv_fit : {P : Type 0} (fits : P → Type 0) (rows : List (Row P)) → TableLaws fits rows → (tlv : Tlv) (xs : List P) → AreOctets tlv.value → TlvSays rows tlv xs → AllByRecursion fits xs
tlv_fit {P = P} fits [] laws tlv xs small says = let Q : List P → Type 0 = λ ys. AllByRecursion fits ys in subst Q (sym says) tt
tlv_fit fits (r ∷ rs) laws tlv xs small says =
    one_branch (tlv.kind == r.kind) (r.format.says tlv.value xs) (TlvSays rs tlv xs) (AllByRecursion fits xs) says (laws.0.fit tlv.value xs small) (tlv_fit fits rs laws.1 tlv xs small)

-- places behind as many octets
pub behind : (before inside within at other : ℕ) (check check' : Check) → SamePlace inside within check check' → at ≡ before + inside → other ≡ before + within → SamePlace at other check check'
behind before inside within at other check check' same a b = record { places = a ∙ ap (λ (k : ℕ). before + k) same.places ∙ sym b; checks = same.checks }

-- a TLV has one first fault
tlv_first : {P : Type 0} (fits : P → Type 0) (rows : List (Row P)) → TableLaws fits rows → HasOneFault (tlv_layout rows)
tlv_first fits rows laws tlv at other check check' a b =
    behind 2 a.0 b.0 at other check check' (value_first fits rows laws tlv a.0 b.0 check check' a.1 b.1) a.2 b.2

-- a body: the laws of a table are those of the TLVs of its kinds
pub body_laws : {P : Type 0} (fits : P → Type 0) (rows : List (Row P)) → TableLaws fits rows → FormatLaws (body_of rows)
body_laws fits rows laws = run_laws (tlv_layout rows) TlvExtent (TlvSays rows) (record { code = tlv_code; one = tlv_one fits rows laws; first = tlv_first fits rows laws })

-- the parts of a body of octets fit
pub body_fit : {P : Type 0} (fits : P → Type 0) (rows : List (Row P)) → TableLaws fits rows → (body : List ℕ) (parts : List P) → AreOctets body → (body_of rows).says body parts → All fits parts
body_fit fits rows laws body parts small says =
    All-from_recursion fits parts (each_have (tlv_layout rows) (TlvSays rows) fits (λ tlv xs own is say. tlv_fit fits rows laws tlv xs (value_octets tlv [] (octets_same (tlv_text tlv) (tlv_text tlv ++ []) (sym (append-nil (tlv_text tlv))) own)) say)
    says.pieces parts (octets_same body (flat_map tlv_text says.pieces) says.run.text small) says.run.each says.say)

-- whole pieces before a place, and what they say
pub record SaysSoFar {E X : Type 0} (layout : Layout E) (says : E → List X → Type 0) (octets : List ℕ) (at : ℕ) (xs : List X) : Type 0 where
  pub pieces : List E
  pub so_far : RunSoFar layout octets at pieces
  pub say : EachSays says pieces xs

-- what one more piece says follows what the others say
says_more : {E X : Type 0} (says : E → List X → Type 0) (es : List E) (e : E) (xs own : List X) → EachSays says es xs → says e own → EachSays says (es ++ e ∷ []) (xs ++ own)
says_more says [] e xs own all one = (own, [], one, refl, ap (λ (ps : List _). ps ++ own) all ∙ sym (append-nil own))
says_more says (d ∷ ds) e xs own all one = (all.0, all.1 ++ own, all.2, says_more says ds e all.1 own all.3 one, ap (λ (ps : List _). ps ++ own) all.4 ∙ append_assoc all.0 all.1 own)

-- one whole piece more
pub says_one : {E X : Type 0} (layout : Layout E) (says : E → List X → Type 0) (octets : List ℕ) (at next : ℕ) (xs own : List X) (e : E) → SaysSoFar layout says octets at xs → next ≤ length octets
    → drop at octets ≡ layout.text e ++ drop next octets → layout.is e → IsSound layout e → says e own → SaysSoFar layout says octets next (xs ++ own)
says_one layout says octets at next xs own e s room text is sound say = record {
  pieces = s.pieces ++ e ∷ [];
  so_far = one_piece layout octets at next s.pieces e s.so_far room text is sound;
  say = says_more says s.pieces e xs own s.say say;
}

-- one whole TLV more
pub one_tlv : {P : Type 0} (fits : P → Type 0) (rows : List (Row P)) → TableLaws fits rows → (body : List ℕ) (at : ℕ) (frame : Frame) (parts own : List P) → SaysSoFar (tlv_layout rows) (TlvSays rows) body at parts
    → IsFrame body at frame → TlvSays rows (framed body frame) own → SaysSoFar (tlv_layout rows) (TlvSays rows) body frame.to (parts ++ own)
one_tlv fits rows laws body at frame parts own s found says =
    says_one (tlv_layout rows) (TlvSays rows) body at frame.to parts own (framed body frame) s found.within found.text tt
    (λ k check bad. tlv_sound fits rows laws (framed body frame) own bad.0 check says bad.1) says

-- a fault in the value of the TLV that stands next
pub inner_fault : {P : Type 0} (rows : List (Row P)) (body : List ℕ) (at : ℕ) (frame : Frame) (parts : List P) (inside : ℕ) (check : Check) → SaysSoFar (tlv_layout rows) (TlvSays rows) body at parts
    → IsFrame body at frame → ValueFault rows (framed body frame) inside check → RunFault (tlv_layout rows) TlvExtent body (inside + frame.from) check
inner_fault rows body at frame parts inside check s found fault =
    let P : ℕ → Type 0 = λ k. RunFault (tlv_layout rows) TlvExtent body k check in
    let from : frame.from ≡ at + 2 = found.from in
    let turned : at + (2 + inside) ≡ inside + frame.from = omega arith in
    subst P turned (piece_fault (tlv_layout rows) TlvExtent check body at (2 + inside) s.pieces s.so_far (record {
      piece = framed body frame;
      rest = drop frame.to body;
      is = tt;
      text = found.text;
      fault = (inside, fault, refl);
    }))

-- what a table and the spelling of parts carry together
pub record PartsLaws {P : Type 0} (rows : List (Row P)) (spelling : P → Spelling) : Type 0 where
  pub table : TableLaws (λ p. (spelling p).fits) rows
  pub again : (p : P) → (spelling p).fits → (spelling p).widths → TlvSays rows (tlv_of spelling p) (p ∷ [])

-- the TLVs in which parts are written say those parts
parts_say : {P : Type 0} (rows : List (Row P)) (spelling : P → Spelling) → PartsLaws rows spelling → (parts : List P) → AllByRecursion (λ p. (spelling p).fits) parts → AllByRecursion (λ p. (spelling p).widths) parts
    → EachSays (TlvSays rows) (map (tlv_of spelling) parts) parts
parts_say rows spelling laws [] fits widths = refl
parts_say rows spelling laws (p ∷ ps) fits widths = (p ∷ [], ps, laws.again p fits.0 widths.0, parts_say rows spelling laws ps fits.1 widths.1, refl)

-- these TLVs have no fault
parts_sound : {P : Type 0} (rows : List (Row P)) (spelling : P → Spelling) → PartsLaws rows spelling → (parts : List P) → AllByRecursion (λ p. (spelling p).fits) parts → AllByRecursion (λ p. (spelling p).widths) parts
    → AllByRecursion (IsSound (tlv_layout rows)) (map (tlv_of spelling) parts)
parts_sound rows spelling laws [] fits widths = tt
parts_sound rows spelling laws (p ∷ ps) fits widths =
    (λ at check bad. tlv_sound (λ p. (spelling p).fits) rows laws.table (tlv_of spelling p) (p ∷ []) bad.0 check (laws.again p fits.0 widths.0) bad.1, parts_sound rows spelling laws ps fits.1 widths.1)

-- the TLVs of the parts say the parts
pub parts_again : {P : Type 0} (rows : List (Row P)) (spelling : P → Spelling) → PartsLaws rows spelling → (parts : List P) → All (λ p. (spelling p).fits) parts → All (λ p. (spelling p).widths) parts
    → (body_of rows).says (flat_map (part_text spelling) parts) parts
parts_again rows spelling laws parts all_fit all_have =
    let fits = recursion_from_All (λ p. (spelling p).fits) parts all_fit in
    let widths = recursion_from_All (λ p. (spelling p).widths) parts all_have in
    record {
      pieces = map (tlv_of spelling) parts;
      run = record { text = sym (flat_map-map tlv_text (tlv_of spelling) parts); each = any_tlvs (map (tlv_of spelling) parts); sound = parts_sound rows spelling laws parts fits widths };
      say = parts_say rows spelling laws parts fits widths;
    }

-- parts that stand behind others, with one more behind
pub one_more_behind : {P : Type 0} (parts old told own : List P) (x : P) (new : List P) → new ≡ parts ++ x ∷ [] → parts ≡ old ++ told → own ≡ x ∷ [] → new ≡ old ++ (told ++ own)
one_more_behind {P = P} parts old told own x new more are one =
    more ∙ ap (λ (ps : List P). ps ++ x ∷ []) are ∙ append_assoc old told (x ∷ []) ∙ ap (λ (ps : List P). old ++ (told ++ ps)) (sym one)

-- and with none more
pub no_more_behind : {P : Type 0} (parts old told own : List P) → parts ≡ old ++ told → own ≡ [] → parts ≡ old ++ (told ++ own)
no_more_behind {P = P} parts old told own are none = are ∙ ap (λ (ps : List P). old ++ ps) (sym (append-nil told) ∙ ap (λ (ps : List P). told ++ ps) (sym none))

-- one whole entry more
pub one_next : {E X : Type 0} (layout : Layout E) (says : E → List X → Type 0) (octets : List ℕ) (at end : ℕ) (told own : List X) → SaysSoFar layout says octets at told → IsNextPiece layout says octets at end own
    → SaysSoFar layout says octets end (told ++ own)
one_next layout says octets at end told own s next = says_one layout says octets at end told own next.piece s next.within next.text next.is next.sound next.told

-- a test that isn't passed
not_passed : (a b : ℕ) (t : Bool) (A B : Type 0) → (a == b) ≡ t → (a ≡ b → ⊥) → B → MatchBool t A B
not_passed a b true A B is differ x = absurd (differ (eqb-true a b is))
not_passed a b false A B is differ x = x

branch_left : (a b : ℕ) (t : Bool) (A B G : Type 0) → (a == b) ≡ t → (a ≡ b → ⊥) → MatchBool t A B → (B → G) → G
branch_left a b true A B G is differ x f = absurd (differ (eqb-true a b is))
branch_left a b false A B G is differ x f = f x

-- such a TLV says nothing
pub unknown_says : {P : Type 0} (rows : List (Row P)) (tlv : Tlv) → NoRow rows tlv.kind → TlvSays rows tlv []
unknown_says [] tlv none = refl
unknown_says (r ∷ rs) tlv none = not_passed tlv.kind r.kind (tlv.kind == r.kind) (r.format.says tlv.value []) (TlvSays rs tlv []) refl none.0 (unknown_says rs tlv none.1)

-- and nothing else, and has no fault
pub unknown_only : {P : Type 0} (rows : List (Row P)) (tlv : Tlv) (parts : List P) → NoRow rows tlv.kind → TlvSays rows tlv parts → parts ≡ []
unknown_only [] tlv parts none says = says
unknown_only (r ∷ rs) tlv parts none says =
    branch_left tlv.kind r.kind (tlv.kind == r.kind) (r.format.says tlv.value parts) (TlvSays rs tlv parts) (parts ≡ []) refl none.0 says (unknown_only rs tlv parts none.1)

pub unknown_sound : {P : Type 0} (rows : List (Row P)) (tlv : Tlv) (at : ℕ) (check : Check) → NoRow rows tlv.kind → ValueFault rows tlv at check → ⊥
unknown_sound [] tlv at check none bad = bad
unknown_sound (r ∷ rs) tlv at check none bad =
    branch_left tlv.kind r.kind (tlv.kind == r.kind) (r.format.fault tlv.value at check) (ValueFault rs tlv at check) ⊥ refl none.0 bad (unknown_sound rs tlv at check none.1)
