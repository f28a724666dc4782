-- Runs of sub-TLVs, and what they say together.
use Rattle.std.proofs.Common.{◌≡◌, ℕ, ◌+◌, ◌<◌, ◌≤◌, inl, inr, List, [], ◌∷◌, ◌++◌, length, drop, refl, sym, ap, ◌∙◌, subst, arith, append_assoc, length-append, length-drop, Option, Some, None}
use Rattle.std.specs.List.{flat_map, AllByRecursion}
use Rattle.std.proofs.lemmas.List.{flat_map_more}
use Rattle.sr_wire.specs.declared.place.Frame.{Frame}
use Rattle.sr_wire.specs.declared.place.Overrun.{Overrun}
use Rattle.sr_wire.specs.Tlv.{Tlv, tlv_text, framed, IsFrame, IsOverrun}
use Rattle.sr_wire.proofs.Codes.{GoesOn, IsCode, goes_on}
use Rattle.sr_wire.proofs.TlvLemmas.{IsAny, any_tlvs, tlv_code}
use Rattle.sr_wire.specs.declared.fault.Check.{Check}
use Rattle.sr_wire.specs.declared.fault.Check.TheVariants.{FieldExtent}
use Rattle.sr_wire.specs.Run.{FaultyPiece, Layout, IsRun, NoPiece, RunFault}
use Rattle.sr_wire.specs.Sub.{AddsAll, AddsFirst, AllSay, AreSubs, FirstSays, SubSays, SaysNothing, SubFault, sub_layout}

-- a run so far: whole pieces without a fault before place `at`
pub record RunSoFar {X : Type 0} (layout : Layout X) (octets : List ℕ) (at : ℕ) (pieces : List X) : Type 0 where
  pub within : at ≤ length octets
  pub text : octets ≡ flat_map layout.text pieces ++ drop at octets
  pub is : AllByRecursion layout.is pieces
  pub sound : AllByRecursion (λ x. (k : ℕ) (check : Check) → layout.fault x k check → ⊥) pieces

-- what holds of a list and of one item more holds of all
all_more : {X : Type 0} (P : X → Type 0) (xs : List X) (x : X) → AllByRecursion P xs → P x → AllByRecursion P (xs ++ x ∷ [])
all_more P [] x all one = (one, tt)
all_more P (y ∷ ys) x all one = (all.0, all_more P ys x all.1 one)

-- one whole piece more
pub one_piece : {X : Type 0} (layout : Layout X) (octets : List ℕ) (at next : ℕ) (pieces : List X) (x : X) → RunSoFar layout octets at pieces → next ≤ length octets
    → drop at octets ≡ layout.text x ++ drop next octets → layout.is x → ((k : ℕ) (check : Check) → layout.fault x k check → ⊥) → RunSoFar layout octets next (pieces ++ x ∷ [])
one_piece layout octets at next pieces x s room text is sound = record {
  within = room;
  text = s.text ∙ ap (λ (xs : List ℕ). flat_map layout.text pieces ++ xs) text
      ∙ sym (append_assoc (flat_map layout.text pieces) (layout.text x) (drop next octets))
      ∙ ap (λ (xs : List ℕ). xs ++ drop next octets) (flat_map_more layout.text [] pieces x);
  is = all_more layout.is pieces x s.is is;
  sound = all_more (λ y. (k : ℕ) (check : Check) → layout.fault y k check → ⊥) pieces x s.sound sound;
}

-- the place is as far as the pieces reach
pub front_length : {X : Type 0} (layout : Layout X) (octets : List ℕ) (at : ℕ) (pieces : List X) → RunSoFar layout octets at pieces → at ≡ length (flat_map layout.text pieces)
front_length layout octets at pieces s =
    let both : length octets ≡ length (flat_map layout.text pieces) + length (drop at octets) = ap length s.text ∙ length-append (flat_map layout.text pieces) (drop at octets) in
    let room : at ≤ length octets = s.within in
    omega (arith, length-drop at octets)

-- where no whole piece stands next, the run has its own fault
pub no_piece_fault : {X : Type 0} (layout : Layout X) (own : Check) (octets : List ℕ) (at : ℕ) (pieces : List X) → RunSoFar layout octets at pieces → at < length octets
    → ((x : X) (rest : List ℕ) → layout.is x → drop at octets ≡ layout.text x ++ rest → ⊥) → RunFault layout own octets at own
no_piece_fault layout own octets at pieces s more none = record {
  before = pieces;
  rest = drop at octets;
  front = flat_map layout.text pieces;
  text = s.text;
  sound = record { text = refl; each = s.is; sound = s.sound };
  here = inl (record { some = λ e. let empty : length (drop at octets) ≡ 0 = ap length e in absurd (omega (arith, length-drop at octets)); none = none }, front_length layout octets at pieces s, refl);
}

-- one whole sub-TLV more
pub one_sub : (octets : List ℕ) (at : ℕ) (frame : Frame) (subs : List Tlv) → RunSoFar sub_layout octets at subs → IsFrame octets at frame → RunSoFar sub_layout octets frame.to (subs ++ framed octets frame ∷ [])
one_sub octets at frame subs s found = one_piece sub_layout octets at frame.to subs (framed octets frame) s found.within found.text tt (λ k check never. never)

-- where a sub-TLV passes the end, the run has a fault
pub overrun_fault : (octets : List ℕ) (at : ℕ) (overrun : Overrun) (subs : List Tlv) → RunSoFar sub_layout octets at subs → at < length octets → overrun.offset ≡ at → IsOverrun octets overrun
    → SubFault octets overrun.offset FieldExtent
overrun_fault octets at overrun subs s more offset is =
    let P : ℕ → Type 0 = λ k. SubFault octets k FieldExtent in
    subst P (sym offset) (no_piece_fault sub_layout FieldExtent octets at subs s more (λ tlv rest _ e. is.none tlv rest (ap (λ (k : ℕ). drop k octets) offset ∙ e)))

-- with what one more sub-TLV adds, what was said first is what the first says
pub first_more : {X : Type 0} (kind : ℕ) (means : List ℕ → X → Type 0) (subs : List Tlv) (sub : Tlv) (old new : Option X) → FirstSays kind means subs old → AddsFirst kind means sub old new
    → FirstSays kind means (subs ++ sub ∷ []) new
first_more kind means [] sub None None first adds = (adds, tt)
first_more kind means [] sub None (Some x) first adds = inl adds
first_more kind means [] sub (Some x) new first adds = absurd first
first_more kind means (t ∷ ts) sub None None first adds = (first.0, first_more kind means ts sub None None first.1 adds)
first_more kind means (t ∷ ts) sub None (Some x) first adds = inr (first.0, first_more kind means ts sub None (Some x) first.1 adds)
first_more kind means (t ∷ ts) sub (Some x) new first adds =
    let P : Option _ → Type 0 = λ o. FirstSays kind means (t ∷ (ts ++ sub ∷ [])) o in
    subst P (sym adds) (elim first [ inl says ↦ inl says | inr later ↦ inr (later.0, first_more kind means ts sub (Some x) (Some x) later.1 refl) ])

-- one more sub-TLV that says nothing adds nothing
all_one : {X : Type 0} (kind : ℕ) (means : List ℕ → X → Type 0) (subs : List Tlv) (sub : Tlv) (old : List X) → AllSay kind means subs old → SaysNothing kind means sub → AllSay kind means (subs ++ sub ∷ []) old
all_one kind means [] sub [] all nothing = (nothing, refl)
all_one kind means [] sub (x ∷ xs) all nothing = absurd {0} (cc)
all_one kind means (t ∷ ts) sub [] all nothing = (all.0, all_one kind means ts sub [] all.1 nothing)
all_one kind means (t ∷ ts) sub (x ∷ xs) all nothing =
    elim all [ inl says ↦ inl (says.0, all_one kind means ts sub xs says.1 nothing) | inr other ↦ inr (other.0, all_one kind means ts sub (x ∷ xs) other.1 nothing) ]

-- one more sub-TLV that says something adds it
all_says : {X : Type 0} (kind : ℕ) (means : List ℕ → X → Type 0) (subs : List Tlv) (sub : Tlv) (old : List X) (y : X) → AllSay kind means subs old → SubSays kind means sub y → AllSay kind means (subs ++ sub ∷ []) (old ++ y ∷ [])
all_says kind means [] sub [] y all says = inl (says, refl)
all_says kind means [] sub (x ∷ xs) y all says = absurd {0} (cc)
all_says kind means (t ∷ ts) sub [] y all says = inr (all.0, all_says kind means ts sub [] y all.1 says)
all_says kind means (t ∷ ts) sub (x ∷ xs) y all says =
    elim all [ inl told ↦ inl (told.0, all_says kind means ts sub xs y told.1 says) | inr other ↦ inr (other.0, all_says kind means ts sub (x ∷ xs) y other.1 says) ]

-- with what one more sub-TLV adds, all that was said is what all say
pub all_more_say : {X : Type 0} (kind : ℕ) (means : List ℕ → X → Type 0) (subs : List Tlv) (sub : Tlv) (old new : List X) → AllSay kind means subs old → AddsAll kind means sub old new
    → AllSay kind means (subs ++ sub ∷ []) new
all_more_say kind means subs sub old new all adds =
    let P : List _ → Type 0 = λ xs. AllSay kind means (subs ++ sub ∷ []) xs in
    elim adds [
      | inl nothing ↦ subst P (sym nothing.1) (all_one kind means subs sub old all nothing.0)
      | inr says ↦ subst P (sym says.2) (all_says kind means subs sub old says.0 all says.1)
    ]

-- a faulty piece stands next
pub piece_fault : {X : Type 0} (layout : Layout X) (own check : Check) (octets : List ℕ) (at inside : ℕ) (pieces : List X) → RunSoFar layout octets at pieces
    → FaultyPiece layout (drop at octets) inside check → RunFault layout own octets (at + inside) check
piece_fault layout own check octets at inside pieces s faulty = record {
  before = pieces;
  rest = drop at octets;
  front = flat_map layout.text pieces;
  text = s.text;
  sound = record { text = refl; each = s.is; sound = s.sound };
  here = inr (inside, faulty, ap (λ (k : ℕ). k + inside) (front_length layout octets at pieces s));
}

-- where whole sub-TLVs are left, one stands next
faultless : (rest : List ℕ) (more : List Tlv) → rest ≡ flat_map tlv_text more → NoPiece sub_layout rest → ⊥
faultless rest [] left here = here.some left
faultless rest (m ∷ ms) left here = here.none m (flat_map tlv_text ms) tt left

-- whole sub-TLVs have no fault
pub whole_subs_sound : (octets : List ℕ) (subs : List Tlv) → AreSubs octets subs → (at : ℕ) (check : Check) → SubFault octets at check → ⊥
whole_subs_sound octets subs are at check fault =
    let front : flat_map tlv_text fault.before ++ fault.rest ≡ flat_map tlv_text subs =
    ap (λ (xs : List ℕ). xs ++ fault.rest) (sym fault.sound.text) ∙ sym fault.text ∙ are.text in
    let goes : GoesOn tlv_text fault.before subs fault.rest = goes_on IsAny tlv_text tlv_code fault.before subs fault.rest (any_tlvs fault.before) (any_tlvs subs) front in
    elim fault.here [ inl here ↦ faultless fault.rest goes.more goes.left here.0 | inr piece ↦ piece.1.fault ]

-- where whole pieces are left, one stands next
no_rest_piece : {X : Type 0} (layout : Layout X) (rest : List ℕ) (more : List X) → AllByRecursion layout.is more → rest ≡ flat_map layout.text more → NoPiece layout rest → ⊥
no_rest_piece layout rest [] is left here = here.some left
no_rest_piece layout rest (m ∷ ms) is left here = here.none m (flat_map layout.text ms) is.0 left

-- what holds of a list holds of its end
rest_of_all : {X : Type 0} (P : X → Type 0) (xs ys : List X) → AllByRecursion P (xs ++ ys) → AllByRecursion P ys
rest_of_all P [] ys all = all
rest_of_all P (x ∷ xs) ys all = rest_of_all P xs ys all.1

-- where pieces without a fault are left, the next has none
faulty_rest : {X : Type 0} (layout : Layout X) → IsCode layout.is layout.text → (rest : List ℕ) (more : List X) (inside : ℕ) (check : Check) → AllByRecursion layout.is more
    → AllByRecursion (λ x. (k : ℕ) (c : Check) → layout.fault x k c → ⊥) more → rest ≡ flat_map layout.text more → FaultyPiece layout rest inside check → ⊥
faulty_rest layout code rest [] inside check is sound left here = code.some here.piece here.rest (sym here.text ∙ left)
faulty_rest layout code rest (m ∷ ms) inside check is sound left here =
    let same = code.one here.piece m here.rest (flat_map layout.text ms) here.is is.0 (sym here.text ∙ left) in
    let P : _ → Type 0 = λ x. layout.fault x inside check in
    sound.0 inside check (subst P same.0 here.fault)

-- a whole run of pieces of which none begins another has no fault
pub whole_run_sound : {X : Type 0} (layout : Layout X) → IsCode layout.is layout.text → (octets : List ℕ) (pieces : List X) (own : Check) (at : ℕ) (check : Check) → IsRun layout octets pieces
    → RunFault layout own octets at check → ⊥
whole_run_sound layout code octets pieces own at check run fault =
    let front : flat_map layout.text fault.before ++ fault.rest ≡ flat_map layout.text pieces =
    ap (λ (xs : List ℕ). xs ++ fault.rest) (sym fault.sound.text) ∙ sym fault.text ∙ run.text in
    let goes : GoesOn layout.text fault.before pieces fault.rest = goes_on layout.is layout.text code fault.before pieces fault.rest fault.sound.each run.each front in
    let P : List _ → Type 0 = λ xs. AllByRecursion layout.is xs in
    let Q : List _ → Type 0 = λ xs. AllByRecursion (λ x. (k : ℕ) (c : Check) → layout.fault x k c → ⊥) xs in
    let each = rest_of_all layout.is fault.before goes.more (subst P goes.is run.each) in
    let sound = rest_of_all (λ x. (k : ℕ) (c : Check) → layout.fault x k c → ⊥) fault.before goes.more (subst Q goes.is run.sound) in
    elim fault.here [ inl here ↦ no_rest_piece layout fault.rest goes.more each goes.left here.0 | inr piece ↦ faulty_rest layout code fault.rest goes.more piece.0 check each sound goes.left piece.1 ]
