-- The items of the facts in their order: which they are, and that their places ascend.
use Rattle.std.proofs.Common.{◌≡◌, ℕ, ◌+◌, ◌<◌, inl, inr, ⊎_elim, Bool, true, false, cond, List, [], ◌∷◌, ◌++◌, filter, Option, Some, None, refl, ap, sym, ◌∙◌, subst, arith}
use Rattle.std.specs.Prelude.{Contains, slice_get}
use Rattle.std.specs.List.Sorted.{IsStrictlySortedBy}
use Rattle.std.specs.Map.{keys_of}
use Rattle.std.specs.BTreeMap.{is_at}
use Rattle.std.specs.Ordering.{is_eq, ordering_reverse}
use Rattle.std.specs.Cmp.{Equal-is}
use Rattle.std.specs.declared.cmp.Ordering.TheVariants.{Less}
use Rattle.std.proofs.lemmas.Cmp.{tied_itself}
use Rattle.std.proofs.lemmas.List.Kept.{IsStrictlySortedBy-filter}
use Rattle.std.proofs.lemmas.List.Elements.{Contains-append_left, Contains-append_right, Contains-append_cases}
use Rattle.std.proofs.lemmas.Bool.Decides.{nat_tests}
use Rattle.sr_subtlv.specs.declared.adj_sid.AdjSid.{AdjSid}
use Rattle.sr_subtlv.specs.declared.prefix_sid.PrefixSid.{PrefixSid}
use Rattle.sr_lsp.specs.declared.lsp.LspId.{LspId}
use Rattle.sr_lsp.specs.declared.reach.Reach.{Reach}
use Rattle.sr_lsp.specs.declared.prefix.Prefix.{Prefix}
use Rattle.sr_lsp.specs.declared.table.Part.{Part}
use Rattle.sr_lsp.specs.declared.table.Part.TheVariants as part
use Rattle.sr_lsdb.specs.declared.facts.Stored.{Stored}
use Rattle.sr_lsdb.specs.declared.facts.Facts.{Facts}
use Rattle.sr_lsdb.specs.Facts.{stored_under}
use Rattle.sr_lsdb.specs.Order.{id_cmp}
use Rattle.sr_lsdb.specs.Tables.{stored_at}
use Rattle.sr_lsdb.proofs.OrderLemmas.{id_total, id_exact}
use Rattle.sr_domain.specs.Announced.{parts_of}
use Rattle.sr_domain.specs.Nodes.{is_own}
use Rattle.sr_domain.proofs.MemberLemmas.{here, later, cases, nowhere, all-of}
use Rattle.sr_account.specs.declared.aside.Place.{Place}
use Rattle.sr_account.specs.Items.{Item, IsFactItem, IsPartAt, PartPlace, PlaceBefore, part_place, parts_in, item_place, sid_place}
use Rattle.sr_account.specs.Items.Item.{OfPart, OfAdj, OfPrefix}
use Rattle.sr_account.specs.Steps.{adj_item, at_part, each_from, entry_items, items_of_entries, own_items, part_items, prefix_item, sid_items}
use Rattle.sr_account.proofs.EachLemmas.{each-from, each-to}
use Rattle.sr_domain.proofs.MemberLemmas.{filtered-from, filtered-to}

-- the first item stands before the second
abbrev pub Before : Item → Item → Type 0
Before a b = PlaceBefore (item_place a) (item_place b)

-- each item stands before all later ones
abbrev pub Ascend : List Item → Type 0
Ascend [] = Unit {0}
Ascend (item ∷ items) = ((other : Item) → Contains items other → Before item other) × Ascend items

ascend-append : (xs ys : List Item) → Ascend xs → Ascend ys → ((a b : Item) → Contains xs a → Contains ys b → Before a b) → Ascend (xs ++ ys)
ascend-append [] ys up on across = on
ascend-append (x ∷ xs) ys up on across = (
  λ other c. ⊎_elim (λ (l : Contains xs other). up.0 other l) (λ (r : Contains ys other). across x other (here x xs) r) (Contains-append_cases xs ys other c),
  ascend-append xs ys up.1 on (λ a b l r. across a b (later x xs a l) r),
)

-- elements that each give what ascends, each below what later ones give
ascend-each : {X : Type 0} (give : ℕ → X → List Item) (n : ℕ) (xs : List X) → ((k : ℕ) (x : X) → Ascend (give k x)) → ((j k : ℕ) (x y : X) (a b : Item) → j < k → Contains (give j x) a → Contains (give k y) b → Before a b) → Ascend (each_from give n xs)
ascend-each give n [] one apart = tt
ascend-each {X} give n (x ∷ xs) one apart =
    ascend-append (give n x) (each_from give (n + 1) xs) (one n x) (ascend-each give (n + 1) xs one apart)
    (λ a b l r. let f = each-from give (n + 1) xs b r in apart n (n + 1 + f.0) x f.1 a b (omega arith) l f.3)

-- a list of one
only : {X : Type 0} (x z : X) → Contains (x ∷ []) z → x ≡ z
only {X} x z c = ⊎_elim (λ (e : x ≡ z). e) (λ (none : Contains [] z). absurd (nowhere z none)) (cases x [] z c)

ascend-one : (item : Item) → Ascend (item ∷ [])
ascend-one item = (λ other c. absurd (nowhere other c), tt)

-- where the SIDs of a part stand
sid-at : (place : PartPlace) (said : Part) (item : Item) → Contains (sid_items place said) item → (k : ℕ) × (item_place item ≡ sid_place place k)
sid-at place (part.Reach reach) item c =
    let f = each-from (adj_item place reach) 0 reach.adj item c in (0 + f.0, sym (ap item_place (only (OfAdj place reach (0 + f.0) f.1) item f.3)))
sid-at place (part.Prefix prefix) item c =
    let f = each-from (prefix_item place prefix) 0 prefix.sids item c in (0 + f.0, sym (ap item_place (only (OfPrefix place prefix (0 + f.0) f.1) item f.3)))
sid-at place _ item c = absurd (nowhere item c)

-- the same place of an LSP, with the lesser SID
sid-before : (place : PartPlace) (j k : ℕ) → j < k → PlaceBefore (sid_place place j) (sid_place place k)
sid-before place j k lt = inr (refl, inr (refl, lt))

moved : (p q r s : Place) → PlaceBefore p q → p ≡ r → q ≡ s → PlaceBefore r s
moved p q r s b e f = subst (λ (t : Place). PlaceBefore r t) f (subst (λ (t : Place). PlaceBefore t q) e b)

ascend-adj : (place : PartPlace) (reach : Reach) (n : ℕ) (sids : List AdjSid) → Ascend (each_from (adj_item place reach) n sids)
ascend-adj place reach n sids = ascend-each (adj_item place reach) n sids
    (λ k sid. ascend-one (OfAdj place reach k sid))
    (λ j k x y a b lt l r. moved (sid_place place j) (sid_place place k) (item_place a) (item_place b) (sid-before place j k lt)
    (ap item_place (only (OfAdj place reach j x) a l)) (ap item_place (only (OfAdj place reach k y) b r)))

ascend-prefix : (place : PartPlace) (prefix : Prefix) (n : ℕ) (sids : List PrefixSid) → Ascend (each_from (prefix_item place prefix) n sids)
ascend-prefix place prefix n sids = ascend-each (prefix_item place prefix) n sids
    (λ k sid. ascend-one (OfPrefix place prefix k sid))
    (λ j k x y a b lt l r. moved (sid_place place j) (sid_place place k) (item_place a) (item_place b) (sid-before place j k lt)
    (ap item_place (only (OfPrefix place prefix j x) a l)) (ap item_place (only (OfPrefix place prefix k y) b r)))

ascend-sids : (place : PartPlace) (said : Part) → Ascend (sid_items place said)
ascend-sids place (part.Reach reach) = ascend-adj place reach 0 reach.adj
ascend-sids place (part.Prefix prefix) = ascend-prefix place prefix 0 prefix.sids
ascend-sids place _ = tt

ascend-part : (id : LspId) (k : ℕ) (said : Part) → Ascend (part_items id k said)
ascend-part id k said = (
  λ other c. let at = sid-at (at_part id k) said other c in
      moved (part_place (at_part id k)) (sid_place (at_part id k) at.0) (part_place (at_part id k)) (item_place other) (inr (refl, inr (refl, tt))) refl (sym at.1),
  ascend-sids (at_part id k) said,
)

-- where the items of a part stand
record IsWithin (id : LspId) (k : ℕ) (place : Place) : Type 0 where
  same_id : place.id ≡ id
  same_part : place.part ≡ k

part-at : (id : LspId) (k : ℕ) (said : Part) (item : Item) → Contains (part_items id k said) item → IsWithin id k (item_place item)
part-at id k said item c = ⊎_elim
    (λ (e : OfPart (at_part id k) said ≡ item). let p : part_place (at_part id k) ≡ item_place item = ap item_place e in record { same_id = ap (λ (p : Place). p.id) (sym p); same_part = ap (λ (p : Place). p.part) (sym p) })
    (λ (rest : Contains (sid_items (at_part id k) said) item). let at = sid-at (at_part id k) said item rest in record { same_id = ap (λ (p : Place). p.id) at.1; same_part = ap (λ (p : Place). p.part) at.1 })
    (cases (OfPart (at_part id k) said) (sid_items (at_part id k) said) item c)

ascend-entry : (entry : LspId × Stored) → Ascend (entry_items entry)
ascend-entry entry = ascend-each (part_items entry.0) 0 (parts_of entry.1.live)
    (λ k said. ascend-part entry.0 k said)
    (λ j k x y a b lt l r. let p = part-at entry.0 j x a l in let q = part-at entry.0 k y b r in
    inr (p.same_id ∙ sym q.same_id, inl (let first : (item_place a).part ≡ j = p.same_part in let second : (item_place b).part ≡ k = q.same_part in omega arith)))

entry-at : (entry : LspId × Stored) (item : Item) → Contains (entry_items entry) item → (item_place item).id ≡ entry.0
entry-at entry item c = let f = each-from (part_items entry.0) 0 (parts_of entry.1.live) item c in (part-at entry.0 (0 + f.0) f.1 item f.3).same_id

-- the LSP of an item
pub item-entry : (entries : List (LspId × Stored)) (item : Item) → Contains (items_of_entries entries) item → (entry : LspId × Stored) × Contains entries entry × Contains (entry_items entry) item
item-entry [] item c = absurd (nowhere item c)
item-entry (entry ∷ entries) item c = ⊎_elim
    (λ (now : Contains (entry_items entry) item). (entry, here entry entries, now))
    (λ (rest : Contains (items_of_entries entries) item). let r = item-entry entries item rest in (r.0, later entry entries r.0 r.1, r.2))
    (Contains-append_cases (entry_items entry) (items_of_entries entries) item c)

pub entry-item : (entries : List (LspId × Stored)) (entry : LspId × Stored) (item : Item) → Contains entries entry → Contains (entry_items entry) item → Contains (items_of_entries entries) item
entry-item [] entry item c at = absurd (nowhere entry c)
entry-item (first ∷ entries) entry item c at = ⊎_elim
    (λ (e : first ≡ entry). Contains-append_left (entry_items first) (items_of_entries entries) item (subst (λ (x : LspId × Stored). Contains (entry_items x) item) (sym e) at))
    (λ (rest : Contains entries entry). Contains-append_right (entry_items first) (items_of_entries entries) item (entry-item entries entry item rest at))
    (cases first entries entry c)

key-there : (entries : List (LspId × Stored)) (entry : LspId × Stored) → Contains entries entry → Contains (keys_of entries) entry.0
key-there [] entry c = absurd (nowhere entry c)
key-there (first ∷ entries) entry c = ⊎_elim
    (λ (e : first ≡ entry). subst (λ (x : LspId × Stored). Contains (first.0 ∷ keys_of entries) x.0) e (here first.0 (keys_of entries)))
    (λ (rest : Contains entries entry). later first.0 (keys_of entries) entry.0 (key-there entries entry rest))
    (cases first entries entry c)

-- the items of LSPs in order of ids ascend
pub items-ascend : (entries : List (LspId × Stored)) → IsStrictlySortedBy id_cmp (keys_of entries) → Ascend (items_of_entries entries)
unfolding IsStrictlySortedBy
items-ascend [] up = tt
items-ascend (entry ∷ entries) up =
    ascend-append (entry_items entry) (items_of_entries entries) (ascend-entry entry) (items-ascend entries up.1)
    (λ a b l r. let f = item-entry entries b r in
    let less : id_cmp entry.0 f.0.0 ≡ Less = all-of (λ (i : LspId). id_cmp entry.0 i ≡ Less) (keys_of entries) f.0.0 up.0 (key-there entries f.0 f.1) in
    inl (ap (λ (i : LspId). id_cmp i (item_place b).id) (entry-at entry a l) ∙ ap (λ (i : LspId). id_cmp entry.0 i) (entry-at f.0 b f.2) ∙ less))

-- what is stored under the id of an entry of an ordered database
pub stored-there : (entries : List (LspId × Stored)) (entry : LspId × Stored) → IsStrictlySortedBy id_cmp (keys_of entries) → Contains entries entry → stored_at entries entry.0 ≡ Some entry.1
unfolding IsStrictlySortedBy
stored-there [] entry up c = absurd (nowhere entry c)
stored-there (first ∷ entries) entry up c = ⊎_elim
    (λ (e : first ≡ entry). subst (λ (x : LspId × Stored). stored_at (first ∷ entries) x.0 ≡ Some x.1) e
    (ap (λ (b : Bool). cond b (Some first.1) (stored_at entries first.0)) (ap is_eq (tied_itself id_total first.0))))
    (λ (rest : Contains entries entry).
    let less : id_cmp first.0 entry.0 ≡ Less = all-of (λ (i : LspId). id_cmp first.0 i ≡ Less) (keys_of entries) entry.0 up.0 (key-there entries entry rest) in
    let apart : is_at (id_cmp entry.0) first.0 ≡ false = ap is_eq (id_total.antisymm entry.0 first.0 ∙ ap ordering_reverse less) in
    ap (λ (b : Bool). cond b (Some first.1) (stored_at entries entry.0)) apart ∙ stored-there entries entry up.1 rest)
    (cases first entries entry c)

pub stored-entry : (entries : List (LspId × Stored)) (id : LspId) (stored : Stored) → stored_at entries id ≡ Some stored → Contains entries (id, stored)
stored-entry [] id stored e = absurd (cc)
stored-entry (first ∷ entries) id stored e = by (λ h. stored-entry entries id stored h) (is_at (id_cmp id) first.0) refl e
  where
    by : (stored_at entries id ≡ Some stored → Contains entries (id, stored)) → (b : Bool) → is_at (id_cmp id) first.0 ≡ b → cond b (Some first.1) (stored_at entries id) ≡ Some stored → Contains (first ∷ entries) (id, stored)
    by rest true at h =
        let same : id ≡ first.0 = id_exact id first.0 ((Equal-is (id_cmp id first.0)).0 at) in
        let value : first.1 ≡ stored = cc in
        subst (λ (i : LspId). Contains (first ∷ entries) (i, stored)) (sym same) (subst (λ (s : Stored). Contains (first ∷ entries) (first.0, s)) value (here first entries))
    by rest false at h = later first entries (id, stored) (rest h)

-- an item of a part that the facts have
sid-item : (facts : Facts) (place : PartPlace) (said : Part) (item : Item) → IsPartAt facts place said → Contains (sid_items place said) item → IsFactItem facts item
sid-item facts place (part.Reach reach) item at c =
    let f = each-from (adj_item place reach) 0 reach.adj item c in
    subst (λ (i : Item). IsFactItem facts i) (only (OfAdj place reach (0 + f.0) f.1) item f.3) (at, ap (slice_get reach.adj) (let same : 0 + f.0 ≡ f.0 = omega arith in same) ∙ f.2)
sid-item facts place (part.Prefix prefix) item at c =
    let f = each-from (prefix_item place prefix) 0 prefix.sids item c in
    subst (λ (i : Item). IsFactItem facts i) (only (OfPrefix place prefix (0 + f.0) f.1) item f.3) (at, ap (slice_get prefix.sids) (let same : 0 + f.0 ≡ f.0 = omega arith in same) ∙ f.2)
sid-item facts place _ item at c = absurd (nowhere item c)

part-item : (facts : Facts) (id : LspId) (k : ℕ) (said : Part) (item : Item) → IsPartAt facts (at_part id k) said → Contains (part_items id k said) item → IsFactItem facts item
part-item facts id k said item at c = ⊎_elim
    (λ (e : OfPart (at_part id k) said ≡ item). subst (λ (i : Item). IsFactItem facts i) e at)
    (λ (rest : Contains (sid_items (at_part id k) said) item). sid-item facts (at_part id k) said item at rest)
    (cases (OfPart (at_part id k) said) (sid_items (at_part id k) said) item c)

-- the items of the database are those that the facts have
pub item-from : (facts : Facts) (item : Item) → IsStrictlySortedBy id_cmp (keys_of facts.database) → Contains (items_of_entries facts.database) item → IsFactItem facts item
item-from facts item up c =
    let e = item-entry facts.database item c in
    let f = each-from (part_items e.0.0) 0 (parts_of e.0.1.live) item e.2 in
    let stored : stored_under facts e.0.0 ≡ Some e.0.1 = stored-there facts.database e.0 up e.1 in
    part-item facts e.0.0 (0 + f.0) f.1 item
    (ap (λ (o : Option Stored). slice_get (parts_in o) (0 + f.0)) stored ∙ ap (slice_get (parts_of e.0.1.live)) (let same : 0 + f.0 ≡ f.0 = omega arith in same) ∙ f.2) f.3

-- the item stands in some part, at its place
record IsPartOf (facts : Facts) (item : Item) : Type 0 where
  place : PartPlace
  said : Part
  at : IsPartAt facts place said
  within : Contains (part_items place.id place.part said) item

part-of : (facts : Facts) (item : Item) → IsFactItem facts item → IsPartOf facts item
part-of facts (OfPart place said) is = record { place = place; said = said; at = is; within = here (OfPart place said) (sid_items place said) }
part-of facts (OfAdj place reach k sid) is = record {
  place = place;
  said = part.Reach reach;
  at = is.0;
  within = later (OfPart place (part.Reach reach)) (sid_items place (part.Reach reach)) (OfAdj place reach k sid)
      (each-to (adj_item place reach) 0 reach.adj k sid (OfAdj place reach k sid) is.1
      (subst (λ (j : ℕ). Contains (adj_item place reach j sid) (OfAdj place reach k sid)) (let same : k ≡ 0 + k = omega arith in same) (here (OfAdj place reach k sid) [])));
}
part-of facts (OfPrefix place prefix k sid) is = record {
  place = place;
  said = part.Prefix prefix;
  at = is.0;
  within = later (OfPart place (part.Prefix prefix)) (sid_items place (part.Prefix prefix)) (OfPrefix place prefix k sid)
      (each-to (prefix_item place prefix) 0 prefix.sids k sid (OfPrefix place prefix k sid) is.1
      (subst (λ (j : ℕ). Contains (prefix_item place prefix j sid) (OfPrefix place prefix k sid)) (let same : k ≡ 0 + k = omega arith in same) (here (OfPrefix place prefix k sid) [])));
}

-- what is stored where a part stands
stored-part : (facts : Facts) (place : PartPlace) (said : Part) → IsPartAt facts place said → (stored : Stored) × (stored_under facts place.id ≡ Some stored) × (slice_get (parts_of stored.live) place.part ≡ Some said)
stored-part facts place said at = by (stored_under facts place.id) refl at
  where
    by : (o : Option Stored) → stored_under facts place.id ≡ o → slice_get (parts_in o) place.part ≡ Some said → (stored : Stored) × (stored_under facts place.id ≡ Some stored) × (slice_get (parts_of stored.live) place.part ≡ Some said)
    by None e h = absurd (cc)
    by (Some stored) e h = (stored, e, h)

-- each item stands in an entry of the database, under the id of its place
pub record IsStoredItem (facts : Facts) (item : Item) : Type 0 where
  pub entry : LspId × Stored
  pub there : Contains facts.database entry
  pub own : entry.0 ≡ (item_place item).id
  pub within : Contains (entry_items entry) item

pub item-stored : (facts : Facts) (item : Item) → IsFactItem facts item → IsStoredItem facts item
item-stored facts item is =
    let p = part-of facts item is in
    let s = stored-part facts p.place p.said p.at in
    record {
      entry = (p.place.id, s.0);
      there = stored-entry facts.database p.place.id s.0 s.1;
      own = sym (part-at p.place.id p.place.part p.said item p.within).same_id;
      within = each-to (part_items p.place.id) 0 (parts_of s.0.live) p.place.part p.said item s.2
          (subst (λ (k : ℕ). Contains (part_items p.place.id k p.said) item) (let same : p.place.part ≡ 0 + p.place.part = omega arith in same) p.within);
    }

pub item-to : (facts : Facts) (item : Item) → IsFactItem facts item → Contains (items_of_entries facts.database) item
item-to facts item is = let s = item-stored facts item is in entry-item facts.database s.entry item s.there s.within

-- the node's own LSPs alone
keys-kept : (p : LspId → Bool) (entries : List (LspId × Stored)) → keys_of (filter (λ (e : LspId × Stored). p e.0) entries) ≡ filter p (keys_of entries)
keys-kept p [] = refl
keys-kept p (e ∷ entries) = by (p e.0) (keys-kept p entries)
  where
    by : (b : Bool) → keys_of (filter (λ (e : LspId × Stored). p e.0) entries) ≡ filter p (keys_of entries) → keys_of (cond b (e ∷ filter (λ (e : LspId × Stored). p e.0) entries) (filter (λ (e : LspId × Stored). p e.0) entries)) ≡ cond b (e.0 ∷ filter p (keys_of entries)) (filter p (keys_of entries))
    by true rest = ap (λ (ids : List LspId). e.0 ∷ ids) rest
    by false rest = rest

pub own-ascend : (facts : Facts) (node : ℕ) → IsStrictlySortedBy id_cmp (keys_of facts.database) → Ascend (own_items facts node)
own-ascend facts node up =
    items-ascend (filter (λ (e : LspId × Stored). is_own node e.0) facts.database)
    (subst (λ (ids : List LspId). IsStrictlySortedBy id_cmp ids) (sym (keys-kept (is_own node) facts.database)) (IsStrictlySortedBy-filter id_cmp (is_own node) (keys_of facts.database) up))

pub own-is : (node : ℕ) (id : LspId) → is_own node id ≡ true → (id.system ≡ node) × (id.pseudonode ≡ 0)
own-is node id e = (grind (arith, nat_tests), grind (arith, nat_tests))

own-test : (node : ℕ) (id : LspId) → id.system ≡ node → id.pseudonode ≡ 0 → is_own node id ≡ true
own-test node id e f = grind (arith, nat_tests)

-- an item of the node's own LSPs
pub record IsOwnItem (facts : Facts) (node : ℕ) (item : Item) : Type 0 where
  pub is : IsFactItem facts item
  pub system : (item_place item).id.system ≡ node
  pub real : (item_place item).id.pseudonode ≡ 0

pub own-from : (facts : Facts) (node : ℕ) (item : Item) → IsStrictlySortedBy id_cmp (keys_of facts.database) → Contains (own_items facts node) item → IsOwnItem facts node item
own-from facts node item up c =
    let own : List (LspId × Stored) = filter (λ (e : LspId × Stored). is_own node e.0) facts.database in
    let e = item-entry own item c in
    let k = filtered-from (λ (e : LspId × Stored). is_own node e.0) facts.database e.0 e.1 in
    let o = own-is node e.0.0 k.1 in
    let at : (item_place item).id ≡ e.0.0 = entry-at e.0 item e.2 in
    record {
      is = item-from facts item up (entry-item facts.database e.0 item k.0 e.2);
      system = ap (λ (i : LspId). i.system) at ∙ o.0;
      real = ap (λ (i : LspId). i.pseudonode) at ∙ o.1;
    }

pub own-to : (facts : Facts) (node : ℕ) (item : Item) → IsOwnItem facts node item → Contains (own_items facts node) item
own-to facts node item own =
    let s = item-stored facts item own.is in
    let kept : List (LspId × Stored) = filter (λ (e : LspId × Stored). is_own node e.0) facts.database in
    entry-item kept s.entry item
    (filtered-to (λ (e : LspId × Stored). is_own node e.0) facts.database s.entry s.there
    (own-test node s.entry.0 (ap (λ (i : LspId). i.system) s.own ∙ own.system) (ap (λ (i : LspId). i.pseudonode) s.own ∙ own.real)))
    s.within
