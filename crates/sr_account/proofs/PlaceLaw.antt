-- Parts by their places: what the database has, the order of places, and that a place has one item.
use Rattle.std.proofs.Common.{◌≡◌, ℕ, ◌<◌, ◌⊎◌, inl, inr, ⊎_elim, refl, arith, ap, sym, ◌∙◌, subst, Option, Some, None}
use Rattle.std.specs.Prelude.{Contains, slice_get}
use Rattle.std.specs.Cmp.{Equal-is}
use Rattle.std.specs.Map.{keys_of}
use Rattle.std.specs.Ordering.{eq_by_cmp}
use Rattle.std.specs.declared.cmp.Ordering.{Ordering}
use Rattle.std.specs.declared.cmp.Ordering.TheVariants.{Less, Equal, Greater}
use Rattle.std.proofs.lemmas.Bool.{cases_eq}
use Rattle.std.proofs.lemmas.Cmp.{eq_by_cmp_equiv, tied_itself}
use Rattle.std.proofs.lemmas.Map.Keys.{IsDistinct-from_sorted}
use Rattle.std.proofs.lemmas.Map.Views.{Contains-from_lookup, lookup-from_Contains}
use Rattle.std.proofs.lemmas.Option.{none-some, same_Some}
use Rattle.sr_lsp.specs.declared.lsp.LspId.{LspId}
use Rattle.sr_lsp.specs.declared.reach.Reach.{Reach}
use Rattle.sr_lsp.specs.declared.prefix.Prefix.{Prefix}
use Rattle.sr_lsp.specs.declared.table.Part.{Part}
use Rattle.sr_lsp.specs.declared.table.Part.TheVariants as part
use Rattle.sr_lsdb.specs.declared.facts.Stored.{Stored}
use Rattle.sr_lsdb.specs.declared.facts.Facts.{Facts}
use Rattle.sr_lsdb.specs.Facts.{stored_under}
use Rattle.sr_lsdb.specs.Order.{id_cmp}
use Rattle.sr_lsdb.proofs.OrderLemmas.{id_exact, id_total}
use Rattle.sr_domain.specs.Announced.{parts_of}
use Rattle.sr_account.specs.declared.aside.Place.{Place}
use Rattle.sr_account.specs.Items.{Item, IsFactItem, IsPartAt, PartPlace, PlaceBefore, SidBefore, parts_in, item_place}
use Rattle.sr_account.specs.Items.Item.{OfPart, OfAdj, OfPrefix}
use Rattle.sr_account.specs.Laws.{IsInOrder}
use Rattle.sr_account.proofs.SearchLaw.{Decided, at-place, decided-both, decided-either, decided-less, decided-like, place-of, search-places}

-- ---- the database

-- where a part stands in the database
pub entry-from : (facts : Facts) (place : PartPlace) (said : Part) → IsPartAt facts place said → (stored : Stored) × Contains facts.database (place.id, stored) × (slice_get (parts_of stored.live) place.part ≡ Some said)
entry-from facts place said at = by (stored_under facts place.id) refl at
  where
    by : (o : Option Stored) → stored_under facts place.id ≡ o → slice_get (parts_in o) place.part ≡ Some said → (stored : Stored) × Contains facts.database (place.id, stored) × (slice_get (parts_of stored.live) place.part ≡ Some said)
    by None e h = absurd (none-some said h)
    by (Some stored) e h = (stored, Contains-from_lookup {eq = eq_by_cmp id_cmp} (λ x y same. id_exact x y ((Equal-is (id_cmp x y)).0 same)) place.id stored facts.database e, h)

-- what stands under an id in a database in order
pub stored-there : (facts : Facts) → IsInOrder facts → (entry : LspId × Stored) → Contains facts.database entry → stored_under facts entry.0 ≡ Some entry.1
stored-there facts up entry there = lookup-from_Contains (eq_by_cmp_equiv id_total) entry.0 entry.1 facts.database (IsDistinct-from_sorted id_cmp (keys_of facts.database) up) there

pub entry-to : (facts : Facts) → IsInOrder facts → (entry : LspId × Stored) (k : ℕ) (said : Part) → Contains facts.database entry → slice_get (parts_of entry.1.live) k ≡ Some said → IsPartAt facts (record { id = entry.0; part = k }) said
entry-to facts up entry k said there at = subst (λ (o : Option Stored). slice_get (parts_in o) k ≡ Some said) (sym (stored-there facts up entry there)) at

-- some part has the fact with its place, or none has
pub search-parts : (facts : Facts) → IsInOrder facts → (P : PartPlace → Part → Type 0) → ((place : PartPlace) (said : Part) → IsPartAt facts place said → Decided (P place said)) → Decided ((place : PartPlace) × (said : Part) × IsPartAt facts place said × P place said)
search-parts facts up P decide = decided-like forth back
    (search-places There facts.database
    (λ n entry stands. search-places (λ k said. P (record { id = entry.0; part = k }) said) (parts_of entry.1.live)
    (λ k said at. decide (record { id = entry.0; part = k }) said (entry-to facts up entry k said (at-place facts.database n entry stands) at))))
  where
    There : ℕ → LspId × Stored → Type 0
    There n entry = (k : ℕ) × (said : Part) × (slice_get (parts_of entry.1.live) k ≡ Some said) × P (record { id = entry.0; part = k }) said

    forth : (n : ℕ) × (entry : LspId × Stored) × (slice_get facts.database n ≡ Some entry) × There n entry → (place : PartPlace) × (said : Part) × IsPartAt facts place said × P place said
    forth r = (record { id = r.1.0; part = r.3.0 }, r.3.1, entry-to facts up r.1 r.3.0 r.3.1 (at-place facts.database r.0 r.1 r.2) r.3.2, r.3.3)

    back : (place : PartPlace) × (said : Part) × IsPartAt facts place said × P place said → (n : ℕ) × (entry : LspId × Stored) × (slice_get facts.database n ≡ Some entry) × There n entry
    back r =
        let e = entry-from facts r.0 r.1 r.2 in
        let at = place-of facts.database (r.0.id, e.0) e.1 in
        (at.0, (r.0.id, e.0), at.1, (r.0.part, r.1, e.2, r.3))

-- ---- the order of places

decided-earlier : (r : Ordering) → Decided (r ≡ Less)
decided-earlier Less = inl refl
decided-earlier Equal = inr (λ e. absurd (cc))
decided-earlier Greater = inr (λ e. absurd (cc))

pub decided-id : (a b : LspId) → Decided (a ≡ b)
decided-id a b = by (id_cmp a b) refl
  where
    tied : a ≡ b → id_cmp a b ≡ Equal
    tied same = ap (id_cmp a) (sym same) ∙ tied_itself id_total a

    by : (r : Ordering) → id_cmp a b ≡ r → Decided (a ≡ b)
    by Less e = inr (λ same. let bad : Less ≡ Equal = sym e ∙ tied same in absurd (cc))
    by Equal e = inl (id_exact a b e)
    by Greater e = inr (λ same. let bad : Greater ≡ Equal = sym e ∙ tied same in absurd (cc))

decided-sid : (a b : Option ℕ) → Decided (SidBefore a b)
decided-sid None None = inr (λ never. never)
decided-sid None (Some k) = inl tt
decided-sid (Some j) None = inr (λ never. never)
decided-sid (Some j) (Some k) = decided-less j k

pub decided-before : (a b : Place) → Decided (PlaceBefore a b)
decided-before a b =
    decided-either (decided-earlier (id_cmp a.id b.id))
    (decided-both (decided-id a.id b.id)
    (decided-either (decided-less a.part b.part) (decided-both (cases_eq a.part b.part) (decided-sid a.sid b.sid))))

sid-itself : (sid : Option ℕ) → SidBefore sid sid → ⊥
sid-itself None never = never
sid-itself (Some k) less = omega arith

-- no place comes before itself
pub before-itself : (place : Place) → PlaceBefore place place → ⊥
before-itself place before = ⊎_elim
    (λ (less : id_cmp place.id place.id ≡ Less). let bad : Less ≡ Equal = sym less ∙ tied_itself id_total place.id in absurd (cc))
    (λ (tie : (place.id ≡ place.id) × ((place.part < place.part) ⊎ ((place.part ≡ place.part) × SidBefore place.sid place.sid))). ⊎_elim
    (λ (less : place.part < place.part). let bad : ⊥ = omega arith in bad)
    (λ (same : (place.part ≡ place.part) × SidBefore place.sid place.sid). sid-itself place.sid same.1)
    tie.1)
    before

-- ---- a place has one item

pub part-one : (facts : Facts) (p q : PartPlace) (x y : Part) → IsPartAt facts p x → IsPartAt facts q y → p ≡ q → x ≡ y
part-one facts p q x y at there same = same_Some x y (sym at ∙ ap (λ (z : PartPlace). slice_get (parts_in (stored_under facts z.id)) z.part) same ∙ there)

-- the place of the part of a place
abbrev part_of_place : Place → PartPlace
part_of_place place = record { id = place.id; part = place.part }

pub item-one : (facts : Facts) (a b : Item) → IsFactItem facts a → IsFactItem facts b → item_place a ≡ item_place b → a ≡ b
item-one facts (OfPart p x) (OfPart q y) has is e =
    let place : p ≡ q = ap part_of_place e in
    let said : x ≡ y = part-one facts p q x y has is place in
    cc
item-one facts (OfPart p x) (OfAdj q reach k sid) has is e = absurd (none-some k (ap (λ (z : Place). z.sid) e))
item-one facts (OfPart p x) (OfPrefix q prefix k sid) has is e = absurd (none-some k (ap (λ (z : Place). z.sid) e))
item-one facts (OfAdj p reach k sid) (OfPart q y) has is e = absurd (none-some k (sym (ap (λ (z : Place). z.sid) e)))
item-one facts (OfPrefix p prefix k sid) (OfPart q y) has is e = absurd (none-some k (sym (ap (λ (z : Place). z.sid) e)))
item-one facts (OfAdj p reach k sid) (OfAdj q other j same) has is e =
    let place : p ≡ q = ap part_of_place e in
    let at : k ≡ j = same_Some k j (ap (λ (z : Place). z.sid) e) in
    let said : part.Reach reach ≡ part.Reach other = part-one facts p q (part.Reach reach) (part.Reach other) has.0 is.0 place in
    let entry : reach ≡ other = cc in
    let sids : Some sid ≡ Some same = sym has.1 ∙ ap (λ (r : Reach). slice_get r.adj k) entry ∙ ap (slice_get other.adj) at ∙ is.1 in
    let sid_is : sid ≡ same = same_Some sid same sids in
    cc
item-one facts (OfPrefix p prefix k sid) (OfPrefix q other j same) has is e =
    let place : p ≡ q = ap part_of_place e in
    let at : k ≡ j = same_Some k j (ap (λ (z : Place). z.sid) e) in
    let said : part.Prefix prefix ≡ part.Prefix other = part-one facts p q (part.Prefix prefix) (part.Prefix other) has.0 is.0 place in
    let entry : prefix ≡ other = cc in
    let sids : Some sid ≡ Some same = sym has.1 ∙ ap (λ (r : Prefix). slice_get r.sids k) entry ∙ ap (slice_get other.sids) at ∙ is.1 in
    let sid_is : sid ≡ same = same_Some sid same sids in
    cc
item-one facts (OfAdj p reach k sid) (OfPrefix q other j same) has is e =
    let said : part.Reach reach ≡ part.Prefix other = part-one facts p q (part.Reach reach) (part.Prefix other) has.0 is.0 (ap part_of_place e) in
    absurd (cc)
item-one facts (OfPrefix p prefix k sid) (OfAdj q other j same) has is e =
    let said : part.Prefix prefix ≡ part.Reach other = part-one facts p q (part.Prefix prefix) (part.Reach other) has.0 is.0 (ap part_of_place e) in
    absurd (cc)
