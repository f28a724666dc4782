-- What was chosen of items that ascend is the first of the least, and the first that says so.
use Rattle.std.proofs.Common.{◌≡◌, ◌≢◌, ℕ, ◌<◌, ◌≤◌, ◌⊎◌, inl, inr, ⊎_elim, ◌==◌, Bool, true, false, cond, List, [], ◌∷◌, Option, Some, None, is_some, refl, arith, ap, sym, ◌∙◌, subst}
use Rattle.std.specs.Prelude.{Contains, MatchOption, nat_lt, slice_get}
use Rattle.std.specs.List.{filter_map}
use Rattle.std.specs.Option.{option_map, option_or}
use Rattle.std.specs.Ordering.{ordering_reverse}
use Rattle.std.specs.declared.cmp.Ordering.TheVariants.{Less, Equal, Greater}
use Rattle.std.proofs.lemmas.Bool.Decides.{nat_tests}
use Rattle.std.proofs.lemmas.Cmp.{tied_itself}
use Rattle.sr_wire.specs.declared.registry.TheConstants.{ADDRESS_BITS}
use Rattle.sr_subtlv.specs.declared.prefix_sid.PrefixSid.{PrefixSid}
use Rattle.sr_lsp.specs.declared.lsp.LspId.{LspId}
use Rattle.sr_lsp.specs.declared.table.Part.{Part}
use Rattle.sr_lsp.specs.declared.table.Part.TheVariants as part
use Rattle.sr_lsdb.specs.declared.facts.Facts.{Facts}
use Rattle.sr_lsdb.specs.Order.{id_cmp}
use Rattle.sr_lsdb.proofs.OrderLemmas.{id_total}
use Rattle.sr_domain.specs.declared.nodes.NodeSid.{NodeSid}
use Rattle.sr_domain.specs.Nodes.{imposition_by, node_sid_by}
use Rattle.sr_domain.proofs.MemberLemmas.{here, later, cases, nowhere}
use Rattle.sr_account.specs.declared.aside.Place.{Place}
use Rattle.sr_account.specs.declared.choice.Choice.{Choice}
use Rattle.sr_account.specs.declared.choice.Offer.{Offer}
use Rattle.sr_account.specs.declared.choice.OwnPart.{OwnPart}
use Rattle.sr_account.specs.declared.choice.Saying.{Saying}
use Rattle.sr_account.specs.declared.choice.Saying.TheVariants.{Ranges, Imposition}
use Rattle.sr_account.specs.Items.{Item, IsPartAt, PartPlace, PlaceBefore, SidBefore, part_place, item_place, sid_place}
use Rattle.sr_account.specs.Items.Item.{OfPart, OfAdj, OfPrefix}
use Rattle.sr_account.specs.Reasons.{IsCandidate, IsSaidBefore, SaysImposition}
use Rattle.sr_account.specs.Steps.{IsOfferAt, IsOwnPart, first_saying, least_offer, lesser_offer, index_offer, offer_of, own_items, own_part, says, saying_place}
use Rattle.sr_account.proofs.ChoiceLemmas.{lesser-none}
use Rattle.sr_account.proofs.ItemLemmas.{Ascend, Before, IsOwnItem, own-ascend, own-from, own-to}

-- no place is before another that is before it
less-not : (a b : LspId) → id_cmp a b ≡ Less → id_cmp b a ≡ Less → ⊥
less-not a b e f = let bad : Greater ≡ Less = sym (ap ordering_reverse e) ∙ sym (id_total.antisymm b a) ∙ f in absurd (cc)

less-other : (a b : LspId) → id_cmp a b ≡ Less → a ≡ b → ⊥
less-other a b e same = let bad : Less ≡ Equal = sym e ∙ ap (λ (i : LspId). id_cmp i b) same ∙ tied_itself id_total b in absurd (cc)

sid-not : (a b : Option ℕ) → SidBefore a b → SidBefore b a → ⊥
sid-not None None h g = h
sid-not None (Some k) h g = g
sid-not (Some j) None h g = h
sid-not (Some j) (Some k) h g = omega arith

rest-not : (a b : Place) → ((a.part < b.part) ⊎ ((a.part ≡ b.part) × SidBefore a.sid b.sid)) → ((b.part < a.part) ⊎ ((b.part ≡ a.part) × SidBefore b.sid a.sid)) → ⊥
rest-not a b (inl h) (inl g) = omega arith
rest-not a b (inl h) (inr g) = let same : b.part ≡ a.part = g.0 in omega arith
rest-not a b (inr h) (inl g) = let same : a.part ≡ b.part = h.0 in omega arith
rest-not a b (inr h) (inr g) = sid-not a.sid b.sid h.1 g.1

pub before-not : (a b : Place) → PlaceBefore a b → PlaceBefore b a → ⊥
before-not a b (inl h) (inl g) = less-not a.id b.id h g
before-not a b (inl h) (inr g) = less-other a.id b.id h (sym g.0)
before-not a b (inr h) (inl g) = less-other b.id a.id g (sym h.0)
before-not a b (inr h) (inr g) = rest-not a b h.1 g.1

-- the same place, or one before it
abbrev pub UpTo : Item → Item → Type 0
UpTo a b = (a ≡ b) ⊎ Before a b

pub up-not : (a b : Item) → UpTo a b → Before b a → ⊥
up-not a b (inl same) g = let self : Before b b = subst (λ (i : Item). Before b i) same g in before-not (item_place b) (item_place b) self self
up-not a b (inr h) g = before-not (item_place a) (item_place b) h g

-- the least of what items offer
lesser_by : (a b c : Offer) → lesser_offer (lesser_offer (Some a) (Some b)) (Some c) ≡ lesser_offer (Some a) (lesser_offer (Some b) (Some c))
lesser_by a b c = grind (arith, nat_tests)

lesser-assoc : (a b c : Option Offer) → lesser_offer (lesser_offer a b) c ≡ lesser_offer a (lesser_offer b c)
lesser-assoc None b c = refl
lesser-assoc (Some a) None c = refl
lesser-assoc (Some a) (Some b) None = lesser-none (lesser_offer (Some a) (Some b))
lesser-assoc (Some a) (Some b) (Some c) = lesser_by a b c

least-from : (found : Option Offer) (items : List Item) → least_offer found items ≡ lesser_offer found (least_offer None items)
least-from found [] = sym (lesser-none found)
least-from found (item ∷ items) =
    least-from (lesser_offer found (offer_of item)) items
    ∙ lesser-assoc found (offer_of item) (least_offer None items)
    ∙ ap (lesser_offer found) (sym (least-from (offer_of item) items))

-- the first item that offers the least index
pub record IsFirstLeast (items : List Item) (offer : Offer) : Type 0 where
  pub item : Item
  pub there : Contains items item
  pub offers : offer_of item ≡ Some offer
  pub least : (other : Item) (f : Offer) → Contains items other → offer_of other ≡ Some f → (offer.index < f.index) ⊎ ((offer.index ≡ f.index) × UpTo item other)

-- no item offers an index, or this is the first least offer
abbrev pub IsLeastOf : List Item → Option Offer → Type 0
IsLeastOf items o = MatchOption o ((other : Item) (f : Offer) → Contains items other → offer_of other ≡ Some f → ⊥) (IsFirstLeast items)

least-rest : (item : Item) (items : List Item) → offer_of item ≡ None → (o : Option Offer) → IsLeastOf items o → IsLeastOf (item ∷ items) o
least-rest item items none None h = λ other f c e. ⊎_elim
    (λ (same : item ≡ other). let bad : None ≡ Some f = sym none ∙ ap offer_of same ∙ e in absurd (cc))
    (λ (rest : Contains items other). h other f rest e) (cases item items other c)
least-rest item items none (Some offer) h = record {
  item = h.item;
  there = later item items h.item h.there;
  offers = h.offers;
  least = λ other f c e. ⊎_elim
      (λ (same : item ≡ other). let bad : None ≡ Some f = sym none ∙ ap offer_of same ∙ e in absurd (cc))
      (λ (rest : Contains items other). h.least other f rest e) (cases item items other c);
}

-- the first item offers this, and no more than the rest
least-first : (item : Item) (items : List Item) (offer : Offer) → Ascend (item ∷ items) → offer_of item ≡ Some offer → ((other : Item) (f : Offer) → Contains items other → offer_of other ≡ Some f → offer.index ≤ f.index) → IsFirstLeast (item ∷ items) offer
least-first item items offer up e low = record {
  item = item;
  there = here item items;
  offers = e;
  least = λ other f c g. ⊎_elim
      (λ (same : item ≡ other). let two : Some offer ≡ Some f = sym e ∙ ap offer_of same ∙ g in let one : offer ≡ f = cc in inr (ap (λ (o : Offer). o.index) one, inl same))
      (λ (rest : Contains items other). by other f (low other f rest g) (up.0 other rest)) (cases item items other c);
}
  where
    by : (other : Item) (f : Offer) → offer.index ≤ f.index → Before item other → (offer.index < f.index) ⊎ ((offer.index ≡ f.index) × UpTo item other)
    by other f le before = ⊎_elim (λ (lt : offer.index < f.index). inl lt) (λ (same : offer.index ≡ f.index). inr (same, inr before)) (split offer.index f.index le)
      where
        split : (m n : ℕ) → m ≤ n → (m < n) ⊎ (m ≡ n)
        split m n le = grind arith

least-both : (item : Item) (items : List Item) (a : Offer) → Ascend (item ∷ items) → offer_of item ≡ Some a → (o : Option Offer) → IsLeastOf items o → IsLeastOf (item ∷ items) (lesser_offer (Some a) o)
least-both item items a up e None h = least-first item items a up e (λ other f c g. absurd (h other f c g))
least-both item items a up e (Some b) h = by (nat_lt b.index a.index) refl
  where
    le-after : (f : Offer) → a.index ≤ b.index → (b.index < f.index) ⊎ ((b.index ≡ f.index) × Unit {0}) → a.index ≤ f.index
    le-after f le (inl lt) = omega arith
    le-after f le (inr same) = let eq : b.index ≡ f.index = same.0 in omega arith

    low : (t : Bool) → nat_lt b.index a.index ≡ t → t ≡ false → a.index ≤ b.index
    low t p q = grind (arith, nat_tests)

    lt-from : nat_lt b.index a.index ≡ true → b.index < a.index
    lt-from p = grind (arith, nat_tests)

    by : (t : Bool) → nat_lt b.index a.index ≡ t → IsLeastOf (item ∷ items) (cond t (Some b) (Some a))
    by true p = record {
      item = h.item;
      there = later item items h.item h.there;
      offers = h.offers;
      least = λ other f c g. ⊎_elim
          (λ (same : item ≡ other). let two : Some a ≡ Some f = sym e ∙ ap offer_of same ∙ g in let one : a ≡ f = cc in let lt : b.index < a.index = lt-from p in inl (subst (λ (o : Offer). b.index < o.index) one lt))
          (λ (rest : Contains items other). h.least other f rest g) (cases item items other c);
    }
    by false p = least-first item items a up e (λ other f c g. le-after f (low false p refl) (⊎_elim (λ (lt : b.index < f.index). inl lt) (λ (same : (b.index ≡ f.index) × UpTo h.item other). inr (same.0, tt)) (h.least other f c g)))

pub least-chosen : (items : List Item) → Ascend items → IsLeastOf items (least_offer None items)
least-chosen [] up = λ other f c e. nowhere other c
least-chosen (item ∷ items) up = subst (IsLeastOf (item ∷ items)) (sym (least-from (offer_of item) items)) (by (offer_of item) refl (least-chosen items up.1))
  where
    by : (o : Option Offer) → offer_of item ≡ o → IsLeastOf items (least_offer None items) → IsLeastOf (item ∷ items) (lesser_offer o (least_offer None items))
    by None e h = least-rest item items e (least_offer None items) h
    by (Some a) e h = least-both item items a up e (least_offer None items) h

-- the first item that says so
pub record IsFirstSaying (saying : Saying) (items : List Item) (place : OwnPart) : Type 0 where
  pub item : Item
  pub there : Contains items item
  pub said : saying_place saying item ≡ Some place
  pub first : (other : Item) (p : OwnPart) → Contains items other → saying_place saying other ≡ Some p → UpTo item other

-- no item says so, or this is the place of the first that does
abbrev pub IsFirstOfAll : Saying → List Item → Option OwnPart → Type 0
IsFirstOfAll saying items o = MatchOption o ((other : Item) (p : OwnPart) → Contains items other → saying_place saying other ≡ Some p → ⊥) (IsFirstSaying saying items)

pub saying-chosen : (saying : Saying) (items : List Item) → Ascend items → IsFirstOfAll saying items (first_saying saying items)
saying-chosen saying [] up = λ other p c e. nowhere other c
saying-chosen saying (item ∷ items) up = by (saying_place saying item) refl (first_saying saying items) (saying-chosen saying items up.1)
  where
    by : (o : Option OwnPart) → saying_place saying item ≡ o → (r : Option OwnPart) → IsFirstOfAll saying items r → IsFirstOfAll saying (item ∷ items) (option_or o r)
    by None e None h = λ other p c g. ⊎_elim
        (λ (same : item ≡ other). let bad : None ≡ Some p = sym e ∙ ap (saying_place saying) same ∙ g in absurd (cc))
        (λ (rest : Contains items other). h other p rest g) (cases item items other c)
    by None e (Some q) h = record {
      item = h.item;
      there = later item items h.item h.there;
      said = h.said;
      first = λ other p c g. ⊎_elim
          (λ (same : item ≡ other). let bad : None ≡ Some p = sym e ∙ ap (saying_place saying) same ∙ g in absurd (cc))
          (λ (rest : Contains items other). h.first other p rest g) (cases item items other c);
    }
    by (Some q) e r h = record {
      item = item;
      there = here item items;
      said = e;
      first = λ other p c g. ⊎_elim (λ (same : item ≡ other). inl same) (λ (rest : Contains items other). inr (up.0 other rest)) (cases item items other c);
    }

-- an item that offers an index is a candidate, and the other way round
pub record IsOffering (facts : Facts) (node : ℕ) (item : Item) (offer : Offer) : Type 0 where
  pub place : PartPlace
  pub k : ℕ
  pub is : item_place item ≡ sid_place place k
  pub candidate : IsCandidate facts node place k offer.index
  pub at : IsOfferAt offer place k

host-length : (n : ℕ) (o : Option Offer) (offer : Offer) → cond (n == ADDRESS_BITS) o None ≡ Some offer → (n ≡ ADDRESS_BITS) × (o ≡ Some offer)
host-length n o offer e = by (n == ADDRESS_BITS) refl e
  where
    by : (b : Bool) → (n == ADDRESS_BITS) ≡ b → cond b o None ≡ Some offer → (n ≡ ADDRESS_BITS) × (o ≡ Some offer)
    by true p h = (grind (arith, nat_tests), h)
    by false p h = absurd (cc)

-- the SID that makes an offer
record IsOfferBy (fragment at k : ℕ) (sid : PrefixSid) (offer : Offer) : Type 0 where
  given : NodeSid
  given_is : node_sid_by sid ≡ Some given
  index : given.index ≡ offer.index
  fragment_is : offer.fragment ≡ fragment
  part_is : offer.part ≡ at
  sid_is : offer.sid ≡ k

offer-by : (fragment at k : ℕ) (sid : PrefixSid) (offer : Offer) → index_offer fragment at k sid ≡ Some offer → IsOfferBy fragment at k sid offer
offer-by fragment at k sid offer e = by (node_sid_by sid) refl e
  where
    by : (o : Option NodeSid) → node_sid_by sid ≡ o → option_map (λ (given : NodeSid). record { index = given.index; fragment = fragment; part = at; sid = k }) o ≡ Some offer → IsOfferBy fragment at k sid offer
    by None p h = absurd (cc)
    by (Some given) p h =
        let made : Offer = record { index = given.index; fragment = fragment; part = at; sid = k } in
        let same : made ≡ offer = cc in
        record {
          given = given;
          given_is = p;
          index = ap (λ (o : Offer). o.index) same;
          fragment_is = ap (λ (o : Offer). o.fragment) (sym same);
          part_is = ap (λ (o : Offer). o.part) (sym same);
          sid_is = ap (λ (o : Offer). o.sid) (sym same);
        }

pub offering : (facts : Facts) (node : ℕ) (item : Item) (offer : Offer) → IsOwnItem facts node item → offer_of item ≡ Some offer → IsOffering facts node item offer
offering facts node (OfPart place said) offer own e = absurd (cc)
offering facts node (OfAdj place reach k sid) offer own e = absurd (cc)
offering facts node (OfPrefix place prefix k sid) offer own e =
    let h = host-length prefix.length (index_offer place.id.fragment place.part k sid) offer e in
    let by = offer-by place.id.fragment place.part k sid offer h.1 in
    record {
      place = place;
      k = k;
      is = refl;
      candidate = record { own = own.system; real = own.real; prefix = prefix; at = own.is.0; host = h.0; sid = sid; among = own.is.1; gives = (by.given, by.given_is, by.index) };
      at = (by.fragment_is, by.part_is, by.sid_is);
    }

-- the offer of a candidate
pub record IsOffered (facts : Facts) (node : ℕ) (place : PartPlace) (k index : ℕ) : Type 0 where
  pub item : Item
  pub own : IsOwnItem facts node item
  pub is : item_place item ≡ sid_place place k
  pub offer : Offer
  pub offers : offer_of item ≡ Some offer
  pub index_is : offer.index ≡ index
  pub at : IsOfferAt offer place k

pub offered : (facts : Facts) (node : ℕ) (place : PartPlace) (k index : ℕ) → IsCandidate facts node place k index → IsOffered facts node place k index
offered facts node place k index c =
    let given = c.gives.0 in
    record {
      item = OfPrefix place c.prefix k c.sid;
      own = record { is = (c.at, c.among); system = c.own; real = c.real };
      is = refl;
      offer = record { index = given.index; fragment = place.id.fragment; part = place.part; sid = k };
      offers = ap (λ (n : ℕ). cond (n == ADDRESS_BITS) (index_offer place.id.fragment place.part k c.sid) None) c.host
          ∙ ap (λ (o : Option NodeSid). option_map (λ (g : NodeSid). record { index = g.index; fragment = place.id.fragment; part = place.part; sid = k }) o) c.gives.1;
      index_is = c.gives.2;
      at = (refl, refl, refl);
    }

-- two places of a node's own LSPs with the same numbers
pub own-place : (node : ℕ) (a b : PartPlace) → a.id.system ≡ node → b.id.system ≡ node → a.id.pseudonode ≡ 0 → b.id.pseudonode ≡ 0 → a.id.fragment ≡ b.id.fragment → a.part ≡ b.part → a ≡ b
own-place node a b p q r s t u =
    let system : a.id.system ≡ b.id.system = p ∙ sym q in
    let pseudonode : a.id.pseudonode ≡ b.id.pseudonode = r ∙ sym s in
    let id : a.id ≡ b.id = λ i. record { system = system i; pseudonode = pseudonode i; fragment = t i } in
    λ i. record { id = id i; part = u i }

-- what a node chose, of a part in its own LSPs
module _ (facts : Facts) (choice : Choice) (place : PartPlace) (said : Part) (own : IsOwnPart facts choice place said) where
  up : Ascend (own_items facts place.id.system)
  up = own-ascend facts place.id.system own.order

  pub chosen-offer : IsLeastOf (own_items facts place.id.system) choice.offer
  chosen-offer = subst (IsLeastOf (own_items facts place.id.system)) (sym own.chosen.offer) (least-chosen (own_items facts place.id.system) up)

  pub chosen-ranges : IsFirstOfAll Ranges (own_items facts place.id.system) choice.ranges
  chosen-ranges = subst (IsFirstOfAll Ranges (own_items facts place.id.system)) (sym own.chosen.ranges) (saying-chosen Ranges (own_items facts place.id.system) up)

  pub chosen-imposition : IsFirstOfAll Imposition (own_items facts place.id.system) choice.imposition
  chosen-imposition = subst (IsFirstOfAll Imposition (own_items facts place.id.system)) (sym own.chosen.imposition) (saying-chosen Imposition (own_items facts place.id.system) up)

-- what says so before
abbrev pub IsSaidThere : Saying → Facts → PartPlace → Type 0
IsSaidThere saying facts place = IsSaidBefore (λ said. says saying said ≡ true) facts place

some-place : (saying : Saying) (place : PartPlace) (said : Part) (p : OwnPart) → saying_place saying (OfPart place said) ≡ Some p → (says saying said ≡ true) × (own_part place.id place.part ≡ p)
some-place saying place said p e = by (says saying said) refl e
  where
    by : (b : Bool) → says saying said ≡ b → cond b (Some (own_part place.id place.part)) None ≡ Some p → (says saying said ≡ true) × (own_part place.id place.part ≡ p)
    by true q h = (q, let same : own_part place.id place.part ≡ p = cc in same)
    by false q h = absurd (cc)

place-says : (saying : Saying) (place : PartPlace) (said : Part) → says saying said ≡ true → saying_place saying (OfPart place said) ≡ Some (own_part place.id place.part)
place-says saying place said e = ap (λ (b : Bool). cond b (Some (own_part place.id place.part)) None) e

own-part-item : (facts : Facts) (choice : Choice) (place : PartPlace) (said : Part) → IsOwnPart facts choice place said → IsOwnItem facts place.id.system (OfPart place said)
own-part-item facts choice place said own = record { is = own.at; system = refl; real = own.real }

-- a part that says so, where another was chosen
pub said-before : (facts : Facts) (choice : Choice) (place : PartPlace) (said : Part) (saying : Saying) (o : Option OwnPart) → IsOwnPart facts choice place said → IsFirstOfAll saying (own_items facts place.id.system) o → (o ≡ Some (own_part place.id place.part) → ⊥) → says saying said ≡ true → IsSaidThere saying facts place
said-before facts choice place said saying None own h not e = absurd (h (OfPart place said) (own_part place.id place.part) (own-to facts place.id.system (OfPart place said) (own-part-item facts choice place said own)) (place-says saying place said e))
said-before facts choice place said saying (Some p) own h not e =
    ⊎_elim
    (λ (same : h.item ≡ OfPart place said). absurd (not (sym h.said ∙ ap (saying_place saying) same ∙ place-says saying place said e)))
    (λ (before : Before h.item (OfPart place said)). by h.item h.said (own-from facts place.id.system h.item own.order h.there) before)
    (h.first (OfPart place said) (own_part place.id place.part) (own-to facts place.id.system (OfPart place said) (own-part-item facts choice place said own)) (place-says saying place said e))
  where
    by : (item : Item) → saying_place saying item ≡ Some p → IsOwnItem facts place.id.system item → Before item (OfPart place said) → IsSaidThere saying facts place
    by (OfPart other there) g is before = (other, there, is.system, is.real, is.is, (some-place saying other there p g).0, before)
    by (OfAdj other reach k sid) g is before = absurd (cc)
    by (OfPrefix other prefix k sid) g is before = absurd (cc)

same-said : (facts : Facts) (place : PartPlace) (a b : Part) → IsPartAt facts place a → IsPartAt facts place b → a ≡ b
same-said facts place a b e f = let two : Some a ≡ Some b = sym e ∙ f in cc

-- the part that was chosen says so, and none before it does
pub said-first : (facts : Facts) (choice : Choice) (place : PartPlace) (said : Part) (saying : Saying) (o : Option OwnPart) → IsOwnPart facts choice place said → IsFirstOfAll saying (own_items facts place.id.system) o → o ≡ Some (own_part place.id place.part) → (says saying said ≡ true) × (IsSaidThere saying facts place → ⊥)
said-first facts choice place said saying None own h e = absurd (cc)
said-first facts choice place said saying (Some p) own h e =
    let same : p ≡ own_part place.id place.part = cc in
    by h.item h.said h.first (own-from facts place.id.system h.item own.order h.there) same
  where
    by : (item : Item) → saying_place saying item ≡ Some p → ((other : Item) (q : OwnPart) → Contains (own_items facts place.id.system) other → saying_place saying other ≡ Some q → UpTo item other) → IsOwnItem facts place.id.system item → p ≡ own_part place.id place.part → (says saying said ≡ true) × (IsSaidThere saying facts place → ⊥)
    by (OfPart other there) g first is same =
        let s = some-place saying other there p g in
        let numbers : own_part other.id other.part ≡ own_part place.id place.part = s.1 ∙ same in
        let here : other ≡ place = own-place place.id.system other place is.system refl is.real own.real (ap (λ (q : OwnPart). q.fragment) numbers) (ap (λ (q : OwnPart). q.part) numbers) in
        let said_is : there ≡ said = same-said facts place there said (subst (λ (q : PartPlace). IsPartAt facts q there) here is.is) own.at in (
          ap (says saying) (sym said_is) ∙ s.0,
          λ b. up-not (OfPart other there) (OfPart b.0 b.1)
              (first (OfPart b.0 b.1) (own_part b.0.id b.0.part) (own-to facts place.id.system (OfPart b.0 b.1) (record { is = b.4; system = b.2; real = b.3 })) (place-says saying b.0 b.1 b.5))
              (subst (λ (q : PartPlace). PlaceBefore (part_place b.0) (part_place q)) (sym here) b.6),
        )
    by (OfAdj other reach k sid) g first is same = absurd (cc)
    by (OfPrefix other prefix k sid) g first is same = absurd (cc)

-- the two ways to say how many labels can be imposed
picks : {X Y : Type 0} (f : X → Option Y) (xs : List X) → filter_map f xs ≢ [] → is_some (slice_get (filter_map f xs) 0) ≡ true
picks {X} {Y} f xs some = by (filter_map f xs) some
  where
    by : (ys : List Y) → ys ≢ [] → is_some (slice_get ys 0) ≡ true
    by [] h = absurd (h refl)
    by (y ∷ ys) h = refl

picked : {Y : Type 0} (ys : List Y) → is_some (slice_get ys 0) ≡ true → ys ≢ []
picked [] e none = absurd (cc)
picked (y ∷ ys) e none = absurd (cc)

pub imposition-says : (said : Part) → SaysImposition said → says Imposition said ≡ true
imposition-says (part.Capability capability) h = picks imposition_by capability.msd h
imposition-says (part.Reach reach) h = absurd h
imposition-says (part.Prefix prefix) h = absurd h
imposition-says (part.Name name) h = absurd h
imposition-says (part.Risk risk) h = absurd h

pub says-imposition : (said : Part) → says Imposition said ≡ true → SaysImposition said
says-imposition (part.Capability capability) e = picked (filter_map imposition_by capability.msd) e
says-imposition (part.Reach reach) e = absurd (cc)
says-imposition (part.Prefix prefix) e = absurd (cc)
says-imposition (part.Name name) e = absurd (cc)
says-imposition (part.Risk risk) e = absurd (cc)
