-- Why a Prefix-SID doesn't give its node the index, by what the node chose.
use Rattle.std.proofs.Common.{◌≡◌, ℕ, ◌<◌, ◌≤◌, ◌⊎◌, inl, inr, ⊎_elim, ◌==◌, Bool, true, false, cond, Option, Some, None, refl, arith, ap, sym, ◌∙◌, subst, eq-eqb}
use Rattle.std.specs.Prelude.{bit_and, bit_or, slice_get}
use Rattle.sr_wire.specs.declared.registry.TheConstants.{ADDRESS_BITS, PREFIX_SID_NODE, PREFIX_SID_READVERTISED}
use Rattle.sr_subtlv.specs.declared.sid.Sid.{Sid}
use Rattle.sr_subtlv.specs.declared.sid.Sid.TheVariants.{Index, Label}
use Rattle.sr_subtlv.specs.declared.prefix_sid.PrefixSid.{PrefixSid}
use Rattle.sr_lsp.specs.declared.prefix.Prefix.{Prefix}
use Rattle.sr_lsp.specs.declared.table.Part.TheVariants as part
use Rattle.sr_lsdb.specs.declared.facts.Facts.{Facts}
use Rattle.sr_domain.specs.Nodes.{node_sid_by, node_sid_with, sid_in}
use Rattle.sr_account.specs.declared.aside.Place.{Place}
use Rattle.sr_account.specs.declared.aside.Reason.{Reason}
use Rattle.sr_account.specs.declared.aside.Reason.TheVariants.{NotHost, Algorithm, WrongForm, Flags, NotLeast, NotFirst}
use Rattle.sr_account.specs.declared.choice.Choice.{Choice}
use Rattle.sr_account.specs.declared.choice.Offer.{Offer}
use Rattle.sr_account.specs.Items.{PartPlace, PlaceBefore, item_place, sid_place}
use Rattle.sr_account.specs.Reasons.{IsCandidate, PrefixSidFails}
use Rattle.sr_account.specs.Steps.{IsFirstOf, IsOfferAt, IsOfferReason, IsOwnPart, IsFoundReason, offer_of, own_items}
use Rattle.sr_account.proofs.ItemLemmas.{Before, own-from, own-to}
use Rattle.sr_account.proofs.ChosenLemmas.{IsFirstLeast, IsLeastOf, IsOffering, UpTo, chosen-offer, offered, offering, own-place, up-not}
use Rattle.sr_account.proofs.ReasonLemmas.{NoneBelow, none-at-all}

pub prefix_sid-below : (facts : Facts) (place : PartPlace) (prefix : Prefix) (k : ℕ) (sid : PrefixSid) (n : ℕ) → (9 < n → PrefixSidFails facts place prefix k sid NotHost → ⊥) → (12 < n → PrefixSidFails facts place prefix k sid Algorithm → ⊥) → (13 < n → PrefixSidFails facts place prefix k sid WrongForm → ⊥) → (14 < n → PrefixSidFails facts place prefix k sid Flags → ⊥) → (16 < n → PrefixSidFails facts place prefix k sid NotLeast → ⊥) → (17 < n → PrefixSidFails facts place prefix k sid NotFirst → ⊥) → NoneBelow (PrefixSidFails facts place prefix k sid) n
prefix_sid-below facts place prefix k sid n p q r s t u NotHost lt h = p lt h
prefix_sid-below facts place prefix k sid n p q r s t u Algorithm lt h = q lt h
prefix_sid-below facts place prefix k sid n p q r s t u WrongForm lt h = r lt h
prefix_sid-below facts place prefix k sid n p q r s t u Flags lt h = s lt h
prefix_sid-below facts place prefix k sid n p q r s t u NotLeast lt h = t lt h
prefix_sid-below facts place prefix k sid n p q r s t u NotFirst lt h = u lt h
prefix_sid-below facts place prefix k sid n p q r s t u _ lt h = absurd h

-- the SID may give this index
pub record MayGive (prefix : Prefix) (sid : PrefixSid) (index : ℕ) : Type 0 where
  pub host : prefix.length ≡ ADDRESS_BITS
  pub algorithm : sid.algorithm ≡ 0
  pub form : sid.sid ≡ Index index
  pub flags : bit_and sid.flags (bit_or PREFIX_SID_READVERTISED PREFIX_SID_NODE) ≡ PREFIX_SID_NODE

gives-index : (prefix : Prefix) (sid : PrefixSid) (index : ℕ) → MayGive prefix sid index → node_sid_by sid ≡ Some (node_sid_with sid.flags index)
gives-index prefix sid index may =
    ap (λ (n : ℕ). cond (n == 0) (sid_in sid.flags sid.sid) None) may.algorithm
    ∙ ap (λ (s : Sid). sid_in sid.flags s) may.form
    ∙ ap (λ (b : Bool). cond b (Some (node_sid_with sid.flags index)) None) (eq-eqb (bit_and sid.flags (bit_or PREFIX_SID_READVERTISED PREFIX_SID_NODE)) PREFIX_SID_NODE may.flags)

-- none of the first four reasons holds
form-below : (facts : Facts) (place : PartPlace) (prefix : Prefix) (k : ℕ) (sid : PrefixSid) (index n : ℕ) → MayGive prefix sid index → (16 < n → PrefixSidFails facts place prefix k sid NotLeast → ⊥) → (17 < n → PrefixSidFails facts place prefix k sid NotFirst → ⊥) → NoneBelow (PrefixSidFails facts place prefix k sid) n
form-below facts place prefix k sid index n may least first = prefix_sid-below facts place prefix k sid n
    (λ _ h. h may.host)
    (λ _ h. h may.algorithm)
    (λ _ h. let clash : Index index ≡ Label h.0 = sym may.form ∙ h.1 in cc)
    (λ _ h. let clash : true ≡ false = sym (eq-eqb (bit_and sid.flags (bit_or PREFIX_SID_READVERTISED PREFIX_SID_NODE)) PREFIX_SID_NODE may.flags) ∙ h in cc)
    least first

module _ (facts : Facts) (choice : Choice) (place : PartPlace) (prefix : Prefix) (k : ℕ) (sid : PrefixSid) (index : ℕ) (own : IsOwnPart facts choice place (part.Prefix prefix)) (among : slice_get prefix.sids k ≡ Some sid) (may : MayGive prefix sid index) where
  -- the SID itself is a candidate
  self : IsCandidate facts place.id.system place k index
  self = record { own = refl; real = own.real; prefix = prefix; at = own.at; host = may.host; sid = sid; among = among; gives = (node_sid_with sid.flags index, gives-index prefix sid index may, refl) }

  -- what was chosen is at most a candidate's
  bound : (q : Offer) (h : IsFirstLeast (own_items facts place.id.system) q) (other : PartPlace) (j lesser : ℕ) (c : IsCandidate facts place.id.system other j lesser) → (q.index < lesser) ⊎ ((q.index ≡ lesser) × UpTo h.item (offered facts place.id.system other j lesser c).item)
  bound q h other j lesser c =
      let o = offered facts place.id.system other j lesser c in
      ⊎_elim
      (λ (lt : q.index < o.offer.index). inl (subst (λ (n : ℕ). q.index < n) o.index_is lt))
      (λ (same : (q.index ≡ o.offer.index) × UpTo h.item o.item). inr (same.0 ∙ o.index_is, same.1))
      (h.least o.item o.offer (own-to facts place.id.system o.item o.own) o.offers)

  chosen : (q : Offer) (h : IsFirstLeast (own_items facts place.id.system) q) → IsOffering facts place.id.system h.item q
  chosen q h = offering facts place.id.system h.item q (own-from facts place.id.system h.item own.order h.there) h.offers

  not-least : (q : Offer) → IsFirstLeast (own_items facts place.id.system) q → index ≤ q.index → PrefixSidFails facts place prefix k sid NotLeast → ⊥
  not-least q h le bad =
      let two : Index index ≡ Index bad.0 = sym may.form ∙ bad.1 in
      let same : index ≡ bad.0 = cc in
      let lt : bad.4 < bad.0 = bad.6 in
      ⊎_elim
      (λ (less : q.index < bad.4). omega arith)
      (λ (tie : (q.index ≡ bad.4) × UpTo h.item (offered facts place.id.system bad.2 bad.3 bad.4 bad.5).item). let e : q.index ≡ bad.4 = tie.0 in omega arith)
      (bound q h bad.2 bad.3 bad.4 bad.5)

  -- the chosen offer is that of the SID
  not-first : (q : Offer) → IsFirstLeast (own_items facts place.id.system) q → index ≤ q.index → IsOfferAt q place k → PrefixSidFails facts place prefix k sid NotFirst → ⊥
  not-first q h le at bad =
      let two : Index index ≡ Index bad.0 = sym may.form ∙ bad.1 in
      let same : index ≡ bad.0 = cc in
      let o = offered facts place.id.system bad.2 bad.3 bad.0 bad.4 in
      let g = chosen q h in
      let here : g.place ≡ place = own-place place.id.system g.place place g.candidate.own refl g.candidate.real own.real (sym g.at.0 ∙ at.0) (sym g.at.1 ∙ at.1) in
      let sid_is : g.k ≡ k = sym g.at.2 ∙ at.2 in
      let there : item_place h.item ≡ sid_place place k = g.is ∙ ap (λ (p : PartPlace). sid_place p g.k) here ∙ ap (sid_place place) sid_is in
      let before : PlaceBefore (item_place o.item) (item_place h.item) =
      subst (λ (p : Place). PlaceBefore (item_place o.item) p) (sym there) (subst (λ (p : Place). PlaceBefore p (sid_place place k)) (sym o.is) bad.5) in
      ⊎_elim
      (λ (less : q.index < bad.0). omega arith)
      (λ (tie : (q.index ≡ bad.0) × UpTo h.item o.item). up-not h.item o.item tie.1 before)
      (bound q h bad.2 bad.3 bad.0 bad.4)

  lesser-holds : (q : Offer) → IsFirstLeast (own_items facts place.id.system) q → q.index < index → PrefixSidFails facts place prefix k sid NotLeast
  lesser-holds q h lt = let g = chosen q h in (index, may.form, g.place, g.k, q.index, g.candidate, lt)

  first-holds : (q : Offer) → IsFirstLeast (own_items facts place.id.system) q → index ≤ q.index → (IsOfferAt q place k → ⊥) → PrefixSidFails facts place prefix k sid NotFirst
  first-holds q h le apart =
      let g = chosen q h in
      let o = offered facts place.id.system place k index self in
      ⊎_elim
      (λ (less : q.index < index). absurd (omega arith))
      (λ (tie : (q.index ≡ index) × UpTo h.item o.item). ⊎_elim
      (λ (same : h.item ≡ o.item).
      let two : Some q ≡ Some o.offer = sym h.offers ∙ ap offer_of same ∙ o.offers in
      let one : q ≡ o.offer = cc in
      absurd (apart (subst (λ (f : Offer). IsOfferAt f place k) (sym one) o.at)))
      (λ (before : Before h.item o.item). (
        index,
        may.form,
        g.place,
        g.k,
        subst (λ (n : ℕ). IsCandidate facts place.id.system g.place g.k n) tie.0 g.candidate,
        subst (λ (p : Place). PlaceBefore p (sid_place place k)) g.is (subst (λ (p : Place). PlaceBefore (item_place h.item) p) o.is before),
      ))
      tie.1)
      (bound q h place k index self)

  pub index-verdict : (o : Option Reason) → IsOfferReason choice.offer place k index o → IsFoundReason (PrefixSidFails facts place prefix k sid) o
  index-verdict o r = by choice.offer (chosen-offer facts choice place (part.Prefix prefix) own) o r
    where
      by : (c : Option Offer) → IsLeastOf (own_items facts place.id.system) c → (o : Option Reason) → IsOfferReason c place k index o → IsFoundReason (PrefixSidFails facts place prefix k sid) o
      by None h o r =
          let f = offered facts place.id.system place k index self in
          absurd (h f.item f.offer (own-to facts place.id.system f.item f.own) f.offers)
      by (Some q) h None r = none-at-all (PrefixSidFails facts place prefix k sid)
          (form-below facts place prefix k sid index 23 may (λ _ bad. not-least q h r.0 bad) (λ _ bad. not-first q h r.0 r.1 bad))
      by (Some q) h (Some reason) (inl r) = subst (IsFirstOf (PrefixSidFails facts place prefix k sid)) (sym r.1)
          (record { holds = lesser-holds q h r.0; first = form-below facts place prefix k sid index 16 may (λ lt bad. omega arith) (λ lt bad. omega arith) })
      by (Some q) h (Some reason) (inr r) = subst (IsFirstOf (PrefixSidFails facts place prefix k sid)) (sym r.2)
          (record { holds = first-holds q h r.0 r.1; first = form-below facts place prefix k sid index 17 may (λ _ bad. not-least q h r.0 bad) (λ lt bad. omega arith) })
