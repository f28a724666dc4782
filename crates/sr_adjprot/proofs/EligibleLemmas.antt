-- The labels that may be protected: from announcements in lists to the links of the net.
use Rattle.std.proofs.Common.{◌≡◌, ℕ, ◌<◌, ⊎_elim, Bool, true, false, cond, not, List, [], ◌∷◌, length, refl, arith, ap, sym, ◌∙◌, subst, Option, Some, None}
use Rattle.std.specs.Prelude.{Contains, MatchOption, slice_get, is_some, ◌&&◌, ◌==◌}
use Rattle.std.specs.List.{filter_map}
use Rattle.std.specs.Option.{IsSomeAnd}
use Rattle.std.proofs.lemmas.Bool.{false≢true}
use Rattle.std.proofs.lemmas.List.Elements.{Contains-append_left, Contains-append_right, Contains-append_cases}
use Rattle.std.proofs.lemmas.List.Sorted.{IsPermutation-sym, Contains-permutation}
use Rattle.std.proofs.lemmas.Option.{same_Some}
use Rattle.sr_model.specs.declared.name.LinkKey.{LinkKey}
use Rattle.sr_model.specs.Key.{mirror}
use Rattle.sr_model.specs.KeyOrder.{same_key}
use Rattle.sr_model.specs.Graph.{link_count, link_at}
use Rattle.sr_model.specs.Case.{key_at}
use Rattle.sr_model.specs.Label.{Net, adj_at}
use Rattle.sr_laws.proofs.Keys.{key-one}
use Rattle.sr_subtlv.specs.declared.adj_sid.AdjSid.{AdjSid}
use Rattle.sr_lsp.specs.declared.lsp.LspId.{LspId}
use Rattle.sr_lsp.specs.declared.reach.Reach.{Reach as ReachPart}
use Rattle.sr_lsp.specs.declared.table.Part.{Part}
use Rattle.sr_lsp.specs.declared.table.Part.TheVariants.{Reach}
use Rattle.sr_lsdb.specs.declared.facts.Stored.{Stored}
use Rattle.sr_lsdb.specs.declared.facts.Facts.{Facts}
use Rattle.sr_lsdb.specs.declared.announcement.Announcement.{Announcement}
use Rattle.sr_domain.specs.declared.links.FoundLink.{FoundLink}
use Rattle.sr_lsdb.specs.Announcement.{announced_by, announcement_of, adj_label, adj_sid_labels, least, lesser}
use Rattle.sr_domain.specs.Announced.{counts, parts_of, announced_in, announcements_of, is_announced, two_way_of}
use Rattle.sr_domain.specs.Least.{IsLeastNumber, IsAdjLabel}
use Rattle.sr_domain.specs.Links.{is_in_use, link_by, link_of, links_of, labelled}
use Rattle.sr_domain.specs.Net.{IsNetOf}
use Rattle.sr_domain.proofs.FlatLemmas.{adj_label-least}
use Rattle.sr_domain.proofs.KeyLemmas.{any-to, any-from, same-from, same-itself}
use Rattle.sr_domain.proofs.MemberLemmas.{here, later, cases, nowhere, picked-from, picked-to}
use Rattle.sr_domain.proofs.NetLemmas.{found_as}
use Rattle.sr_adjprot.specs.declared.protected.Flagged.{Flagged}
use Rattle.sr_adjprot.specs.Eligible.{AnnouncesReach, IsEligible}
use Rattle.sr_adjprot.specs.Protected.{if_used, flagged, flagged_by, flagged_in, flagged_of, if_protected, protected_of}
use Rattle.sr_domain.proofs.MemberLemmas.{filtered-from, filtered-to}
use Rattle.sr_domain.proofs.NetLemmas.{labelled-from, labelled-to}

-- ---- what a filter keeps

-- ---- keys

-- ---- announcements and their places in the database

-- a live LSP that counts has this part
pub record HasPart (facts : Facts) (entry : LspId × Stored) (part : Part) : Type 0 where
  pub counted : counts facts entry.0 ≡ true
  pub part_is : Contains (parts_of entry.1.live) part

flagged-from : (facts : Facts) (es : List (LspId × Stored)) (a : Flagged) → Contains (flagged_in facts es) a → (entry : LspId × Stored) × (part : Part) × Contains es entry × HasPart facts entry part × (flagged_by facts entry.0.system part ≡ Some a)
flagged-from facts [] a c = absurd (nowhere a c)
flagged-from facts (entry ∷ es) a c = ⊎_elim
    (λ (first : Contains (cond (counts facts entry.0) (filter_map (flagged_by facts entry.0.system) (parts_of entry.1.live)) []) a). by (counts facts entry.0) refl first)
    (λ (more : Contains (flagged_in facts es) a). let r = flagged-from facts es a more in (r.0, r.1, later entry es r.0 r.2, r.3, r.4))
    (Contains-append_cases (cond (counts facts entry.0) (filter_map (flagged_by facts entry.0.system) (parts_of entry.1.live)) []) (flagged_in facts es) a c)
  where
    by : (b : Bool) → counts facts entry.0 ≡ b → Contains (cond b (filter_map (flagged_by facts entry.0.system) (parts_of entry.1.live)) []) a → (entry' : LspId × Stored) × (part : Part) × Contains (entry ∷ es) entry' × HasPart facts entry' part × (flagged_by facts entry'.0.system part ≡ Some a)
    by true e h = let p = picked-from (flagged_by facts entry.0.system) (parts_of entry.1.live) a h in (entry, p.0, here entry es, record { counted = e; part_is = p.1 }, p.2)
    by false e h = absurd (nowhere a h)

flagged-to : (facts : Facts) (es : List (LspId × Stored)) (entry : LspId × Stored) (part : Part) (a : Flagged) → Contains es entry → HasPart facts entry part → flagged_by facts entry.0.system part ≡ Some a → Contains (flagged_in facts es) a
flagged-to facts [] entry part a c has e = absurd (nowhere entry c)
flagged-to facts (x ∷ es) entry part a c has e = ⊎_elim
    (λ (same : x ≡ entry). Contains-append_left (own x) (flagged_in facts es) a (subst (λ (y : LspId × Stored). Contains (own y) a) (sym same) mine))
    (λ (more : Contains es entry). Contains-append_right (own x) (flagged_in facts es) a (flagged-to facts es entry part a more has e))
    (cases x es entry c)
  where
    own : LspId × Stored → List Flagged
    own y = cond (counts facts y.0) (filter_map (flagged_by facts y.0.system) (parts_of y.1.live)) []

    mine : Contains (own entry) a
    mine = subst (λ (b : Bool). Contains (cond b (filter_map (flagged_by facts entry.0.system) (parts_of entry.1.live)) []) a) (sym has.counted) (picked-to (flagged_by facts entry.0.system) (parts_of entry.1.live) part a has.part_is e)

announced-to : (facts : Facts) (es : List (LspId × Stored)) (entry : LspId × Stored) (part : Part) (a : Announcement) → Contains es entry → HasPart facts entry part → announced_by entry.0.system part ≡ Some a → Contains (announced_in facts es) a
announced-to facts [] entry part a c has e = absurd (nowhere entry c)
announced-to facts (x ∷ es) entry part a c has e = ⊎_elim
    (λ (same : x ≡ entry). Contains-append_left (own x) (announced_in facts es) a (subst (λ (y : LspId × Stored). Contains (own y) a) (sym same) mine))
    (λ (more : Contains es entry). Contains-append_right (own x) (announced_in facts es) a (announced-to facts es entry part a more has e))
    (cases x es entry c)
  where
    own : LspId × Stored → List Announcement
    own y = cond (counts facts y.0) (filter_map (announced_by y.0.system) (parts_of y.1.live)) []

    mine : Contains (own entry) a
    mine = subst (λ (b : Bool). Contains (cond b (filter_map (announced_by entry.0.system) (parts_of entry.1.live)) []) a) (sym has.counted) (picked-to (announced_by entry.0.system) (parts_of entry.1.live) part a has.part_is e)

-- ---- the links of the net

link-key : (facts : Facts) (a : Announcement) (x : FoundLink) → link_by facts a ≡ Some x → a.key ≡ x.key
link-key facts a x e = by (is_in_use facts a) e
  where
    by : (b : Bool) → cond b (Some (link_of facts a)) None ≡ Some x → a.key ≡ x.key
    by true h = ap (λ (l : FoundLink). l.key) (same_Some (link_of facts a) x h)
    by false h = absurd (cc)

-- the net takes the label of a link from its announcement in use
taken : (facts : Facts) (net : Net) → IsNetOf facts net → (a : Announcement) (l : ℕ) → Contains (announcements_of facts) a → is_in_use facts a ≡ true → l < link_count net.graph → a.key ≡ key_at net.graph l → adj_at net l ≡ a.label
taken facts net is a l there used within named =
    let found : FoundLink = found_as (link_at net.graph l) (adj_at net l) in
    let moved : Contains (links_of facts) found = Contains-permutation (labelled net.graph.links net.adj) (links_of facts) found (IsPermutation-sym (links_of facts) (labelled net.graph.links net.adj) is.links) (labelled-to net.graph.links net.adj l is.accepted.links within) in
    let b = picked-from (link_by facts) (two_way_of facts) found moved in
    let key : b.0.key ≡ key_at net.graph l = link-key facts b.0 found b.2 in
    let test : Announcement → Bool = λ c. is_announced (announcements_of facts) (mirror c.key) in
    let both : is_announced (announcements_of facts) (mirror b.0.key) ≡ true = (filtered-from test (announcements_of facts) b.0 b.1).1 in
    let ours : is_announced (announcements_of facts) (mirror a.key) ≡ true = ap (λ (k : LinkKey). is_announced (announcements_of facts) (mirror k)) (named ∙ sym key) ∙ both in
    let kept : Contains (two_way_of facts) a = filtered-to test (announcements_of facts) a there ours in
    let link : link_by facts a ≡ Some (link_of facts a) = ap (λ (t : Bool). cond t (Some (link_of facts a)) None) used in
    let stands : Contains (labelled net.graph.links net.adj) (link_of facts a) = Contains-permutation (links_of facts) (labelled net.graph.links net.adj) (link_of facts a) is.links (picked-to (link_by facts) (two_way_of facts) a (link_of facts a) kept link) in
    let at = labelled-from net.graph.links net.adj (link_of facts a) stands in
    let same : at.0 ≡ l = key-one net.graph is.accepted.named at.0 l at.1 within (ap (λ (x : FoundLink). x.key) (sym at.2) ∙ named) in
    ap (adj_at net) (sym same) ∙ ap (λ (x : FoundLink). x.label) (sym at.2)

-- ---- labels with the flag B

none-there : (xs : List ℕ) → is_some (least xs) ≡ false → xs ≡ []
none-there [] e = refl
none-there (x ∷ xs) e = absurd (by (least xs) e)
  where
    by : (o : Option ℕ) → is_some (lesser o x) ≡ false → ⊥
    by None h = false≢true (sym h)
    by (Some y) h = false≢true (sym h)

first-there : (x : ℕ) (xs : List ℕ) → is_some (least (x ∷ xs)) ≡ true
first-there x xs = by (least xs)
  where
    by : (o : Option ℕ) → is_some (lesser o x) ≡ true
    by None = refl
    by (Some y) = refl

pub some-there : (xs : List ℕ) → 0 < length xs → is_some (least xs) ≡ true
some-there [] few = absurd (omega arith)
some-there (x ∷ xs) few = first-there x xs

pub there-some : (xs : List ℕ) → is_some (least xs) ≡ true → 0 < length xs
there-some [] e = absurd (false≢true e)
there-some (x ∷ xs) e = omega arith

place-there : (xs : List ℕ) (k t : ℕ) → slice_get xs k ≡ Some t → 0 < length xs
place-there [] k t e = absurd (cc)
place-there (x ∷ xs) k t e = omega arith

-- a link without labels with the flag clear has the least with it set
backup-label : (sids : List AdjSid) → adj_sid_labels false sids ≡ [] → is_some (least (adj_sid_labels true sids)) ≡ true → IsSomeAnd (adj_label sids) (IsLeastNumber (adj_sid_labels true sids))
backup-label sids clear some =
    let is : IsAdjLabel sids (adj_label sids) = adj_label-least sids in
    by (adj_label sids) (is.set clear)
  where
    by : (o : Option ℕ) → MatchOption o (adj_sid_labels true sids ≡ []) (IsLeastNumber (adj_sid_labels true sids)) → IsSomeAnd o (IsLeastNumber (adj_sid_labels true sids))
    by None none = absurd (false≢true (sym (ap (λ (xs : List ℕ). is_some (least xs)) none) ∙ some))
    by (Some t) least = least

label-there : (sids : List AdjSid) (label : Option ℕ) → IsSomeAnd label (IsLeastNumber (adj_sid_labels true sids)) → is_some (least (adj_sid_labels true sids)) ≡ true
label-there sids None is = absurd is
label-there sids (Some t) is = some-there (adj_sid_labels true sids) (place-there (adj_sid_labels true sids) is.place t is.stands)

-- ---- parts

-- what a part says that gives its link a label with the flag B
pub record IsFlaggedPart (facts : Facts) (node : ℕ) (part : Part) (one : Flagged) : Type 0 where
  pub reach : ReachPart
  pub part_is : part ≡ Reach reach
  pub label : least (adj_sid_labels true reach.adj) ≡ Some one.label
  pub clear : one.clear ≡ is_some (least (adj_sid_labels false reach.adj))
  pub announces : announced_by node (Reach reach) ≡ Some one.announcement
  pub announced : announcement_of node reach ≡ one.announcement
  pub used : is_in_use facts one.announcement ≡ true

announced-is : (node : ℕ) (reach : ReachPart) (a : Announcement) → announced_by node (Reach reach) ≡ Some a → announcement_of node reach ≡ a
announced-is node reach a e = by ((reach.pseudonode == 0) && not (reach.neighbour == node)) e
  where
    by : (t : Bool) → cond t (Some (announcement_of node reach)) None ≡ Some a → announcement_of node reach ≡ a
    by true h = same_Some (announcement_of node reach) a h
    by false h = absurd (cc)

used-is : (facts : Facts) (o : Option Announcement) (a : Announcement) → if_used facts o ≡ Some a → (o ≡ Some a) × (is_in_use facts a ≡ true)
used-is facts None a e = absurd (cc)
used-is facts (Some b) a e = by (is_in_use facts b) refl e
  where
    by : (t : Bool) → is_in_use facts b ≡ t → cond t (Some b) None ≡ Some a → (Some b ≡ Some a) × (is_in_use facts a ≡ true)
    by true u h = (h, ap (is_in_use facts) (sym (same_Some b a h)) ∙ u)
    by false u h = absurd (cc)

flagged-is : (o : Option Announcement) (label : Option ℕ) (clear : Bool) (one : Flagged) → flagged o label clear ≡ Some one → (o ≡ Some one.announcement) × (label ≡ Some one.label) × (one.clear ≡ clear)
flagged-is None label clear one e = absurd (cc)
flagged-is (Some a) None clear one e = absurd (cc)
flagged-is (Some a) (Some t) clear one e =
    let is : record { announcement = a; label = t; clear = clear } ≡ one = same_Some (record { announcement = a; label = t; clear = clear }) one e in
    (ap (λ (f : Flagged). Some f.announcement) is, ap (λ (f : Flagged). Some f.label) is, sym (ap (λ (f : Flagged). f.clear) is))

part-from : (facts : Facts) (node : ℕ) (part : Part) (one : Flagged) → flagged_by facts node part ≡ Some one → IsFlaggedPart facts node part one
part-from facts node (Reach reach) one e =
    let is = flagged-is (if_used facts (announced_by node (Reach reach))) (least (adj_sid_labels true reach.adj)) (is_some (least (adj_sid_labels false reach.adj))) one e in
    let u = used-is facts (announced_by node (Reach reach)) one.announcement is.0 in
    record {
      reach = reach;
      part_is = refl;
      label = is.1;
      clear = is.2;
      announces = u.0;
      announced = announced-is node reach one.announcement u.0;
      used = u.1;
    }
part-from facts node _ one e = absurd (cc)

-- the part is listed with its least label with the flag B
part-to : (facts : Facts) (node : ℕ) (reach : ReachPart) (a : Announcement) → is_some (least (adj_sid_labels true reach.adj)) ≡ true → announced_by node (Reach reach) ≡ Some a → is_in_use facts a ≡ true → (t : ℕ) × (least (adj_sid_labels true reach.adj) ≡ Some t) × (flagged_by facts node (Reach reach) ≡ Some (record { announcement = a; label = t; clear = is_some (least (adj_sid_labels false reach.adj)) }))
part-to facts node reach a some announces used = by (least (adj_sid_labels true reach.adj)) some
  where
    there : if_used facts (announced_by node (Reach reach)) ≡ Some a
    there = ap (if_used facts) announces ∙ ap (λ (t : Bool). cond t (Some a) None) used

    by : (o : Option ℕ) → is_some o ≡ true → (t : ℕ) × (o ≡ Some t) × (flagged (if_used facts (announced_by node (Reach reach))) o (is_some (least (adj_sid_labels false reach.adj))) ≡ Some (record { announcement = a; label = t; clear = is_some (least (adj_sid_labels false reach.adj)) }))
    by None e = absurd (false≢true e)
    by (Some t) e = (t, refl, ap (λ (o : Option Announcement). flagged o (Some t) (is_some (least (adj_sid_labels false reach.adj)))) there)

-- ---- places in the database

-- one of the list, where it stands, and what its part says
pub record IsFound (facts : Facts) (one : Flagged) : Type 0 where
  pub entry : LspId × Stored
  pub part : Part
  pub stands : Contains facts.database entry
  pub has : HasPart facts entry part
  pub says : IsFlaggedPart facts entry.0.system part one

pub found-from : (facts : Facts) (one : Flagged) → Contains (flagged_of facts) one → IsFound facts one
found-from facts one there =
    let at = flagged-from facts facts.database one there in
    record { entry = at.0; part = at.1; stands = at.2; has = at.3; says = part-from facts at.0.0.system at.1 one at.4 }

-- its part announces its link
abbrev pub found-announces : (facts : Facts) (one : Flagged) → (f : IsFound facts one) → AnnouncesReach facts f.entry.0.system f.says.reach
found-announces facts one f = record {
  id = f.entry.0;
  stored = f.entry.1;
  stands = f.stands;
  counted = f.has.counted;
  own = refl;
  part = subst (λ (x : Part). Contains (parts_of f.entry.1.live) x) f.says.part_is f.has.part_is;
  announces = f.says.announces ∙ ap Some (sym f.says.announced);
}

-- what is announced of a link in use with a label with the flag B is in the list
pub found-to : (facts : Facts) (node : ℕ) (reach : ReachPart) → AnnouncesReach facts node reach → is_in_use facts (announcement_of node reach) ≡ true → is_some (least (adj_sid_labels true reach.adj)) ≡ true → (t : ℕ) × (least (adj_sid_labels true reach.adj) ≡ Some t) × Contains (flagged_of facts) (record { announcement = announcement_of node reach; label = t; clear = is_some (least (adj_sid_labels false reach.adj)) })
found-to facts node reach announced used some =
    let a : Announcement = announcement_of node reach in
    let by_node = part-to facts node reach a some announced.announces used in
    let one : Flagged = record { announcement = a; label = by_node.0; clear = is_some (least (adj_sid_labels false reach.adj)) } in
    let by : flagged_by facts announced.id.system (Reach reach) ≡ Some one = subst (λ (n : ℕ). flagged_by facts n (Reach reach) ≡ Some one) (sym announced.own) by_node.2 in
    (by_node.0, by_node.1, flagged-to facts facts.database (announced.id, announced.stored) (Reach reach) one announced.stands (record { counted = announced.counted; part_is = announced.part }) by)

-- ---- the two ways

protected-is : (one : Flagged) (a : Announcement) → if_protected one ≡ Some a → (one.clear ≡ false) × (one.announcement ≡ a)
protected-is one a e = by one.clear refl e
  where
    by : (t : Bool) → one.clear ≡ t → cond t None (Some one.announcement) ≡ Some a → (one.clear ≡ false) × (one.announcement ≡ a)
    by true c h = absurd (cc)
    by false c h = (c, same_Some one.announcement a h)

pub eligible-from : (facts : Facts) (net : Net) → IsNetOf facts net → (l : ℕ) → l < link_count net.graph → is_announced (protected_of facts) (key_at net.graph l) ≡ true → IsEligible facts net l
eligible-from facts net is l within e =
    let a = any-to (λ (b : Announcement). same_key (key_at net.graph l) b.key) (protected_of facts) e in
    let named : a.0.key ≡ key_at net.graph l = sym (same-from (key_at net.graph l) a.0.key a.2) in
    let at = picked-from if_protected (flagged_of facts) a.0 a.1 in
    let p = protected-is at.0 a.0 at.2 in
    made at.0 (ap (λ (b : Announcement). b.key) p.1 ∙ named) p.0 (found-from facts at.0 at.1)
  where
    made : (one : Flagged) → one.announcement.key ≡ key_at net.graph l → one.clear ≡ false → IsFound facts one → IsEligible facts net l
    made one named alone f =
        let p = f.says in
        let sids = p.reach.adj in
        let link = found-announces facts one f in
        let found : Contains (announcements_of facts) one.announcement = announced-to facts facts.database f.entry (Reach p.reach) one.announcement f.stands (record { counted = f.has.counted; part_is = link.part }) p.announces in
        let clear : adj_sid_labels false sids ≡ [] = none-there (adj_sid_labels false sids) (sym p.clear ∙ alone) in
        let backup = backup-label sids clear (ap is_some p.label) in
        let label : adj_at net l ≡ adj_label sids = taken facts net is one.announcement l found p.used within named ∙ ap (λ (x : Announcement). x.label) (sym p.announced) in
        record {
          node = f.entry.0.system;
          reach = p.reach;
          announced = link;
          used = ap (is_in_use facts) p.announced ∙ p.used;
          named = ap (λ (x : Announcement). x.key) p.announced ∙ named;
          clear = clear;
          label = subst (λ (o : Option ℕ). IsSomeAnd o (IsLeastNumber (adj_sid_labels true sids))) (sym label) backup;
        }

pub eligible-to : (facts : Facts) (net : Net) (l : ℕ) → IsEligible facts net l → is_announced (protected_of facts) (key_at net.graph l) ≡ true
eligible-to facts net l is =
    let a : Announcement = announcement_of is.node is.reach in
    let f = found-to facts is.node is.reach is.announced is.used (label-there is.reach.adj (adj_at net l) is.label) in
    let one : Flagged = record { announcement = a; label = f.0; clear = is_some (least (adj_sid_labels false is.reach.adj)) } in
    let alone : if_protected one ≡ Some a = ap (λ (xs : List ℕ). cond (is_some (least xs)) None (Some a)) is.clear in
    let there : Contains (protected_of facts) a = picked-to if_protected (flagged_of facts) one a f.2 alone in
    any-from (λ (b : Announcement). same_key (key_at net.graph l) b.key) (protected_of facts) a there (ap (same_key (key_at net.graph l)) is.named ∙ same-itself (key_at net.graph l))
