-- A shared-risk part gives a link a group exactly where no reason holds of it and of its LSP.
use Rattle.std.proofs.Common.{◌≡◌, ℕ, ◌<◌, Bool, true, cond, List, [], ◌∷◌, ◌++◌, map, refl, ap, sym, ◌∙◌, subst, inl, inr}
use Rattle.std.specs.Prelude.{Contains, ◌&&◌}
use Rattle.std.specs.Cmp.{Equal-is}
use Rattle.std.specs.List.{flat_map, list_any}
use Rattle.std.specs.Ordering.{is_eq, nat_cmp}
use Rattle.std.specs.declared.cmp.Ordering.{Ordering}
use Rattle.std.specs.declared.cmp.Ordering.TheVariants.{Less, Equal, Greater}
use Rattle.std.proofs.lemmas.Bool.{and_from, cases_eq, eq-eqb}
use Rattle.std.proofs.lemmas.Cmp.{nat_cmp_total, tied_itself}
use Rattle.std.proofs.lemmas.Map.Lookups.{exact_unsigned}
use Rattle.sr_model.specs.declared.name.PairKey.{PairKey}
use Rattle.sr_model.specs.Key.{pair_of}
use Rattle.sr_model.specs.Graph.{groups_at, link_at, link_count}
use Rattle.sr_model.specs.Label.{Net}
use Rattle.sr_lsp.specs.declared.lsp.LspId.{LspId}
use Rattle.sr_lsp.specs.declared.risk.Risk.{Risk}
use Rattle.sr_lsp.specs.declared.table.Part.{Part}
use Rattle.sr_lsp.specs.declared.table.Part.TheVariants as part
use Rattle.sr_lsdb.specs.declared.facts.Stored.{Stored}
use Rattle.sr_lsdb.specs.declared.facts.Facts.{Facts}
use Rattle.sr_lsdb.specs.Order.{pair_cmp}
use Rattle.sr_lsdb.proofs.OrderLemmas.{pair_exact, pair_total}
use Rattle.sr_lsdb.specs.declared.announcement.Announcement.{Announcement}
use Rattle.sr_domain.specs.declared.links.FoundLink.{FoundLink}
use Rattle.sr_domain.specs.declared.risks.RiskNote.{RiskNote}
use Rattle.sr_domain.specs.Announced.{announcements_of, counts, parts_of}
use Rattle.sr_domain.specs.Groups.{is_group_of, name_of, notes_by, notes_from, notes_in, notes_of, same_number, same_pair, speaks_of}
use Rattle.sr_domain.specs.Links.{link_of, links_of}
use Rattle.sr_domain.specs.Net.{IsNetOf}
use Rattle.sr_domain.proofs.KeyLemmas.{any-from, any-to}
use Rattle.sr_domain.proofs.MemberLemmas.{here, mapped-to, nowhere}
use Rattle.sr_account.specs.declared.aside.Reason.{Reason}
use Rattle.sr_account.specs.declared.aside.Reason.TheVariants.{Pseudonode, NoGroups, NoLink, LinkUnused}
use Rattle.sr_account.specs.Items.{IsPartAt, PartPlace}
use Rattle.sr_account.specs.Reasons.{IsPairUsed, LspFails, NamesLink, RiskFails}
use Rattle.sr_account.specs.Used.{GivesGroup}
use Rattle.sr_account.proofs.SearchLaw.{Decided, at-place, decided-both, decided-test, flat-to, search-list, stable}
use Rattle.sr_account.proofs.PlaceLaw.{entry-from}
use Rattle.sr_account.proofs.LinkLaw.{counted, found-to, link-from, link-to}
use Rattle.sr_account.proofs.ReachUsed.{lsp-used, node-used}

-- ---- notes

notes_from-flat : (node : ℕ) (parts : List Part) → notes_from node parts ≡ flat_map (notes_by node) parts
notes_from-flat node [] = refl
notes_from-flat node (x ∷ parts) = ap (λ (rest : List RiskNote). notes_by node x ++ rest) (notes_from-flat node parts)

-- what an LSP says of groups, where it counts
abbrev own_notes : Facts → LspId × Stored → List RiskNote
own_notes facts entry = cond (counts facts entry.0) (notes_from entry.0.system (parts_of entry.1.live)) []

notes-flat : (facts : Facts) (es : List (LspId × Stored)) → notes_in facts es ≡ flat_map (own_notes facts) es
notes-flat facts [] = refl
notes-flat facts (e ∷ es) = ap (λ (rest : List RiskNote). own_notes facts e ++ rest) (notes-flat facts es)

-- the note of a group of a shared-risk part
abbrev note_of : ℕ → Risk → ℕ → RiskNote
note_of node risk group = record { name = name_of node risk; group = group }

note-to : (facts : Facts) (place : PartPlace) (risk : Risk) (group : ℕ) → IsPartAt facts place (part.Risk risk) → counts facts place.id ≡ true → risk.pseudonode ≡ 0 → Contains risk.groups group → Contains (notes_of facts) (note_of place.id.system risk group)
note-to facts place risk group at counted real said =
    let node : ℕ = place.id.system in
    let note : RiskNote = note_of node risk group in
    let entry = entry-from facts place (part.Risk risk) at in
    let parts : List Part = parts_of entry.0.live in
    let by_part : Contains (notes_by node (part.Risk risk)) note = subst (λ (b : Bool). Contains (cond b (map (note_of node risk) risk.groups) []) note) (sym (eq-eqb risk.pseudonode 0 real)) (mapped-to (note_of node risk) risk.groups group said) in
    let by_parts : Contains (notes_from node parts) note = subst (λ (xs : List RiskNote). Contains xs note) (sym (notes_from-flat node parts)) (flat-to (notes_by node) parts (part.Risk risk) note (at-place parts place.part (part.Risk risk) entry.2) by_part) in
    let own : Contains (own_notes facts (place.id, entry.0)) note = subst (λ (b : Bool). Contains (cond b (notes_from node parts) []) note) (sym counted) by_parts in
    subst (λ (xs : List RiskNote). Contains xs note) (sym (notes-flat facts facts.database)) (flat-to (own_notes facts) facts.database (place.id, entry.0) note entry.1 own)

-- ---- pairs and groups

decided-pair : (a b : PairKey) → Decided (a ≡ b)
decided-pair a b = by (pair_cmp a b) refl
  where
    tied : a ≡ b → pair_cmp a b ≡ Equal
    tied same = ap (pair_cmp a) (sym same) ∙ tied_itself pair_total a

    by : (r : Ordering) → pair_cmp a b ≡ r → Decided (a ≡ b)
    by Less e = inr (λ same. let bad : Less ≡ Equal = sym e ∙ tied same in absurd (cc))
    by Equal e = inl (pair_exact a b e)
    by Greater e = inr (λ same. let bad : Greater ≡ Equal = sym e ∙ tied same in absurd (cc))

decided-used : (facts : Facts) (a : Announcement) → Decided (IsPairUsed facts a)
decided-used facts a = search-list (λ (link : FoundLink). pair_of link.key ≡ pair_of a.key) (links_of facts) (λ link. decided-pair (pair_of link.key) (pair_of a.key))

some-group : (groups : List ℕ) → (groups ≡ [] → ⊥) → (group : ℕ) × Contains groups group
some-group [] some = absurd (some refl)
some-group (g ∷ gs) some = (g, here g gs)

-- a group that some note gives to an announcement is one of the link of its pair
group-there : (facts : Facts) (net : Net) → IsNetOf facts net → (a : Announcement) (note : RiskNote) (l : ℕ) → Contains (announcements_of facts) a → Contains (notes_of facts) note → speaks_of note a ≡ true → l < link_count net.graph → pair_of (link_at net.graph l).key ≡ pair_of a.key → Contains (groups_at net.graph l) note.group
group-there facts net is a note l there noted speaks within pair =
    let own : PairKey = pair_of (link_at net.graph l).key in
    let tied : same_pair own (pair_of a.key) ≡ true = ap is_eq (ap (λ (p : PairKey). pair_cmp p (pair_of a.key)) pair ∙ tied_itself pair_total (pair_of a.key)) in
    let given : list_any (λ (n : RiskNote). same_number note.group n.group && speaks_of n a) (notes_of facts) ≡ true = any-from (λ (n : RiskNote). same_number note.group n.group && speaks_of n a) (notes_of facts) note noted (and_from (same_number note.group note.group) (speaks_of note a) (ap is_eq (tied_itself nat_cmp_total note.group)) speaks) in
    let of_pair : is_group_of (announcements_of facts) (notes_of facts) own note.group ≡ true = any-from (λ (b : Announcement). same_pair own (pair_of b.key) && list_any (λ (n : RiskNote). same_number note.group n.group && speaks_of n b) (notes_of facts)) (announcements_of facts) a there (and_from (same_pair own (pair_of a.key)) (list_any (λ (n : RiskNote). same_number note.group n.group && speaks_of n a) (notes_of facts)) tied given) in
    let r = any-to (same_number note.group) (groups_at net.graph l) ((is.groups l within).each note.group ∙ of_pair) in
    subst (λ (g : ℕ). Contains (groups_at net.graph l) g) (sym (exact_unsigned note.group r.0 ((Equal-is (nat_cmp note.group r.0)).0 r.2))) r.1

-- ---- the two ways

pub risk-used : (facts : Facts) (net : Net) → IsNetOf facts net → (place : PartPlace) (risk : Risk) → IsPartAt facts place (part.Risk risk) → ((r : Reason) → LspFails facts place.id r → ⊥) → ((r : Reason) → RiskFails facts place.id.system risk r → ⊥) → GivesGroup facts net place.id risk
risk-used facts net is place risk at clear free =
    let node : ℕ = place.id.system in
    let lsp = lsp-used facts place.id clear in
    let v = node-used facts net is place.id clear in
    let real : risk.pseudonode ≡ 0 = stable (cases_eq risk.pseudonode 0) (free Pseudonode) in
    let group = some-group risk.groups (free NoGroups) in
    let found = stable
    (search-list (λ (a : Announcement). NamesLink node risk a × IsPairUsed facts a) (announcements_of facts) (λ a. decided-both (decided-test _) (decided-used facts a)))
    (λ none. free LinkUnused (λ a there names used. none (a, there, (names, used)))) in
    let used = found.2.1 in
    let l = link-to facts net is used.0 used.1 in
    let pair : pair_of (link_at net.graph l.0).key ≡ pair_of found.0.key = ap (λ (x : FoundLink). pair_of x.key) (sym l.2) ∙ used.2 in
    record {
      node = v.0;
      of_node = v.1;
      real = real;
      announcement = found.0;
      announced = found.1;
      names = found.2.0;
      link = l.0;
      within = l.1;
      pair = pair;
      group = group.0;
      said = group.1;
      is_group = group-there facts net is found.0 (note_of node risk group.0) l.0 found.1 (note-to facts place risk group.0 at (counted facts place.id lsp.0 lsp.1) real group.1) found.2.0 l.1 pair;
    }

pub risk-free : (facts : Facts) (net : Net) → IsNetOf facts net → (id : LspId) (risk : Risk) → GivesGroup facts net id risk → (r : Reason) → RiskFails facts id.system risk r → ⊥
risk-free facts net is id risk gives Pseudonode fails = fails gives.real
risk-free facts net is id risk gives NoGroups fails = nowhere gives.group (subst (λ (xs : List ℕ). Contains xs gives.group) fails gives.said)
risk-free facts net is id risk gives NoLink fails = fails gives.announcement gives.announced gives.names
risk-free facts net is id risk gives LinkUnused fails =
    let found = link-from facts net is gives.link gives.within in
    let key : found.a.key ≡ (link_at net.graph gives.link).key = ap (λ (x : FoundLink). x.key) found.is in
    fails gives.announcement gives.announced gives.names
    (link_of facts found.a, found-to facts found.a found.there found.both found.used, ap pair_of key ∙ gives.pair)
risk-free facts net is id risk gives _ fails = fails
