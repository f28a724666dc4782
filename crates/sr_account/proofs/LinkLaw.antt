-- The nodes and the links of a net, and the announcements that they come from.
use Rattle.std.proofs.Common.{◌≡◌, ℕ, ◌<◌, Bool, true, false, cond, not, List, [], ◌∷◌, ◌++◌, length, get_or, refl, arith, ap, sym, ◌∙◌, subst, Some, None}
use Rattle.std.specs.Prelude.{Contains, is_some, ◌==◌, ◌&&◌}
use Rattle.std.specs.List.{filter_map, flat_map}
use Rattle.std.specs.Cmp.{Equal-is}
use Rattle.std.proofs.lemmas.Bool.{and_from, and_parts, eq-eqb, eqb-false, eqb-true, not-true}
use Rattle.std.proofs.lemmas.List.{get_or-map, get_or_default}
use Rattle.std.proofs.lemmas.List.Sorted.{IsPermutation-sym, Contains-permutation}
use Rattle.std.proofs.lemmas.Option.{cond_some, none-some}
use Rattle.sr_model.specs.declared.name.LinkKey.{LinkKey}
use Rattle.sr_model.specs.Key.{mirror}
use Rattle.sr_model.specs.KeyOrder.{key_cmp, same_key}
use Rattle.sr_model.proofs.KeyOrderLemmas.{key-from_cmp}
use Rattle.sr_model.specs.Graph.{node_count, link_count, link_at, system_at}
use Rattle.sr_model.specs.Label.{Labels, Net, adj_at, labels_at, nameless}
use Rattle.sr_lsp.specs.declared.lsp.LspId.{LspId}
use Rattle.sr_lsp.specs.declared.reach.Reach.{Reach}
use Rattle.sr_lsp.specs.declared.table.Part.{Part}
use Rattle.sr_lsp.specs.declared.table.Part.TheVariants as part
use Rattle.sr_lsdb.specs.declared.facts.Stored.{Stored}
use Rattle.sr_lsdb.specs.declared.facts.Facts.{Facts}
use Rattle.sr_lsdb.specs.Facts.{stored_under}
use Rattle.sr_lsdb.specs.declared.announcement.Announcement.{Announcement}
use Rattle.sr_domain.specs.declared.links.FoundLink.{FoundLink}
use Rattle.sr_lsdb.specs.Announcement.{announced_by, announcement_of}
use Rattle.sr_domain.specs.Announced.{announced_in, announcements_of, counts, first_id, is_announced, is_live, is_present, parts_of, two_way_of}
use Rattle.sr_domain.specs.Nodes.{labels_of, node_by, nodes_of}
use Rattle.sr_domain.specs.Links.{is_in_use, labelled, link_by, link_of, links_of}
use Rattle.sr_domain.specs.Net.{IsNetOf}
use Rattle.sr_domain.proofs.GatheredLemmas.{present-node}
use Rattle.sr_domain.proofs.KeyLemmas.{any-to}
use Rattle.sr_domain.proofs.MemberLemmas.{nowhere, picked-from, picked-to}
use Rattle.sr_domain.proofs.NetLemmas.{found_as}
use Rattle.sr_account.specs.Items.{IsPartAt, PartPlace}
use Rattle.sr_account.specs.Laws.{IsInOrder}
use Rattle.sr_account.proofs.SearchLaw.{at-place, flat-from, flat-to, place-of}
use Rattle.sr_account.proofs.PlaceLaw.{entry-from, entry-to, stored-there}
use Rattle.sr_domain.proofs.MemberLemmas.{filtered-from, filtered-to}
use Rattle.sr_domain.proofs.NetLemmas.{labelled-from, labelled-to}

-- ---- announcements

-- what an LSP announces, where it counts
abbrev own_announced : Facts → LspId × Stored → List Announcement
own_announced facts entry = cond (counts facts entry.0) (filter_map (announced_by entry.0.system) (parts_of entry.1.live)) []

announced-flat : (facts : Facts) (es : List (LspId × Stored)) → announced_in facts es ≡ flat_map (own_announced facts) es
announced-flat facts [] = refl
announced-flat facts (e ∷ es) = ap (λ (rest : List Announcement). own_announced facts e ++ rest) (announced-flat facts es)

pub counted : (facts : Facts) (id : LspId) → id.pseudonode ≡ 0 → is_present facts id.system ≡ true → counts facts id ≡ true
counted facts id real present = and_from (id.pseudonode == 0) (is_present facts id.system) (eq-eqb id.pseudonode 0 real) present

pub announced-to : (facts : Facts) (place : PartPlace) (said : Part) (a : Announcement) → IsPartAt facts place said → counts facts place.id ≡ true → announced_by place.id.system said ≡ Some a → Contains (announcements_of facts) a
announced-to facts place said a at counted e =
    let entry = entry-from facts place said at in
    let parts : List Part = parts_of entry.0.live in
    let own : Contains (own_announced facts (place.id, entry.0)) a = subst (λ (b : Bool). Contains (cond b (filter_map (announced_by place.id.system) parts) []) a) (sym counted) (picked-to (announced_by place.id.system) parts said a (at-place parts place.part said entry.2) e) in
    subst (λ (xs : List Announcement). Contains xs a) (sym (announced-flat facts facts.database)) (flat-to (own_announced facts) facts.database (place.id, entry.0) a entry.1 own)

-- where an announcement stands
pub record IsAnnouncedAt (facts : Facts) (a : Announcement) : Type 0 where
  pub place : PartPlace
  pub said : Part
  pub at : IsPartAt facts place said
  pub real : place.id.pseudonode ≡ 0
  pub present : is_present facts place.id.system ≡ true
  pub announces : announced_by place.id.system said ≡ Some a

pub announced-from : (facts : Facts) → IsInOrder facts → (a : Announcement) → Contains (announcements_of facts) a → IsAnnouncedAt facts a
announced-from facts up a c =
    let r = flat-from (own_announced facts) facts.database a (subst (λ (xs : List Announcement). Contains xs a) (announced-flat facts facts.database) c) in
    by r.0 r.1 (counts facts r.0.0) refl r.2
  where
    by : (entry : LspId × Stored) → Contains facts.database entry → (b : Bool) → counts facts entry.0 ≡ b → Contains (cond b (filter_map (announced_by entry.0.system) (parts_of entry.1.live)) []) a → IsAnnouncedAt facts a
    by entry there false e h = absurd (nowhere a h)
    by entry there true e h =
        let parts : List Part = parts_of entry.1.live in
        let p = picked-from (announced_by entry.0.system) parts a h in
        let at = place-of parts p.0 p.1 in
        let both = and_parts (entry.0.pseudonode == 0) (is_present facts entry.0.system) e in
        record {
          place = record { id = entry.0; part = at.0 };
          said = p.0;
          at = entry-to facts up entry at.0 p.0 there at.1;
          real = eqb-true entry.0.pseudonode 0 both.0;
          present = both.1;
          announces = p.2;
        }

-- the entry that an announcement is
pub record IsEntryOf (node : ℕ) (said : Part) (a : Announcement) : Type 0 where
  pub reach : Reach
  pub said_is : said ≡ part.Reach reach
  pub real : reach.pseudonode ≡ 0
  pub differ : reach.neighbour ≡ node → ⊥
  pub is : announcement_of node reach ≡ a

pub entry-of : (node : ℕ) (said : Part) (a : Announcement) → announced_by node said ≡ Some a → IsEntryOf node said a
entry-of node (part.Reach reach) a e =
    let c = cond_some ((reach.pseudonode == 0) && not (reach.neighbour == node)) (announcement_of node reach) a e in
    let both = and_parts (reach.pseudonode == 0) (not (reach.neighbour == node)) c.0 in
    record {
      reach = reach;
      said_is = refl;
      real = eqb-true reach.pseudonode 0 both.0;
      differ = eqb-false reach.neighbour node (not-true (reach.neighbour == node) both.1);
      is = c.1;
    }
entry-of node (part.Prefix prefix) a e = absurd (none-some a e)
entry-of node (part.Name name) a e = absurd (none-some a e)
entry-of node (part.Risk risk) a e = absurd (none-some a e)
entry-of node (part.Capability capability) a e = absurd (none-some a e)

-- an announcement is of a link from a present node to another node
pub announced-from_present : (facts : Facts) → IsInOrder facts → (a : Announcement) → Contains (announcements_of facts) a → is_present facts a.key.from ≡ true
announced-from_present facts up a there =
    let at = announced-from facts up a there in
    let e = entry-of at.place.id.system at.said a at.announces in
    ap (λ (b : Announcement). is_present facts b.key.from) (sym e.is) ∙ at.present

pub announced-apart : (facts : Facts) → IsInOrder facts → (a : Announcement) → Contains (announcements_of facts) a → a.key.to ≡ a.key.from → ⊥
announced-apart facts up a there same =
    let at = announced-from facts up a there in
    let e = entry-of at.place.id.system at.said a at.announces in
    e.differ (ap (λ (b : Announcement). b.key.to) e.is ∙ same ∙ ap (λ (b : Announcement). b.key.from) (sym e.is))

-- an announced key is that of an announcement
pub key-from : (anns : List Announcement) (key : LinkKey) → is_announced anns key ≡ true → (a : Announcement) × Contains anns a × (a.key ≡ key)
key-from anns key e = let r = any-to (λ (a : Announcement). same_key key a.key) anns e in (r.0, r.1, sym (key-from_cmp key r.0.key ((Equal-is (key_cmp key r.0.key)).0 r.2)))

-- ---- links as they are found

-- what a link is found by
pub record IsFoundBy (facts : Facts) (link : FoundLink) : Type 0 where
  pub a : Announcement
  pub there : Contains (announcements_of facts) a
  pub both : is_announced (announcements_of facts) (mirror a.key) ≡ true
  pub used : is_in_use facts a ≡ true
  pub is : link_of facts a ≡ link

pub found-from : (facts : Facts) (link : FoundLink) → Contains (links_of facts) link → IsFoundBy facts link
found-from facts link c =
    let r = picked-from (link_by facts) (two_way_of facts) link c in
    let t = filtered-from (λ (a : Announcement). is_announced (announcements_of facts) (mirror a.key)) (announcements_of facts) r.0 r.1 in
    let l = cond_some (is_in_use facts r.0) (link_of facts r.0) link r.2 in
    record { a = r.0; there = t.0; both = t.1; used = l.0; is = l.1 }

pub found-to : (facts : Facts) (a : Announcement) → Contains (announcements_of facts) a → is_announced (announcements_of facts) (mirror a.key) ≡ true → is_in_use facts a ≡ true → Contains (links_of facts) (link_of facts a)
found-to facts a there both used =
    picked-to (link_by facts) (two_way_of facts) a (link_of facts a)
    (filtered-to (λ (b : Announcement). is_announced (announcements_of facts) (mirror b.key)) (announcements_of facts) a there both)
    (ap (λ (t : Bool). cond t (Some (link_of facts a)) None) used)

-- ---- links of the net

-- each link of the net is found
pub link-from : (facts : Facts) (net : Net) → IsNetOf facts net → (l : ℕ) → l < link_count net.graph → IsFoundBy facts (found_as (link_at net.graph l) (adj_at net l))
link-from facts net is l within =
    let found : FoundLink = found_as (link_at net.graph l) (adj_at net l) in
    found-from facts found (Contains-permutation (labelled net.graph.links net.adj) (links_of facts) found (IsPermutation-sym (links_of facts) (labelled net.graph.links net.adj) is.links) (labelled-to net.graph.links net.adj l is.accepted.links within))

-- and each that is found is a link of the net
pub link-to : (facts : Facts) (net : Net) → IsNetOf facts net → (link : FoundLink) → Contains (links_of facts) link → (l : ℕ) × (l < link_count net.graph) × (link ≡ found_as (link_at net.graph l) (adj_at net l))
link-to facts net is link c = labelled-from net.graph.links net.adj link (Contains-permutation (links_of facts) (labelled net.graph.links net.adj) link is.links c)

-- ---- nodes of the net

pub node-to : (facts : Facts) (net : Net) → IsNetOf facts net → (system : ℕ) → is_present facts system ≡ true → (v : ℕ) × (v < node_count net.graph) × (system_at net.graph v ≡ system)
node-to facts net is system present =
    let there : Contains net.graph.systems system = subst (λ (xs : List ℕ). Contains xs system) (sym is.systems) (present-node facts system present) in
    (there.0, there.1, get_or_default net.graph.systems there.0 0 system there.1 ∙ there.2)

-- the node of an LSP with pseudonode 0 and fragment 0
node-is : (entry : LspId × Stored) (system : ℕ) → node_by entry ≡ Some system → (entry.0 ≡ first_id system) × (is_some entry.1.live ≡ true)
node-is entry system e =
    let r = cond_some ((entry.0.pseudonode == 0) && (entry.0.fragment == 0) && is_some entry.1.live) entry.0.system system e in
    let b = and_parts ((entry.0.pseudonode == 0) && (entry.0.fragment == 0)) (is_some entry.1.live) r.0 in
    let c = and_parts (entry.0.pseudonode == 0) (entry.0.fragment == 0) b.0 in
    let pseudonode : entry.0.pseudonode ≡ 0 = eqb-true entry.0.pseudonode 0 c.0 in
    let fragment : entry.0.fragment ≡ 0 = eqb-true entry.0.fragment 0 c.1 in (
      ap (λ (p : ℕ). let i : LspId = record { system = entry.0.system; pseudonode = p; fragment = entry.0.fragment } in i) pseudonode
          ∙ ap (λ (f : ℕ). let i : LspId = record { system = entry.0.system; pseudonode = 0; fragment = f } in i) fragment
          ∙ ap first_id r.1,
      b.1,
    )

pub node-present : (facts : Facts) → IsInOrder facts → (system : ℕ) → Contains (nodes_of facts) system → is_present facts system ≡ true
node-present facts up system c =
    let r = picked-from node_by facts.database system c in
    let n = node-is r.0 system r.2 in
    ap (λ (id : LspId). is_live (stored_under facts id)) (sym n.0) ∙ ap is_live (stored-there facts up r.0 r.1) ∙ n.1

pub node-from : (facts : Facts) (net : Net) → IsInOrder facts → IsNetOf facts net → (v : ℕ) → v < node_count net.graph → is_present facts (system_at net.graph v) ≡ true
node-from facts net up is v within =
    node-present facts up (system_at net.graph v)
    (subst (λ (xs : List ℕ). Contains xs (system_at net.graph v)) is.systems (v, within, get_or_default net.graph.systems v (system_at net.graph v) 0 within))

-- what a node of the net announces
pub labels-node : (facts : Facts) (net : Net) → IsNetOf facts net → (v : ℕ) → v < node_count net.graph → labels_at net v ≡ labels_of facts (system_at net.graph v)
labels-node facts net is v within =
    ap (λ (xs : List Labels). get_or xs v nameless) is.labels
    ∙ get_or-map (labels_of facts) (nodes_of facts) v 0 nameless (let same : length net.graph.systems ≡ length (nodes_of facts) = ap length is.systems in omega arith)
    ∙ ap (λ (xs : List ℕ). labels_of facts (get_or xs v 0)) (sym is.systems)
