-- An entry of extended IS reachability gives a link exactly where no reason holds of it and of its LSP.
use Rattle.std.proofs.Common.{◌≡◌, ℕ, Bool, true, false, cond, not, refl, ap, sym, ◌∙◌, Some, None}
use Rattle.std.specs.Prelude.{Contains, ◌==◌}
use Rattle.std.proofs.lemmas.Bool.{and_from, and_parts, cases_eq, eq-eqb, eqb-false, false_from_ne_true, false≢true, ne_eqb, not-true, true_from_ne_false}
use Rattle.sr_model.specs.declared.name.LinkKey.{LinkKey}
use Rattle.sr_model.specs.Key.{mirror, pair_of}
use Rattle.sr_model.specs.Graph.{link_at}
use Rattle.sr_model.specs.Label.{Net, adj_at}
use Rattle.sr_wire.specs.declared.registry.TheConstants.{MAXIMUM_METRIC}
use Rattle.sr_lsp.specs.declared.lsp.LspId.{LspId}
use Rattle.sr_lsp.specs.declared.reach.Reach.{Reach}
use Rattle.sr_lsp.specs.declared.table.Part.TheVariants as part
use Rattle.sr_lsdb.specs.declared.facts.Facts.{Facts}
use Rattle.sr_lsdb.specs.Tables.{is_down}
use Rattle.sr_lsdb.specs.declared.announcement.Announcement.{Announcement}
use Rattle.sr_domain.specs.declared.links.FoundLink.{FoundLink}
use Rattle.sr_lsdb.specs.Announcement.{adj_label, announced_by, announcement_of}
use Rattle.sr_domain.specs.Announced.{announcements_of, counts, is_announced, is_present}
use Rattle.sr_domain.specs.Links.{effective_metric, is_in_use, link_of, links_of}
use Rattle.sr_domain.specs.Net.{IsNetOf}
use Rattle.sr_domain.proofs.NetLemmas.{found_as}
use Rattle.sr_account.specs.declared.aside.Reason.{Reason}
use Rattle.sr_account.specs.declared.aside.Reason.TheVariants.{Lan, Absent, Pseudonode, Itself, NeighbourAbsent, OneWay, Identity, MaximumMetric, Down}
use Rattle.sr_account.specs.Items.{IsPartAt, PartPlace}
use Rattle.sr_account.specs.Laws.{IsInOrder}
use Rattle.sr_account.specs.Reasons.{LspFails, ReachFails, entry_key}
use Rattle.sr_account.specs.Used.{GivesLink, IsNodeOfLsp}
use Rattle.sr_account.proofs.SearchLaw.{stable}
use Rattle.sr_account.proofs.LinkLaw.{IsFoundBy, announced-apart, announced-from_present, announced-to, counted, found-to, key-from, link-from, link-to, node-from, node-to}

-- ---- LSPs

pub lsp-used : (facts : Facts) (id : LspId) → ((r : Reason) → LspFails facts id r → ⊥) → (id.pseudonode ≡ 0) × (is_present facts id.system ≡ true)
lsp-used facts id clear = (stable (cases_eq id.pseudonode 0) (clear Lan), true_from_ne_false (is_present facts id.system) (clear Absent))

-- the node of an LSP of which no reason holds
pub node-used : (facts : Facts) (net : Net) → IsNetOf facts net → (id : LspId) → ((r : Reason) → LspFails facts id r → ⊥) → (v : ℕ) × IsNodeOfLsp net id v
node-used facts net is id clear =
    let lsp = lsp-used facts id clear in
    let v = node-to facts net is id.system lsp.1 in
    (v.0, record { real = lsp.0; within = v.1; system = v.2 })

pub lsp-free : (facts : Facts) (net : Net) → IsInOrder facts → IsNetOf facts net → (id : LspId) (v : ℕ) → IsNodeOfLsp net id v → (r : Reason) → LspFails facts id r → ⊥
lsp-free facts net up is id v node Lan fails = fails node.real
lsp-free facts net up is id v node Absent fails = false≢true (sym fails ∙ ap (is_present facts) (sym node.system) ∙ node-from facts net up is v node.within)
lsp-free facts net up is id v node _ fails = fails

-- ---- entries

-- what is known of an entry of which no reason holds, and of its LSP
pub record IsSoundEntry (facts : Facts) (place : PartPlace) (reach : Reach) (a : Announcement) : Type 0 where
  pub lsp : counts facts place.id ≡ true
  pub announces : announced_by place.id.system (part.Reach reach) ≡ Some a
  pub both : is_announced (announcements_of facts) (mirror a.key) ≡ true
  pub used : is_in_use facts a ≡ true

pub entry-sound : (facts : Facts) (place : PartPlace) (reach : Reach) → ((r : Reason) → LspFails facts place.id r → ⊥) → ((r : Reason) → ReachFails facts place.id.system reach r → ⊥) → (a : Announcement) → a ≡ announcement_of place.id.system reach → IsSoundEntry facts place reach a
entry-sound facts place reach clear free a is =
    let lsp = lsp-used facts place.id clear in
    let node : ℕ = place.id.system in
    let real : reach.pseudonode ≡ 0 = stable (cases_eq reach.pseudonode 0) (free Pseudonode) in
    let differ : (reach.neighbour == node) ≡ false = ne_eqb reach.neighbour node (free Itself) in
    let announces : announced_by node (part.Reach reach) ≡ Some (announcement_of node reach) = ap (λ (b : Bool). cond b (Some (announcement_of node reach)) None) (and_from (reach.pseudonode == 0) (not (reach.neighbour == node)) (eq-eqb reach.pseudonode 0 real) (ap not differ)) in
    let key : a.key ≡ entry_key node reach = ap (λ (b : Announcement). b.key) is in
    let metric : (effective_metric facts a == MAXIMUM_METRIC) ≡ false = ne_eqb (effective_metric facts a) MAXIMUM_METRIC (λ e. free MaximumMetric (ap (effective_metric facts) (sym is) ∙ e)) in
    let down : is_down facts.downs (pair_of a.key) ≡ false = ap (λ (k : LinkKey). is_down facts.downs (pair_of k)) key ∙ false_from_ne_true (is_down facts.downs (pair_of (entry_key node reach))) (free Down) in
    record {
      lsp = counted facts place.id lsp.0 lsp.1;
      announces = announces ∙ ap Some (sym is);
      both = ap (λ (k : LinkKey). is_announced (announcements_of facts) (mirror k)) key ∙ true_from_ne_false (is_announced (announcements_of facts) (mirror (entry_key node reach))) (free Identity);
      used = and_from (not (effective_metric facts a == MAXIMUM_METRIC)) (not (is_down facts.downs (pair_of a.key))) (ap not metric) (ap not down);
    }

-- the announcement of such an entry is of a link
entry-found : (facts : Facts) (place : PartPlace) (reach : Reach) → IsPartAt facts place (part.Reach reach) → (a : Announcement) → IsSoundEntry facts place reach a → Contains (links_of facts) (link_of facts a)
entry-found facts place reach at a sound = found-to facts a (announced-to facts place (part.Reach reach) a at sound.lsp sound.announces) sound.both sound.used

-- an entry of which no reason holds gives its link, and the link has the entry's label
pub reach-used : (facts : Facts) (net : Net) → IsNetOf facts net → (place : PartPlace) (reach : Reach) → IsPartAt facts place (part.Reach reach) → ((r : Reason) → LspFails facts place.id r → ⊥) → ((r : Reason) → ReachFails facts place.id.system reach r → ⊥) → (l : ℕ) × GivesLink facts net place.id reach l × (adj_at net l ≡ adj_label reach.adj)
reach-used facts net is place reach at clear free = by (announcement_of place.id.system reach) refl
  where
    by : (a : Announcement) → a ≡ announcement_of place.id.system reach → (l : ℕ) × GivesLink facts net place.id reach l × (adj_at net l ≡ adj_label reach.adj)
    by a same =
        let v = node-used facts net is place.id clear in
        let l = link-to facts net is (link_of facts a) (entry-found facts place reach at a (entry-sound facts place reach clear free a same)) in (
          l.0,
          record {
            node = v.0;
            of_node = v.1;
            real = stable (cases_eq reach.pseudonode 0) (free Pseudonode);
            within = l.1;
            key = ap (λ (x : FoundLink). x.key) (sym l.2) ∙ ap (λ (b : Announcement). b.key) same;
            metric_is = ap (λ (x : FoundLink). x.metric) (sym l.2) ∙ ap (effective_metric facts) same;
          },
          ap (λ (x : FoundLink). x.label) (sym l.2) ∙ ap (λ (b : Announcement). b.label) same,
        )

module _ (facts : Facts) (net : Net) (up : IsInOrder facts) (is : IsNetOf facts net) (id : LspId) (reach : Reach) (l : ℕ) (gives : GivesLink facts net id reach l) where
  found : IsFoundBy facts (found_as (link_at net.graph l) (adj_at net l))
  found = link-from facts net is l gives.within

  key_is : found.a.key ≡ entry_key id.system reach
  key_is = ap (λ (x : FoundLink). x.key) found.is ∙ gives.key

  metric_same : effective_metric facts found.a ≡ effective_metric facts (announcement_of id.system reach)
  metric_same = ap (λ (x : FoundLink). x.metric) found.is ∙ gives.metric_is

  in_use : (not (effective_metric facts found.a == MAXIMUM_METRIC) ≡ true) × (not (is_down facts.downs (pair_of found.a.key)) ≡ true)
  in_use = and_parts (not (effective_metric facts found.a == MAXIMUM_METRIC)) (not (is_down facts.downs (pair_of found.a.key))) found.used

  -- no reason holds of an entry that gives a link
  pub reach-free : (r : Reason) → ReachFails facts id.system reach r → ⊥
  reach-free Pseudonode fails = fails gives.real
  reach-free Itself fails = announced-apart facts up found.a found.there (ap (λ (k : LinkKey). k.to) key_is ∙ fails ∙ sym (ap (λ (k : LinkKey). k.from) key_is))
  reach-free NeighbourAbsent fails =
      let b = key-from (announcements_of facts) (mirror found.a.key) found.both in
      let end : b.0.key.from ≡ reach.neighbour = ap (λ (k : LinkKey). k.from) b.2 ∙ ap (λ (k : LinkKey). k.to) key_is in
      false≢true (sym fails ∙ ap (is_present facts) (sym end) ∙ announced-from_present facts up b.0 b.1)
  reach-free OneWay fails =
      let b = key-from (announcements_of facts) (mirror found.a.key) found.both in
      fails (
        b.0,
        b.1,
        ap (λ (k : LinkKey). k.from) b.2 ∙ ap (λ (k : LinkKey). k.to) key_is,
        ap (λ (k : LinkKey). k.to) b.2 ∙ ap (λ (k : LinkKey). k.from) key_is,
      )
  reach-free Identity fails = false≢true (sym fails ∙ ap (λ (k : LinkKey). is_announced (announcements_of facts) (mirror k)) (sym key_is) ∙ found.both)
  reach-free MaximumMetric fails = eqb-false (effective_metric facts found.a) MAXIMUM_METRIC (not-true (effective_metric facts found.a == MAXIMUM_METRIC) in_use.0) (metric_same ∙ fails)
  reach-free Down fails =
      let up_still : is_down facts.downs (pair_of found.a.key) ≡ false = not-true (is_down facts.downs (pair_of found.a.key)) in_use.1 in
      false≢true (sym up_still ∙ ap (λ (k : LinkKey). is_down facts.downs (pair_of k)) key_is ∙ fails)
  reach-free _ fails = fails
