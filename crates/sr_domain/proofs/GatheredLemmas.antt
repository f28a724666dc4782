-- What announcements and links of facts in range keep: their ends are present nodes, and their metrics are below the maximum.
use Rattle.std.proofs.Common.{◌≡◌, ◌≢◌, ℕ, ◌<◌, ◌^◌, Bool, true, false, cond, not, List, [], ◌∷◌, refl, arith, ap, sym, ◌∙◌, subst, Option, Some, None, filter}
use Rattle.std.specs.Prelude.{Contains, All, ◌==◌, ◌&&◌, ◌||◌, is_some, IfSome}
use Rattle.std.specs.Option.{unwrap_or}
use Rattle.std.specs.List.{filter_map, cons_option}
use Rattle.std.specs.Map.{lookup}
use Rattle.std.specs.BTreeMap.{is_at}
use Rattle.std.proofs.lemmas.Bool.Decides.{nat_tests}
use Rattle.std.proofs.lemmas.List.Elements.{All-nil, All-cons, All-head, All-tail, All-append, All-weaker}
use Rattle.std.specs.Cmp.{Equal-is}
use Rattle.std.proofs.lemmas.Option.{same_Some}
use Rattle.sr_model.specs.declared.name.LinkKey.{LinkKey}
use Rattle.sr_model.specs.Key.{mirror, pair_of}
use Rattle.sr_model.specs.KeyOrder.{key_cmp, same_key}
use Rattle.sr_model.proofs.KeyOrderLemmas.{key-from_cmp}
use Rattle.sr_wire.specs.declared.registry.TheConstants.{MAXIMUM_METRIC}
use Rattle.sr_lsp.specs.declared.lsp.LspId.{LspId}
use Rattle.sr_lsp.specs.declared.lsp.Lsp.{Lsp}
use Rattle.sr_lsp.specs.declared.table.Part.{Part}
use Rattle.sr_lsp.specs.declared.table.Part.TheVariants.{Reach}
use Rattle.sr_lsp.specs.declared.reach.Reach.{Reach as ReachPart}
use Rattle.sr_lsp.specs.InRange.{FitsPart, FitsLsp}
use Rattle.sr_lsp.specs.Reach.{FitsReach}
use Rattle.sr_lsdb.specs.declared.facts.Stored.{Stored}
use Rattle.sr_lsdb.specs.declared.facts.Facts.{Facts}
use Rattle.sr_lsdb.specs.Facts.{IsStoredWell, IsCost, AreInRange}
use Rattle.sr_lsdb.specs.Order.{id_cmp}
use Rattle.sr_lsdb.specs.declared.announcement.Announcement.{Announcement}
use Rattle.sr_domain.specs.declared.links.FoundLink.{FoundLink}
use Rattle.sr_lsdb.specs.Announcement.{announced_by, announcement_of}
use Rattle.sr_domain.specs.Announced.{is_live, first_id, is_present, counts, parts_of, announced_in, announcements_of, is_announced, two_way_of}
use Rattle.sr_domain.specs.Nodes.{node_by, nodes_of}
use Rattle.sr_lsdb.specs.Tables.{is_down}
use Rattle.sr_domain.specs.Links.{effective_metric, is_in_use, link_by, link_of, links_of, JoinsNodes}
use Rattle.sr_domain.specs.Steps.{IsBelowMaximum}
use Rattle.sr_domain.proofs.MemberLemmas.{here, kept_by}

-- an id that is tied with the first one of a node is that one
first-parts : (node : ℕ) (id : LspId) → is_at (id_cmp (first_id node)) id ≡ true → (id.system ≡ node) × (id.pseudonode ≡ 0) × (id.fragment ≡ 0)
first-parts node id e = (grind (arith, nat_tests), grind (arith, nat_tests), grind (arith, nat_tests))

both-zero : (p f : ℕ) (l : Bool) → p ≡ 0 → f ≡ 0 → l ≡ true → ((p == 0) && (f == 0) && l) ≡ true
both-zero p f l a b c = rw (a, b, c) refl

node-there : (node : ℕ) (entry : LspId × Stored) → is_at (id_cmp (first_id node)) entry.0 ≡ true → is_some entry.1.live ≡ true → node_by entry ≡ Some node
node-there node entry e live =
    let parts = first-parts node entry.0 e in
    ap (λ b. cond b (Some entry.0.system) None) (both-zero entry.0.pseudonode entry.0.fragment (is_some entry.1.live) parts.1 parts.2 live) ∙ ap Some parts.0

lookup-node : (node : ℕ) (es : List (LspId × Stored)) → is_live (lookup (is_at (id_cmp (first_id node))) es) ≡ true → Contains (filter_map node_by es) node
lookup-node node [] e = absurd (cc)
lookup-node node (entry ∷ es) e = by (λ live. lookup-node node es live) (is_at (id_cmp (first_id node)) entry.0) refl e
  where
    by : (is_live (lookup (is_at (id_cmp (first_id node))) es) ≡ true → Contains (filter_map node_by es) node) → (b : Bool) → is_at (id_cmp (first_id node)) entry.0 ≡ b → is_live (cond b (Some entry.1) (lookup (is_at (id_cmp (first_id node))) es)) ≡ true → Contains (cons_option (node_by entry) (filter_map node_by es)) node
    by rest true at live = subst (λ (o : Option ℕ). Contains (cons_option o (filter_map node_by es)) node) (sym (node-there node entry at live)) (here node (filter_map node_by es))
    by rest false at live = kept_by node (filter_map node_by es) (node_by entry) (rest live)

pub present-node : (facts : Facts) (node : ℕ) → is_present facts node ≡ true → Contains (nodes_of facts) node
present-node facts node e = lookup-node node facts.database e

-- what an announcement that counts keeps
pub record IsSound (facts : Facts) (a : Announcement) : Type 0 where
  pub present : is_present facts a.key.from ≡ true
  pub differ : a.key.from ≢ a.key.to
  pub metric : a.metric < 2 ^ 24

-- the same, but for presence
record IsFrom (node : ℕ) (a : Announcement) : Type 0 where
  from : a.key.from ≡ node
  differ : a.key.from ≢ a.key.to
  metric : a.metric < 2 ^ 24

not-same : (a b : ℕ) → (a == b) ≡ false → b ≢ a
not-same a b e = λ s. (let bad : false ≡ true = sym e ∙ same a b (sym s) in cc)
  where
    same : (a b : ℕ) → a ≡ b → (a == b) ≡ true
    same a b e = grind (arith, nat_tests)

from-reach : (node : ℕ) (reach : ReachPart) → FitsReach reach → (p s : Bool) → (reach.neighbour == node) ≡ s → (rest : List Announcement) → All (IsFrom node) rest → All (IsFrom node) (cons_option (cond (p && not s) (Some (announcement_of node reach)) None) rest)
from-reach node reach fits true false h rest all = All-cons (IsFrom node) (announcement_of node reach) rest (record { from = refl; differ = not-same reach.neighbour node h; metric = fits.metric }) all
from-reach node reach fits true true h rest all = all
from-reach node reach fits false s h rest all = all

from-part : (node : ℕ) (part : Part) → FitsPart part → (rest : List Announcement) → All (IsFrom node) rest → All (IsFrom node) (cons_option (announced_by node part) rest)
from-part node (Reach reach) fits rest all = from-reach node reach fits (reach.pseudonode == 0) (reach.neighbour == node) refl rest all
from-part node _ fits rest all = all

from-parts : (node : ℕ) (parts : List Part) → All FitsPart parts → All (IsFrom node) (filter_map (announced_by node) parts)
from-parts node [] fits = All-nil (IsFrom node)
from-parts node (part ∷ parts) fits = from-part node part (All-head FitsPart part parts fits) (filter_map (announced_by node) parts) (from-parts node parts (All-tail FitsPart part parts fits))

from-live : (node : ℕ) (id : LspId) (o : Option Lsp) → IfSome o (λ lsp. FitsLsp lsp × (lsp.id ≡ id)) → All (IsFrom node) (filter_map (announced_by node) (parts_of o))
from-live node id None well = All-nil (IsFrom node)
from-live node id (Some lsp) well = from-parts node lsp.parts well.0

and-right : (a b : Bool) → (a && b) ≡ true → b ≡ true
and-right true b e = e
and-right false b e = absurd (cc)

and-left : (a b : Bool) → (a && b) ≡ true → a ≡ true
and-left true b e = refl
and-left false b e = absurd (cc)

sound-entry : (facts : Facts) (entry : LspId × Stored) → IsStoredWell entry → (b : Bool) → counts facts entry.0 ≡ b → All (IsSound facts) (cond b (filter_map (announced_by entry.0.system) (parts_of entry.1.live)) [])
sound-entry facts entry well false e = All-nil (IsSound facts)
sound-entry facts entry well true e = All-weaker (IsFrom entry.0.system) (IsSound facts)
    (λ a from. record {
      present = subst (λ n. is_present facts n ≡ true) (sym from.from) (and-right (entry.0.pseudonode == 0) (is_present facts entry.0.system) e);
      differ = from.differ;
      metric = from.metric;
    })
    (filter_map (announced_by entry.0.system) (parts_of entry.1.live))
    (from-live entry.0.system entry.0 entry.1.live well)

sound-in : (facts : Facts) (es : List (LspId × Stored)) → All IsStoredWell es → All (IsSound facts) (announced_in facts es)
sound-in facts [] well = All-nil (IsSound facts)
sound-in facts (entry ∷ es) well = All-append (IsSound facts) (cond (counts facts entry.0) (filter_map (announced_by entry.0.system) (parts_of entry.1.live)) []) (announced_in facts es)
    (sound-entry facts entry (All-head IsStoredWell entry es well) (counts facts entry.0) refl)
    (sound-in facts es (All-tail IsStoredWell entry es well))

-- the end at which an announced key begins is present
any-present : (facts : Facts) (anns : List Announcement) (key : LinkKey) → All (IsSound facts) anns → is_announced anns key ≡ true → is_present facts key.from ≡ true
any-present facts [] key all e = absurd (cc)
any-present facts (a ∷ anns) key all e = by (λ h. any-present facts anns key (All-tail (IsSound facts) a anns all) h) (same_key key a.key) refl e
  where
    by : (is_announced anns key ≡ true → is_present facts key.from ≡ true) → (b : Bool) → same_key key a.key ≡ b → (b || is_announced anns key) ≡ true → is_present facts key.from ≡ true
    by rest true same h =
        let equal : key ≡ a.key = key-from_cmp key a.key ((Equal-is (key_cmp key a.key)).0 same) in
        subst (λ (k : LinkKey). is_present facts k.from ≡ true) (sym equal) (All-head (IsSound facts) a anns all).present
    by rest false same h = rest h

-- a two-way announcement joins present nodes
pub record IsTwoWay (facts : Facts) (a : Announcement) : Type 0 where
  pub sound : IsSound facts a
  pub other : is_present facts a.key.to ≡ true

filter-all : {X : Type 0} (p : X → Bool) (P Q : X → Type 0) → ((x : X) → P x → p x ≡ true → Q x) → (xs : List X) → All P xs → All Q (filter p xs)
filter-all p P Q step [] all = All-nil Q
filter-all {X} p P Q step (x ∷ xs) all = by (p x) refl (filter-all p P Q step xs (All-tail P x xs all))
  where
    by : (b : Bool) → p x ≡ b → All Q (filter p xs) → All Q (cond b (x ∷ filter p xs) (filter p xs))
    by true e rest = All-cons Q x (filter p xs) (step x (All-head P x xs all) e) rest
    by false e rest = rest

pick-all : {X Y : Type 0} (f : X → Option Y) (P : X → Type 0) (Q : Y → Type 0) → ((x : X) (y : Y) → P x → f x ≡ Some y → Q y) → (xs : List X) → All P xs → All Q (filter_map f xs)
pick-all f P Q step [] all = All-nil Q
pick-all {X} {Y} f P Q step (x ∷ xs) all = by (f x) refl (pick-all f P Q step xs (All-tail P x xs all))
  where
    by : (o : Option Y) → f x ≡ o → All Q (filter_map f xs) → All Q (cons_option o (filter_map f xs))
    by None e rest = rest
    by (Some y) e rest = All-cons Q y (filter_map f xs) (step x y (All-head P x xs all) e) rest

pub two-way-sound : (facts : Facts) → AreInRange facts → All (IsTwoWay facts) (two_way_of facts)
two-way-sound facts range =
    let sound : All (IsSound facts) (announcements_of facts) = sound-in facts facts.database range.database in
    filter-all (λ (a : Announcement). is_announced (announcements_of facts) (mirror a.key)) (IsSound facts) (IsTwoWay facts)
    (λ a s e. record { sound = s; other = any-present facts (announcements_of facts) (mirror a.key) sound e })
    (announcements_of facts) sound

-- the metrics of links are below the maximum
lookup-cost : (test : LinkKey → Bool) (es : List (LinkKey × ℕ)) → All IsCost es → (m : ℕ) → lookup test es ≡ Some m → m < MAXIMUM_METRIC
lookup-cost test [] all m e = absurd (cc)
lookup-cost test (entry ∷ es) all m e = by (λ h. lookup-cost test es (All-tail IsCost entry es all) m h) (test entry.0) e
  where
    by : (lookup test es ≡ Some m → m < MAXIMUM_METRIC) → (b : Bool) → cond b (Some entry.1) (lookup test es) ≡ Some m → m < MAXIMUM_METRIC
    by rest true h = subst (λ n. n < MAXIMUM_METRIC) (same_Some entry.1 m h) (All-head IsCost entry es all).1
    by rest false h = rest h

metric-small_by : (metric : ℕ) (o : Option ℕ) → metric < 2 ^ 24 → ((m : ℕ) → o ≡ Some m → m < MAXIMUM_METRIC) → unwrap_or o metric < 16777216
metric-small_by metric None small cost = small
metric-small_by metric (Some m) small cost = let below : m < MAXIMUM_METRIC = cost m refl in omega arith

metric-below : (n : ℕ) → n < 16777216 → not (n == MAXIMUM_METRIC) ≡ true → n < MAXIMUM_METRIC
metric-below n small e = grind (arith, nat_tests)

-- the link joins present nodes, and its metric is below the maximum
pub record IsGoodLink (facts : Facts) (link : FoundLink) : Type 0 where
  pub ends : JoinsNodes (nodes_of facts) link
  pub below : IsBelowMaximum link

link-good : (facts : Facts) → AreInRange facts → (a : Announcement) (link : FoundLink) → IsTwoWay facts a → link_by facts a ≡ Some link → IsGoodLink facts link
link-good facts range a link two e = by (is_in_use facts a) refl e
  where
    by : (b : Bool) → is_in_use facts a ≡ b → cond b (Some (link_of facts a)) None ≡ Some link → IsGoodLink facts link
    by false used h = absurd (cc)
    by true used h =
        let small : effective_metric facts a < 16777216 = metric-small_by a.metric (lookup (is_at (key_cmp a.key)) facts.costs) two.sound.metric (lookup-cost (is_at (key_cmp a.key)) facts.costs range.costs) in
        let good : IsGoodLink facts (link_of facts a) = record {
          ends = (present-node facts a.key.from two.sound.present, present-node facts a.key.to two.other, two.sound.differ);
          below = metric-below (effective_metric facts a) small (and-left (not (effective_metric facts a == MAXIMUM_METRIC)) (not (is_down facts.downs (pair_of a.key))) used);
        } in
        subst (λ (l : FoundLink). IsGoodLink facts l) (same_Some (link_of facts a) link h) good

pub links-good : (facts : Facts) → AreInRange facts → All (IsGoodLink facts) (links_of facts)
links-good facts range = pick-all (link_by facts) (IsTwoWay facts) (IsGoodLink facts) (link-good facts range) (two_way_of facts) (two-way-sound facts range)

pub links-ends : (facts : Facts) → AreInRange facts → All (JoinsNodes (nodes_of facts)) (links_of facts)
links-ends facts range = All-weaker (IsGoodLink facts) (JoinsNodes (nodes_of facts)) (λ l g. g.ends) (links_of facts) (links-good facts range)

pub links-below : (facts : Facts) → AreInRange facts → All IsBelowMaximum (links_of facts)
links-below facts range = All-weaker (IsGoodLink facts) IsBelowMaximum (λ l g. g.below) (links_of facts) (links-good facts range)
