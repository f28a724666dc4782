-- The hops that are kept, link by link: the first that leads to a node is the least that does.
use Rattle.std.proofs.Common.{◌≡◌, ◌≢◌, ℕ, ◌+◌, ◌<◌, ◌≤◌, ◌⊎◌, ⊎_elim, inl, inr, ◌↔◌, IsTrue, true, false, not, ◌&&◌, ◌==◌, length, refl, arith, ap, sym, ◌∙◌, subst}
use Rattle.std.specs.Prelude.{Contains, List, Bool, Some, slice_get}
use Rattle.std.proofs.lemmas.Bool.{cases_eq, cases_lt, cases_Bool, true≢false, and_parts, and_from, not-true, eq-eqb, eqb-true}
use Rattle.std.proofs.lemmas.Option.{slice_get_within, get_or_from_slice_get}
use Rattle.std.proofs.lemmas.List.Elements.{All-weaker, All-contains_itself}
use Rattle.sr_lanes.specs.declared.words.NodeBits.{NodeBits}
use Rattle.sr_lanes.specs.Bits.{is_in, IsWithout}
use Rattle.sr_lanes.proofs.SizeLemmas.{without-other, without-inside}
use Rattle.sr_model.specs.declared.link.LinkNo.{LinkNo}
use Rattle.sr_model.specs.Graph.{Graph, link_count, tail}
use Rattle.sr_graph.specs.Ranges.{HoldsLinks}
use Rattle.sr_post.specs.declared.kept.HopNodes.{HopNodes}
use Rattle.sr_post.specs.declared.kept.KeptHops.{KeptHops}
use Rattle.sr_spf.specs.Hops.{AreNextHops}
use Rattle.sr_post.specs.Kept.{LeadsTo, IsKeptHop, AreEndangered, AreKeptHops, AreLost, IsSharedHop}
use Rattle.sr_post.specs.Sets.{KeepsHop, AreKeptAndLost}

-- the node stands with a hop of the list
abbrev pub StandsWithHop : List HopNodes → ℕ → Type 0
StandsWithHop kept v = (e : HopNodes) × Contains kept e × (is_in e.nodes v ≡ true)

-- of the nodes at the start, no link below l leads from s in spite of x to those that are left, and the others stand
-- with a hop; each hop is the least link that leads to its nodes
pub record AreHopsUpTo (g : Graph) (x : List Bool) (s l : ℕ) (start : NodeBits) (hops : KeptHops) : Type 0 where
  pub within : (v : ℕ) → is_in hops.left v ≡ true → is_in start v ≡ true
  pub before : (v k : ℕ) → is_in hops.left v ≡ true → k < l → LeadsTo g x s v k → ⊥
  pub least : (e : HopNodes) → Contains hops.kept.items e → (v : ℕ) → is_in e.nodes v ≡ true → IsKeptHop g x s v e.hop.0
  pub all : (v : ℕ) → is_in start v ≡ true → (is_in hops.left v ≡ true) ⊎ StandsWithHop hops.kept.items v

-- of the nodes at the start, no link leads from s in spite of x to those that are left and were tried, and the others
-- stand with a hop; each hop is the least link that leads to its nodes
pub record AreHopsBut (g : Graph) (x : List Bool) (s : ℕ) (start untried : NodeBits) (hops : KeptHops) : Type 0 where
  pub within : (v : ℕ) → is_in hops.left v ≡ true → is_in start v ≡ true
  pub inside : (v : ℕ) → is_in untried v ≡ true → is_in start v ≡ true
  pub tried : (v k : ℕ) → is_in hops.left v ≡ true → is_in untried v ≡ false → LeadsTo g x s v k → ⊥
  pub least : (e : HopNodes) → Contains hops.kept.items e → (v : ℕ) → is_in e.nodes v ≡ true → IsKeptHop g x s v e.hop.0
  pub all : (v : ℕ) → is_in start v ≡ true → (is_in hops.left v ≡ true) ⊎ StandsWithHop hops.kept.items v

-- of the links before place i none leads from s to v in spite of x
pub record NoneLeads (g : Graph) (x : List Bool) (s v : ℕ) (links : List LinkNo) (i : ℕ) : Type 0 where
  pub none : (j : ℕ) (k : LinkNo) → j < i → slice_get links j ≡ Some k → LeadsTo g x s v k.0 → ⊥

-- the set has that node alone
pub record IsAlone (set : NodeBits) (v : ℕ) : Type 0 where
  pub member : is_in set v ≡ true
  pub only : (u : ℕ) → is_in set u ≡ true → u ≡ v

pub alone-from : (set : NodeBits) (v : ℕ) → ((u : ℕ) → is_in set u ≡ (u == v)) → IsAlone set v
alone-from set v is = record { member = is v ∙ eq-eqb v v refl; only = λ u yes. eqb-true u v (sym (is u) ∙ yes) }

-- each link that leads to a node that is left is below l
pub record IsOver (g : Graph) (x : List Bool) (s l : ℕ) (left : NodeBits) : Type 0 where
  pub all : (v k : ℕ) → is_in left v ≡ true → LeadsTo g x s v k → k < l

-- nothing changes where the hop leads to none
pub keeps-none : (hops : KeptHops) (hop : LinkNo) (nodes : NodeBits) → ((v : ℕ) → is_in nodes v ≡ false) → KeepsHop hops hop nodes hops
keeps-none hops hop nodes none = record {
  less = λ v. ⊎_elim
      (λ (yes : is_in hops.left v ≡ true). yes ∙ sym (and_from (is_in hops.left v) (not (is_in nodes v)) yes (ap not (none v))))
      (λ (no : is_in hops.left v ≡ false). no ∙ sym (ap (λ b. b && not (is_in nodes v)) no))
      (cases_Bool (is_in hops.left v));
  older = λ e is. is;
  newer = λ e is. inl is;
  these = λ v is. absurd (true≢false (sym is ∙ none v));
}

module _ (g : Graph) (x : List Bool) (s : ℕ) where
  -- a link that leads on from s begins there
  pub leads-from : (v k : ℕ) → LeadsTo g x s v k → (k < link_count g) × (tail g k ≡ s)
  leads-from v k leads = (leads.hop.shortest.0.0, leads.hop.shortest.0.2)

  -- before the first link
  pub hops-start : (i j : ℕ) (hops : KeptHops) → HoldsLinks g s i j → ((e : HopNodes) → Contains hops.kept.items e → ⊥) → AreHopsUpTo g x s i hops.left hops
  hops-start i j hops links none = record {
    within = λ v is. is;
    before = λ v k is lt leads.
        let from = leads-from v k leads in
        let up : i ≤ k = (links.to k from.0 from.1).0 in
        omega arith;
    least = λ e is. absurd (none e is);
    all = λ v is. inl is;
  }

  module _ (link : LinkNo) (start found : NodeBits) (old new : KeptHops) (r : AreHopsUpTo g x s link.0 start old) (led : (v : ℕ) → IsTrue (is_in found v) ↔ ((is_in old.left v ≡ true) × LeadsTo g x s v link.0)) (keeps : KeepsHop old link found new) where
    -- a node that is left was left, and the link doesn't lead there
    left_parts : (v : ℕ) → is_in new.left v ≡ true → (is_in old.left v ≡ true) × (is_in found v ≡ false)
    left_parts v is =
        let both = and_parts (is_in old.left v) (not (is_in found v)) (sym (keeps.less v) ∙ is) in
        (both.0, not-true (is_in found v) both.1)

    -- the link is the least that leads to the nodes that it leads to
    link-least : (v : ℕ) → is_in found v ≡ true → IsKeptHop g x s v link.0
    link-least v is =
        let now = (led v).0 is in
        record {
          leads = now.1;
          least = λ k other. ⊎_elim
              (λ (low : k < link.0). absurd (r.before v k now.0 low other))
              (λ (up : link.0 ≤ k). up)
              (cases_lt k link.0);
        }

    -- one link more, with the nodes to which it leads
    pub hops-next : AreHopsUpTo g x s (link.0 + 1) start new
    hops-next = record {
      within = λ v is. r.within v (left_parts v is).0;
      before = λ v k is lt leads. ⊎_elim
          (λ (e : k ≡ link.0).
          let here : LeadsTo g x s v link.0 = subst (λ m. LeadsTo g x s v m) e leads in
          let yes : is_in found v ≡ true = (led v).1 ((left_parts v is).0, here) in
          true≢false (sym yes ∙ (left_parts v is).1))
          (λ (ne : k ≢ link.0). r.before v k (left_parts v is).0 (omega arith) leads)
          (cases_eq k link.0);
      least = λ e is v member. ⊎_elim
          (λ was. r.least e was v member)
          (λ (same : e ≡ record { hop = link; nodes = found }).
          let here : is_in found v ≡ true = subst (λ (h : HopNodes). is_in h.nodes v ≡ true) same member in
          subst (λ (h : HopNodes). IsKeptHop g x s v h.hop.0) (sym same) (link-least v here))
          (keeps.newer e is);
      all = λ v is. ⊎_elim
          (λ (was : is_in old.left v ≡ true). ⊎_elim
          (λ (yes : is_in found v ≡ true). inr (record { hop = link; nodes = found }, keeps.these v yes, yes))
          (λ (no : is_in found v ≡ false). inl (keeps.less v ∙ and_from (is_in old.left v) (not (is_in found v)) was (ap not no)))
          (cases_Bool (is_in found v)))
          (λ (stands : StandsWithHop old.kept.items v). inr (stands.0, keeps.older stands.0 stands.1, stands.2))
          (r.all v is);
    }

  -- once all links of s were tried, no link leads to those that are left
  pub over-end : (i j l : ℕ) (left : NodeBits) → HoldsLinks g s i j → j ≤ l → IsOver g x s l left
  over-end i j l left links le = record {
    all = λ v k is leads.
        let from = leads-from v k leads in
        let low : k < j = (links.to k from.0 from.1).1 in
        omega arith;
  }

  -- nor where none are left
  pub over-none : (l : ℕ) (left : NodeBits) → ((v : ℕ) → is_in left v ≡ false) → IsOver g x s l left
  over-none l left none = record { all = λ v k is leads. absurd (true≢false (sym is ∙ none v)) }

  module _ (l : ℕ) (start : NodeBits) (hops : KeptHops) (r : AreHopsUpTo g x s l start hops) (over : IsOver g x s l hops.left) (endangered : AreEndangered g x s start) where
    -- then the hops are kept
    pub hops-over : AreKeptHops g x s hops.kept.items
    hops-over = record {
      least = All-weaker (Contains hops.kept.items) (IsSharedHop g x s) (λ e is. r.least e is) hops.kept.items (All-contains_itself hops.kept.items);
      all = λ v k loses leads. ⊎_elim
          (λ (yes : is_in hops.left v ≡ true). absurd (r.before v k yes (over.all v k yes leads) leads))
          (λ stands. stands)
          (r.all v (endangered.losing v loses));
    }

    -- and those that are left are lost
    pub lost-over : AreLost g x s hops.left
    lost-over = record {
      within = λ v is. endangered.within v (r.within v is);
      lost = λ v k is leads. r.before v k is (over.all v k is leads) leads;
      led = λ v lt ne no. ⊎_elim
          (λ (was : is_in start v ≡ true). ⊎_elim
          (λ (yes : is_in hops.left v ≡ true). absurd (true≢false (sym yes ∙ no)))
          (λ (stands : StandsWithHop hops.kept.items v). (stands.0.hop.0, (r.least stands.0 stands.1 v stands.2).leads))
          (r.all v was))
          (λ (safe : is_in start v ≡ false). endangered.safe v lt ne safe)
          (cases_Bool (is_in start v));
    }

    -- both at once
    pub both-over : AreKeptAndLost g x s hops
    both-over = record { kept = hops-over; lost = lost-over }

  -- the links towards one node
  module _ (v : ℕ) (links : List LinkNo) (are : AreNextHops g s v links) where
    -- a next hop is a link that begins at s
    pub hop-from : (i : ℕ) (hop : LinkNo) → slice_get links i ≡ Some hop → (hop.0 < link_count g) × (tail g hop.0 ≡ s)
    hop-from i hop at = let is = are.each i hop at in (is.shortest.0.0, is.shortest.0.2)

    -- one place has one link
    same-hop : (i : ℕ) (hop other : LinkNo) → slice_get links i ≡ Some hop → slice_get links i ≡ Some other → other ≡ hop
    same-hop i hop other at there = sym (get_or_from_slice_get links i other hop there) ∙ get_or_from_slice_get links i hop hop at

    -- the first that leads there is the least that does
    pub least-at : (i : ℕ) (hop : LinkNo) → slice_get links i ≡ Some hop → NoneLeads g x s v links i → LeadsTo g x s v hop.0 → IsKeptHop g x s v hop.0
    least-at i hop at before leads = record {
      leads = leads;
      least = λ k other.
          let listed : (j : ℕ) × (m : LinkNo) × (slice_get links j ≡ Some m) × (m.0 ≡ k) = are.all k other.hop in
          let told : LeadsTo g x s v listed.1.0 = subst (λ n. LeadsTo g x s v n) (sym listed.3) other in
          ⊎_elim
          (λ (low : listed.0 < i). absurd (before.none listed.0 listed.1 low listed.2 told))
          (λ (up : i ≤ listed.0). ⊎_elim
          (λ (e : listed.0 ≡ i).
          let same : listed.1 ≡ hop = same-hop i hop listed.1 at (subst (λ j. slice_get links j ≡ Some listed.1) e listed.2) in
          let number : listed.1.0 ≡ hop.0 = ap (λ (m : LinkNo). m.0) same in
          omega (arith, number, listed.3))
          (λ (ne : listed.0 ≢ i).
          let less : hop.0 < listed.1.0 = are.ascending i listed.0 hop listed.1 (omega arith) at listed.2 in
          omega (arith, less, listed.3))
          (cases_eq listed.0 i))
          (cases_lt listed.0 i);
    }

    -- one link more that doesn't
    pub none-more : (i : ℕ) (hop : LinkNo) → slice_get links i ≡ Some hop → NoneLeads g x s v links i → (LeadsTo g x s v hop.0 → ⊥) → NoneLeads g x s v links (i + 1)
    none-more i hop at before not_here = record {
      none = λ j k lt is leads. ⊎_elim
          (λ (e : j ≡ i).
          let same : k ≡ hop = same-hop i hop k at (subst (λ m. slice_get links m ≡ Some k) e is) in
          not_here (subst (λ (m : LinkNo). LeadsTo g x s v m.0) same leads))
          (λ (ne : j ≢ i). before.none j k (omega arith) is leads)
          (cases_eq j i);
    }

    -- once all were tried, no link leads there
    pub none-over : (i : ℕ) → length links ≤ i → NoneLeads g x s v links i → (l : ℕ) → LeadsTo g x s v l → ⊥
    none-over i le before l leads =
        let listed : (j : ℕ) × (m : LinkNo) × (slice_get links j ≡ Some m) × (m.0 ≡ l) = are.all l leads.hop in
        let lt : listed.0 < length links = slice_get_within links listed.0 listed.1 listed.2 in
        before.none listed.0 listed.1 (omega arith) listed.2 (subst (λ n. LeadsTo g x s v n) (sym listed.3) leads)

  -- whether a link leads to the one node that was asked
  module _ (v l : ℕ) (alone led : NodeBits) (empty : Bool) (one : IsAlone alone v) (begins : tail g l ≡ s) (are : (u : ℕ) → IsTrue (is_in led u) ↔ ((is_in alone u ≡ true) × LeadsTo g x (tail g l) u l)) (told : IsTrue empty ↔ ((u : ℕ) → is_in led u ≡ false)) where
    pub leads-if : empty ≡ false → LeadsTo g x s v l
    leads-if found = ⊎_elim
        (λ (here : is_in led v ≡ true). subst (λ u. LeadsTo g x u v l) begins ((are v).0 here).1)
        (λ (no : is_in led v ≡ false).
        let all : (u : ℕ) → is_in led u ≡ false = λ u. ⊎_elim
        (λ (here : is_in led u ≡ true).
        let e : u ≡ v = one.only u ((are u).0 here).0 in
        absurd (true≢false (sym here ∙ subst (λ m. is_in led m ≡ false) (sym e) no)))
        (λ (out : is_in led u ≡ false). out)
        (cases_Bool (is_in led u)) in
        absurd (true≢false (sym (told.1 all) ∙ found)))
        (cases_Bool (is_in led v))

    pub leads-not : empty ≡ true → LeadsTo g x s v l → ⊥
    leads-not none leads =
        let there : is_in led v ≡ true = (are v).1 (one.member, subst (λ u. LeadsTo g x u v l) (sym begins) leads) in
        true≢false (sym there ∙ told.0 none v)

  -- the node that was taken is tried
  module _ (start untried fewer : NodeBits) (v : ℕ) (old : KeptHops) (r : AreHopsBut g x s start untried old) (taken : IsWithout untried fewer v) where
    fewer-inside : (u : ℕ) → is_in fewer u ≡ true → is_in start u ≡ true
    fewer-inside u is = r.inside u (without-inside untried fewer v u taken is).1

    was-tried : (u : ℕ) → u ≢ v → is_in fewer u ≡ false → is_in untried u ≡ false
    was-tried u ne out = sym (without-other untried fewer v u taken ne) ∙ out

    -- it is left where no link leads to it
    pub but-left : ((l : ℕ) → LeadsTo g x s v l → ⊥) → AreHopsBut g x s start fewer old
    but-left none = record {
      within = r.within;
      inside = fewer-inside;
      tried = λ u k is out leads. ⊎_elim
          (λ (e : u ≡ v). none k (subst (λ m. LeadsTo g x s m k) e leads))
          (λ (ne : u ≢ v). r.tried u k is (was-tried u ne out) leads)
          (cases_eq u v);
      least = r.least;
      all = r.all;
    }

    -- else the least link that does is kept
    module _ (hop : LinkNo) (alone : NodeBits) (new : KeptHops) (one : IsAlone alone v) (kept : IsKeptHop g x s v hop.0) (keeps : KeepsHop old hop alone new) where
      still_left : (u : ℕ) → is_in new.left u ≡ true → (is_in old.left u ≡ true) × (is_in alone u ≡ false)
      still_left u is =
          let both = and_parts (is_in old.left u) (not (is_in alone u)) (sym (keeps.less u) ∙ is) in
          (both.0, not-true (is_in alone u) both.1)

      pub but-kept : AreHopsBut g x s start fewer new
      but-kept = record {
        within = λ u is. r.within u (still_left u is).0;
        inside = fewer-inside;
        tried = λ u k is out leads. ⊎_elim
            (λ (e : u ≡ v).
            let here : is_in alone u ≡ true = subst (λ m. is_in alone m ≡ true) (sym e) one.member in
            true≢false (sym here ∙ (still_left u is).1))
            (λ (ne : u ≢ v). r.tried u k (still_left u is).0 (was-tried u ne out) leads)
            (cases_eq u v);
        least = λ e is u member. ⊎_elim
            (λ was. r.least e was u member)
            (λ (same : e ≡ record { hop = hop; nodes = alone }).
            let here : is_in alone u ≡ true = subst (λ (h : HopNodes). is_in h.nodes u ≡ true) same member in
            let it : IsKeptHop g x s u hop.0 = subst (λ m. IsKeptHop g x s m hop.0) (sym (one.only u here)) kept in
            subst (λ (h : HopNodes). IsKeptHop g x s u h.hop.0) (sym same) it)
            (keeps.newer e is);
        all = λ u is. ⊎_elim
            (λ (was : is_in old.left u ≡ true). ⊎_elim
            (λ (yes : is_in alone u ≡ true). inr (record { hop = hop; nodes = alone }, keeps.these u yes, yes))
            (λ (no : is_in alone u ≡ false). inl (keeps.less u ∙ and_from (is_in old.left u) (not (is_in alone u)) was (ap not no)))
            (cases_Bool (is_in alone u)))
            (λ (stands : StandsWithHop old.kept.items u). inr (stands.0, keeps.older stands.0 stands.1, stands.2))
            (r.all u is);
      }

  -- once all nodes were tried, the hops are kept, and those that are left are lost
  pub but-over : (start untried : NodeBits) (hops : KeptHops) → AreHopsBut g x s start untried hops → ((v : ℕ) → is_in untried v ≡ false) → AreEndangered g x s start → AreKeptAndLost g x s hops
  but-over start untried hops r none endangered =
      both-over (link_count g) start hops
      (record { within = r.within; before = λ v k is lt leads. r.tried v k is (none v) leads; least = r.least; all = r.all })
      (record { all = λ v k is leads. (leads-from v k leads).0 })
      endangered
