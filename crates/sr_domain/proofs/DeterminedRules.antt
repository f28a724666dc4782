-- The facts determine the first rule that they break, and facts that break one have no net.
use Rattle.std.proofs.Common.{◌≡◌, ℕ, ◌<◌, ◌≤◌, ⊎_elim, List, length, arith, ap, sym, ◌∙◌, subst}
use Rattle.std.specs.Prelude.{slice_get}
use Rattle.std.proofs.lemmas.Bool.{cases_order}
use Rattle.std.proofs.lemmas.Option.{same_Some}
use Rattle.sr_model.specs.declared.name.LinkKey.{LinkKey}
use Rattle.sr_model.specs.declared.label.AdjLabel.{AdjLabel}
use Rattle.sr_model.specs.declared.rule.DomainRule.{DomainRule}
use Rattle.sr_model.specs.declared.rule.DomainRule.TheVariants.{NoSrgb, SrgbBad, DuplicateIndex, IndexOutside, AdjLabelClash, ZeroMetric, DuplicateLink, TooManyNodes, TooManyLinks}
use Rattle.sr_model.specs.Label.{Labels, Net}
use Rattle.sr_model.specs.Rule.{IsLeastDuplicate, IsLeastOutside, IsLeastClash, IsNoLater}
use Rattle.sr_graph.specs.Draft.{AreLeast, EndsLe}
use Rattle.sr_lsdb.specs.declared.facts.Facts.{Facts}
use Rattle.sr_domain.specs.Nodes.{nodes_of, all_labels}
use Rattle.sr_domain.specs.Links.{links_of, found_adj_labels}
use Rattle.sr_domain.specs.Rules.{IsLeastNode, LacksSrgb, HasBadSrgb, HasZeroMetric, IsKeyRepeated, IsNodeAt, IsRuleBroken, Keeps, rank, IsFirstBrokenRule}
use Rattle.sr_domain.specs.Net.{IsNetOf}

node-one : (nodes : List ℕ) (P : ℕ → Type 0) (a b : ℕ) → IsLeastNode nodes P a → IsLeastNode nodes P b → a ≡ b
node-one nodes P a b x y =
    let le : a ≤ b = x.least b y.among y.holds in
    let ge : b ≤ a = y.least a x.among x.holds in
    omega arith

-- the node at a place is one
at-one : (facts : Facts) (i j a b : ℕ) → i ≡ j → IsNodeAt facts i a → IsNodeAt facts j b → a ≡ b
at-one facts i j a b e x y = same_Some a b (sym x ∙ ap (slice_get (nodes_of facts)) e ∙ y)

-- of two indices that are the least, and of two nodes
duplicate-one : (nodes : List Labels) (i low high j a b : ℕ) → IsLeastDuplicate nodes i low high → IsLeastDuplicate nodes j a b → (i ≡ j) × (low ≡ a) × (high ≡ b)
duplicate-one nodes i low high j a b x y =
    let there = x.least j a b y.duplicate in
    let back = y.least i low high x.duplicate in
    let le : i ≤ j = there.0 in
    let ge : j ≤ i = back.0 in
    let index : i ≡ j = omega arith in
    let low_le : low ≤ a = there.1 index in
    let low_ge : a ≤ low = back.1 (sym index) in
    let first : low ≡ a = omega arith in
    let high_le : high ≤ b = there.2 index first in
    let high_ge : b ≤ high = back.2 (sym index) (sym first) in
    (index, first, omega arith)

outside-one : (nodes : List Labels) (i v j w : ℕ) → IsLeastOutside nodes i v → IsLeastOutside nodes j w → (i ≡ j) × (v ≡ w)
outside-one nodes i v j w x y =
    let there = x.least j w y.outside in
    let back = y.least i v x.outside in
    let le : i ≤ j = there.0 in
    let ge : j ≤ i = back.0 in
    let index : i ≡ j = omega arith in
    let node_le : v ≤ w = there.1 index in
    let node_ge : w ≤ v = back.1 (sym index) in
    (index, omega arith)

clash-one : (nodes : List Labels) (adj : List AdjLabel) (a b : AdjLabel) → IsLeastClash nodes adj a → IsLeastClash nodes adj b → (a.node ≡ b.node) × (a.label ≡ b.label)
clash-one nodes adj a b x y =
    let there : IsNoLater a b = subst (IsNoLater a) y.clash.2 (x.least y.clash.0 y.clash.1) in
    let back : IsNoLater b a = subst (IsNoLater b) x.clash.2 (y.least x.clash.0 x.clash.1) in
    let le : a.node ≤ b.node = there.0 in
    let ge : b.node ≤ a.node = back.0 in
    let node : a.node ≡ b.node = omega arith in
    let label_le : a.label ≤ b.label = there.1 node in
    let label_ge : b.label ≤ a.label = back.1 (sym node) in
    (node, omega arith)

ends-one : (a b : LinkKey) → EndsLe a b → EndsLe b a → (a.from ≡ b.from) × (a.to ≡ b.to)
ends-one a b there back =
    ⊎_elim
    (λ (lt : a.from < b.from). absurd (⊎_elim (λ (gt : b.from < a.from). omega arith) (λ same. let e : b.from ≡ a.from = same.0 in omega arith) back))
    (λ same. ⊎_elim
    (λ (gt : b.from < a.from). absurd (let e : a.from ≡ b.from = same.0 in omega arith))
    (λ same'. let le : a.to ≤ b.to = same.1 in let ge : b.to ≤ a.to = same'.1 in (same.0, omega arith))
    back)
    there

links-one : (P : LinkKey → Type 0) (from to a b : ℕ) → AreLeast P from to → AreLeast P a b → (from ≡ a) × (to ≡ b)
links-one P from to a b x y =
    let same = ends-one x.key y.key (x.is.least y.key y.is.holds) (y.is.least x.key x.is.holds) in
    (sym x.begins ∙ same.0 ∙ y.begins, sym x.ends ∙ same.1 ∙ y.ends)

-- a rule is broken in one way
pub broken-one : (facts : Facts) (a b : DomainRule) → rank a ≡ rank b → IsRuleBroken facts a → IsRuleBroken facts b → a ≡ b
broken-one facts (NoSrgb v) (NoSrgb w) e x y = ap NoSrgb (node-one (nodes_of facts) (LacksSrgb facts) v w x y)
broken-one facts (SrgbBad v) (SrgbBad w) e x y = ap SrgbBad (node-one (nodes_of facts) (HasBadSrgb facts) v w x y)
broken-one facts (DuplicateIndex i low high) (DuplicateIndex j a b) e x y =
    let same = duplicate-one (all_labels facts) i x.low_place x.high_place j y.low_place y.high_place x.least y.least in
    ap (λ n. DuplicateIndex n low high) same.0
    ∙ ap (λ n. DuplicateIndex j n high) (at-one facts x.low_place y.low_place low a same.1 x.low_is y.low_is)
    ∙ ap (DuplicateIndex j a) (at-one facts x.high_place y.high_place high b same.2 x.high_is y.high_is)
broken-one facts (IndexOutside i v) (IndexOutside j w) e x y =
    let same = outside-one (all_labels facts) i x.place j y.place x.least y.least in
    ap (λ n. IndexOutside n v) same.0 ∙ ap (IndexOutside j) (at-one facts x.place y.place v w same.1 x.node_is y.node_is)
broken-one facts (AdjLabelClash t v) (AdjLabelClash s w) e x y =
    let same = clash-one (all_labels facts) (found_adj_labels facts) (record { node = x.place; label = t }) (record { node = y.place; label = s }) x.least y.least in
    ap (λ n. AdjLabelClash n v) same.1 ∙ ap (AdjLabelClash s) (at-one facts x.place y.place v w same.0 x.node_is y.node_is)
broken-one facts (ZeroMetric from to) (ZeroMetric a b) e x y =
    let same = links-one (HasZeroMetric (links_of facts)) from to a b x y in
    ap (λ n. ZeroMetric n to) same.0 ∙ ap (ZeroMetric a) same.1
broken-one facts (DuplicateLink from to) (DuplicateLink a b) e x y =
    let same = links-one (IsKeyRepeated (links_of facts)) from to a b x y in
    ap (λ n. DuplicateLink n to) same.0 ∙ ap (DuplicateLink a) same.1
broken-one facts (TooManyNodes m) (TooManyNodes n) e x y = ap TooManyNodes (x.1 ∙ sym y.1)
broken-one facts (TooManyLinks m) (TooManyLinks n) e x y = ap TooManyLinks (x.1 ∙ sym y.1)
broken-one facts a b e x y = absurd (omega arith)

-- a rule that is kept isn't broken
pub broken-not_kept : (facts : Facts) (rule : DomainRule) → IsRuleBroken facts rule → Keeps facts rule → ⊥
broken-not_kept facts (NoSrgb v) x keeps = keeps v x.among x.holds
broken-not_kept facts (SrgbBad v) x keeps = keeps v x.among x.holds
broken-not_kept facts (DuplicateIndex i low high) x keeps = keeps i x.low_place x.high_place x.least.duplicate
broken-not_kept facts (IndexOutside i v) x keeps = keeps i x.place x.least.outside
broken-not_kept facts (AdjLabelClash t v) x keeps = keeps x.least.clash.0 x.least.clash.1
broken-not_kept facts (ZeroMetric from to) x keeps = keeps x.key x.is.holds
broken-not_kept facts (DuplicateLink from to) x keeps = keeps x.key x.is.holds
broken-not_kept facts (TooManyNodes n) x keeps = let many : 256 < n = x.0 in let is : n ≡ length (nodes_of facts) = x.1 in omega arith
broken-not_kept facts (TooManyLinks n) x keeps = let many : 2048 < n = x.0 in let is : n ≡ length (links_of facts) = x.1 in omega arith

pub rank-below : (rule : DomainRule) → rank rule < 9
rank-below (NoSrgb v) = omega arith
rank-below (SrgbBad v) = omega arith
rank-below (DuplicateIndex i low high) = omega arith
rank-below (IndexOutside i v) = omega arith
rank-below (AdjLabelClash t v) = omega arith
rank-below (ZeroMetric from to) = omega arith
rank-below (DuplicateLink from to) = omega arith
rank-below (TooManyNodes n) = omega arith
rank-below (TooManyLinks n) = omega arith

-- facts have at most one first broken rule
pub fault-one : (facts : Facts) (a b : DomainRule) → IsFirstBrokenRule facts a → IsFirstBrokenRule facts b → a ≡ b
fault-one facts a b x y =
    ⊎_elim
    (λ (same : rank a ≡ rank b). broken-one facts a b same x.broken y.broken)
    (⊎_elim
    (λ (lt : rank a < rank b). absurd (broken-not_kept facts a x.broken (y.earlier a lt)))
    (λ (gt : rank b < rank a). absurd (broken-not_kept facts b y.broken (x.earlier b gt))))
    (cases_order (rank a) (rank b))

-- facts that break a rule have no net
pub broken-no_net : (facts : Facts) (rule : DomainRule) (net : Net) → IsFirstBrokenRule facts rule → IsNetOf facts net → ⊥
broken-no_net facts rule net x is = broken-not_kept facts rule x.broken (is.kept rule (rank-below rule))
