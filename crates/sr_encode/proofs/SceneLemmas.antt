-- What the scene of a search tells of waypoints and segments.
use Rattle.std.proofs.Common.{◌≡◌, ◌≢◌, ℕ, ◌+◌, ◌<◌, ◌↔◌, ⊎_elim, true, false, ◌&&◌, ◌==◌, List, [], length, IsTrue, refl, arith, ap, sym, ◌∙◌}
use Rattle.std.specs.Prelude.{is_some, not, nat_lt, slice_index}
use Rattle.std.proofs.lemmas.Bool.{true≢false, not-true, and_parts, and_from, lt-ltb, eqb-true, eq-eqb}
use Rattle.sr_model.specs.declared.link.NodeNo.{NodeNo}
use Rattle.sr_model.specs.declared.link.LinkNo.{LinkNo}
use Rattle.sr_model.specs.declared.repair.Segment.TheVariants.{Node, Adj}
use Rattle.sr_model.specs.Graph.{node_count, link_count, tail, head, metric, has, carries, is_overloaded}
use Rattle.sr_model.specs.Label.{Net, labels_at, adj_at}
use Rattle.sr_model.specs.Space.{InP}
use Rattle.sr_model.specs.Walk.{IsDistance, IsRow}
use Rattle.sr_walks.proofs.Walks.{carries-cases, carries-same}
use Rattle.sr_walks.proofs.Distances.{distance-unique}
use Rattle.sr_lanes.specs.declared.words.NodeBits.{NodeBits}
use Rattle.sr_lanes.specs.Bits.{is_in}
use Rattle.sr_lanes.specs.Passes.{is_tight}
use Rattle.sr_lanes.proofs.SizeLemmas.{apart_test}
use Rattle.sr_encode.specs.Aftermath.{Aftermath, IsAftermath, AddsUp, AddUpFrom, AreInside}
use Rattle.sr_encode.specs.Search.{StepsTo, BeginsAt}
use Rattle.sr_encode.specs.Serve.{EndsAt}
use Rattle.sr_encode.proofs.SearchLemmas.{row-distance}

-- of these nodes, the tight ones of two rows are those at which the distances add up
pub add-up : (after : Aftermath) (w : ℕ) (row : List ℕ) (among nodes : NodeBits) → IsAftermath after
    → IsRow after.net.graph [] w row → AreInside after among
    → ((v : ℕ) → is_in nodes v ≡ (is_in among v && is_tight after.post (slice_index after.post w) row v))
    → AddUpFrom after w among nodes
add-up after w row among nodes is by within these = record {
  inside = λ v yes. (and_parts (is_in among v) (is_tight after.post (slice_index after.post w) row v) (sym (these v) ∙ yes)).0;
  sums = λ v yes.
      let tight = (and_parts (is_in among v) (is_tight after.post (slice_index after.post w) row v) (sym (these v) ∙ yes)).1 in
      let both = and_parts (nat_lt v (length after.post)) (slice_index after.post w + slice_index row v == slice_index after.post v) tight in
      (row, by, eqb-true (slice_index after.post w + slice_index row v) (slice_index after.post v) both.1);
  all = λ v d one near sum.
      let same : slice_index row v ≡ d = distance-unique after.net.graph [] w v _ d (row-distance after.net.graph [] w row v near.reached.0 by (within v one) near.reached.1) near in
      let inside : v < node_count after.net.graph = within v one in
      let lt : v < length after.post = omega (arith, is.row.long) in
      let tight : is_tight after.post (slice_index after.post w) row v ≡ true = and_from (nat_lt v (length after.post)) (slice_index after.post w + slice_index row v == slice_index after.post v) (lt-ltb v (length after.post) lt)
      (eq-eqb (slice_index after.post w + slice_index row v) (slice_index after.post v) (omega arith)) in
      these v ∙ and_from (is_in among v) (is_tight after.post (slice_index after.post w) row v) one tight;
}

-- what is in P of w is at the distance that its row tells
near : (after : Aftermath) (w v : ℕ) (row : List ℕ) → v < node_count after.net.graph → IsRow after.net.graph [] w row
    → InP after.net.graph after.failed w v → IsDistance after.net.graph [] w v (slice_index row v)
near after w v row within by inside = row-distance after.net.graph [] w row v inside.reached.0 by within inside.reached.1

-- the adjacency segment of a link
pub step-over : (after : Aftermath) (l : LinkNo) → l.0 < link_count after.net.graph → has after.failed l.0 ≡ false
    → is_some (adj_at after.net l.0) ≡ true → is_overloaded after.net.graph (tail after.net.graph l.0) ≡ false
    → slice_index after.post (tail after.net.graph l.0) + metric after.net.graph l.0 ≡ slice_index after.post (head after.net.graph l.0)
    → StepsTo after (tail after.net.graph l.0) (Adj l) (head after.net.graph l.0)
step-over after l within outside label clear sum = record {
  cost = metric after.net.graph l.0;
  leads = (0, within, refl, outside, label, (refl, refl), omega arith, clear);
  fits = sum;
}

-- a node segment leads to a node at which the distances add up
pub step-sum : (after : Aftermath) (w : ℕ) (v : NodeNo) (among nodes : NodeBits) → AddUpFrom after w among nodes
    → is_in among v.0 ≡ true → StepsTo after w (Node v) v.0 → is_in nodes v.0 ≡ true
step-sum after w v among nodes r one step =
    r.all v.0 step.leads.0 one step.leads.6 (omega (arith, step.fits, step.leads.8, step.leads.7.1))

-- and so does the end of lists
pub ends-sum : (after : Aftermath) (w d : ℕ) (among nodes : NodeBits) → AddUpFrom after w among nodes
    → is_in among d ≡ true → EndsAt after w d → is_in nodes d ≡ true
ends-sum after w d among nodes r one ends = r.all d ends.rest one ends.goes_on ends.fits

-- lists to an overloaded node end there towards itself alone
free-alone : (after : Aftermath) (w d : ℕ) → is_overloaded after.net.graph w ≡ true → carries after.net.graph d w ≡ true → d ≡ w
free-alone after w d over free =
    ⊎_elim
    (λ (same : w ≡ d). sym same)
    (λ (clear : is_overloaded after.net.graph w ≡ false). absurd (true≢false (sym over ∙ clear)))
    (carries-cases after.net.graph d w free)

-- of the nodes at which the distances by w add up, P tells those towards which lists can end there
pub ends-told : (after : Aftermath) (w d : ℕ) (among fits ends : NodeBits) → AreInside after among → AddUpFrom after w among fits
    → (IsTrue (is_in ends d) ↔ ((is_in fits d ≡ true) × InP after.net.graph after.failed w d))
    → carries after.net.graph d w ≡ true → IsTrue (is_in ends d) ↔ ((is_in among d ≡ true) × EndsAt after w d)
ends-told after w d among fits ends within r p free = (
  λ yes.
      let both = p.0 yes in
      let sum : AddsUp after w d = r.sums d both.0 in
      let one : is_in among d ≡ true = r.inside d both.0 in
      (one, record { rest = slice_index sum.0 d; free = free; ends = both.1; goes_on = near after w d sum.0 (within d one) sum.1 both.1; fits = sum.2 }),
  λ holds. p.1 (ends-sum after w d among fits r holds.0 holds.1, holds.1.ends),
)

-- where w is overloaded, it is the only one of them
pub ends-alone : (after : Aftermath) (w d : ℕ) (among fits ends alone : NodeBits) → AreInside after among → AddUpFrom after w among fits
    → (IsTrue (is_in ends d) ↔ ((is_in fits d ≡ true) × InP after.net.graph after.failed w d))
    → is_overloaded after.net.graph w ≡ true → (is_in alone d ≡ (is_in ends d && (d == w)))
    → IsTrue (is_in alone d) ↔ ((is_in among d ≡ true) × EndsAt after w d)
ends-alone after w d among fits ends alone within r p over only = (
  λ yes.
      let both = and_parts (is_in ends d) (d == w) (sym only ∙ yes) in
      (ends-told after w d among fits ends within r p (carries-same after.net.graph d w (sym (eqb-true d w both.1)))).0 both.0,
  λ holds.
      let same : d ≡ w = free-alone after w d over holds.1.free in
      only ∙ and_from (is_in ends d) (d == w) ((ends-told after w d among fits ends within r p holds.1.free).1 holds) (eq-eqb d w same),
)

-- of these nodes, the others with an index
pub are-others : (n : Net) (v w : ℕ) (among indexed both others : NodeBits)
    → (IsTrue (is_in indexed v) ↔ (is_some (labels_at n v).index ≡ true)) → is_in both v ≡ (is_in among v && is_in indexed v)
    → is_in others v ≡ (not (v == w) && is_in both v)
    → (is_in others v ≡ true) ↔ ((is_in among v ≡ true) × (is_some (labels_at n v).index ≡ true) × (v ≢ w))
are-others n v w among indexed both others index two rest = (
  λ yes.
      let apart = and_parts (not (v == w)) (is_in both v) (sym rest ∙ yes) in
      let is = and_parts (is_in among v) (is_in indexed v) (sym two ∙ apart.1) in
      (is.0, index.0 is.1, λ same. true≢false (sym (eq-eqb v w same) ∙ not-true (v == w) apart.0)),
  λ all. rest ∙ and_from (not (v == w)) (is_in both v) (ap not (apart_test v w all.2)) (two ∙ and_from (is_in among v) (is_in indexed v) all.0 (index.1 all.1)),
)

-- of the other nodes with an index, P tells those to which a node segment leads on from w
pub steps-told : (after : Aftermath) (w v : ℕ) (among others fits steps : NodeBits) → AreInside after among → is_overloaded after.net.graph w ≡ false
    → (is_in others v ≡ true) ↔ ((is_in among v ≡ true) × (is_some (labels_at after.net v).index ≡ true) × (v ≢ w))
    → AddUpFrom after w others fits
    → (IsTrue (is_in steps v) ↔ ((is_in fits v ≡ true) × InP after.net.graph after.failed w v))
    → IsTrue (is_in steps v) ↔ ((is_in among v ≡ true) × StepsTo after w (Node (record { 0 = v })) v)
steps-told after w v among others fits steps within clear other r p = (
  λ yes.
      let both = p.0 yes in
      let sum : AddsUp after w v = r.sums v both.0 in
      let one = other.0 (r.inside v both.0) in (
        one.0,
        record {
          cost = slice_index sum.0 v;
          leads = (slice_index sum.0 v, 0, one.1, within v one.0, one.2, both.1, near after w v sum.0 (within v one.0) sum.1 both.1, (refl, refl), omega arith, clear);
          fits = sum.2;
        },
      ),
  λ holds.
      let step = holds.1 in
      p.1 (step-sum after w (record { 0 = v }) others fits r (other.1 (holds.0, step.leads.2, step.leads.4)) step, step.leads.5),
)

-- a first link that is a list leads to a node, and to one alone
pub begins-within : (after : Aftermath) (l v : ℕ) → IsAftermath after → BeginsAt after l v
    → v < node_count after.net.graph
begins-within after l v is begins = rw (← begins.leads.0) ((is.graph.each l begins.within).1)

pub begins-one : (after : Aftermath) (l v w : ℕ) → BeginsAt after l v → BeginsAt after l w → w ≡ v
begins-one after l v w a b = sym b.leads.0 ∙ a.leads.0
