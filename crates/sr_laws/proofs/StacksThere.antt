-- A sound list to a destination with an index has a stack.
use Rattle.std.proofs.Common.{◌≡◌, ◌≢◌, ℕ, ◌<◌, ⊎_elim, inl, inr, Bool, true, false, List, [], ◌∷◌, ◌++◌, refl, Option, Some, None}
use Rattle.std.specs.Prelude.{is_some}
use Rattle.std.proofs.lemmas.Bool.{cases_eq}
use Rattle.sr_model.specs.declared.repair.Segment.{Segment}
use Rattle.sr_model.specs.declared.repair.Segment.TheVariants.{Node, Adj}
use Rattle.sr_model.specs.Graph.{node_count, link_at, head, IsLink}
use Rattle.sr_model.specs.Label.{Net, labels_at, adj_at}
use Rattle.sr_model.specs.Rule.{IsNet}
use Rattle.sr_model.specs.Repair.{Leads, Path, IsSound}
use Rattle.sr_model.specs.Forward.{Crossing, IsLabels, IsStack}
use Rattle.sr_laws.proofs.Parts.{true_or}

pub some-of : (o : Option ℕ) → is_some o ≡ true → (i : ℕ) × (o ≡ Some i)
some-of None e = absurd {0} (cc)
some-of (Some i) e = (i, refl)

-- the segments have labels, and so has the destination below them
labels-there : (n : Net) (x : List Bool) (d i : ℕ) → IsNet n → d < node_count n.graph → (labels_at n d).index ≡ Some i → (u : ℕ) (ss : List Segment) (w c : ℕ) → u < node_count n.graph → Leads n x u ss w c → (ts : List ℕ) × IsLabels n u (ss ++ Node (record { 0 = d }) ∷ []) ts
labels-there n x d i nn within is u [] w c at leads =
    let r = nn.inside u d i at within is in
    (r.0 ∷ [], ((i, within, is, r.1), refl))
labels-there n x d i nn within is u (Node v ∷ ss) w c at leads =
    let j = some-of (labels_at n v.0).index leads.2 in
    let r = nn.inside u v.0 j.0 at leads.3 j.1 in
    let rest = labels-there n x d i nn within is v.0 ss w leads.1 leads.3 leads.7 in
    (r.0 ∷ rest.0, ((j.0, leads.3, j.1, r.1), rest.1))
labels-there n x d i nn within is u (Adj l ∷ ss) w c at leads =
    let k : IsLink n.graph (link_at n.graph l.0) = nn.graph.each l.0 leads.1 in
    let t = some-of (adj_at n l.0) leads.4 in
    let rest = labels-there n x d i nn within is (head n.graph l.0) ss w leads.0 k.1 leads.5 in
    (t.0 ∷ rest.0, (t.1, rest.1))

-- a link can be crossed under the node's label
crossing-there : (n : Net) (d i m : ℕ) (rest : List ℕ) → IsNet n → d < node_count n.graph → (labels_at n d).index ≡ Some i → m < node_count n.graph → (after : List ℕ) × Crossing n d m rest after
crossing-there n d i m rest nn within is at =
    let r = nn.inside m d i at within is in
    ⊎_elim
    (λ (here : m ≡ d). ⊎_elim
    (λ (keep : (labels_at n d).keep ≡ true). ⊎_elim
    (λ (null : (labels_at n d).explicit ≡ true). (0 ∷ rest, inr (inl (here, keep, null, refl))))
    (λ (swap : (labels_at n d).explicit ≡ false). (r.0 ∷ rest, inr (inr (r.0, (i, within, is, r.1), inr (keep, swap), refl))))
    (true_or (labels_at n d).explicit))
    (λ (pop : (labels_at n d).keep ≡ false). (rest, inl (here, pop, refl)))
    (true_or (labels_at n d).keep))
    (λ (ne : m ≢ d). (r.0 ∷ rest, inr (inr (r.0, (i, within, is, r.1), inl ne, refl))))
    (cases_eq m d)

stack_of : (n : Net) (x : List Bool) (d i : ℕ) → IsNet n → d < node_count n.graph → (labels_at n d).index ≡ Some i → (first : ℕ) (ss : List Segment) (w c : ℕ) → head n.graph first < node_count n.graph → Leads n x (head n.graph first) ss w c → (labels : List ℕ) × IsStack n d first ss labels
stack_of n x d i nn within is first [] w c at leads = crossing-there n d i (head n.graph first) [] nn within is at
stack_of n x d i nn within is first (s ∷ ss) w c at leads = labels-there n x d i nn within is (head n.graph first) (s ∷ ss) w c at leads

pub stack-there : (n : Net) → IsNet n → (x : List Bool) (s d : ℕ) (a : Path) → d < node_count n.graph → is_some (labels_at n d).index ≡ true → IsSound n x s d a → (labels : List ℕ) × IsStack n d a.first a.segments labels
stack-there n nn x s d a within some sound =
    let i = some-of (labels_at n d).index some in
    let k : IsLink n.graph (link_at n.graph a.first) = nn.graph.each a.first sound.within in
    stack_of n x d i.0 nn within i.1 a.first a.segments sound.last sound.middle k.1 sound.leads
