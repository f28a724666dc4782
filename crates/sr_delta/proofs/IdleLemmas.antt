-- Trees stay exactly where each listed change is idle.
use Rattle.std.proofs.Common.{◌≡◌, ℕ, ◌+◌, ◌<◌, ◌≤◌, ◌⊎◌, ⊎_elim, inl, inr, List, [], Option, Some, None, true, arith, sym, ◌∙◌, subst}
use Rattle.std.specs.Prelude.{slice_index}
use Rattle.sr_model.specs.declared.link.TheConstants.{FAR}
use Rattle.sr_model.specs.declared.name.LinkKey.{LinkKey}
use Rattle.sr_model.specs.Graph.{Graph, IsNamed}
use Rattle.sr_model.specs.Label.{Net}
use Rattle.sr_model.specs.Stay.{HasMetric, IsIdle, IsKeptTree}
use Rattle.sr_walks.proofs.Rows.{row-one}
use Rattle.sr_laws.proofs.Keys.{system-one}
use Rattle.sr_spf.specs.Trees.{Forest, tree_count, row_at, AreTrees}
use Rattle.sr_delta.specs.declared.change.Change.{Change}
use Rattle.sr_delta.specs.Changed.{IsMetricOf, IsChange, change_at}
use Rattle.sr_delta.specs.Changes.{Differences, AreChanges}
use Rattle.sr_delta.specs.Idle.{IsDearerBy, IsIdleChange, AreAllIdle}
use Rattle.sr_delta.proofs.ChangeLemmas.{metric-one}

-- dearer by the metric that is kept is dearer by each that the link has
dearer-each : (g : Graph) → IsNamed g → (key : LinkKey) (from to : ℕ) (kept : Option ℕ) → IsMetricOf g key kept → IsDearerBy from to kept → (c : ℕ) → HasMetric g key c → to < from + c
dearer-each g named key from to None of dearer c has = absurd (of (has.0, has.1, has.2))
dearer-each g named key from to (Some b) of dearer c has = subst (λ j. to < from + j) (metric-one g named key b c of has) dearer

each-dearer : (g : Graph) (key : LinkKey) (from to : ℕ) (kept : Option ℕ) → IsMetricOf g key kept → ((c : ℕ) → HasMetric g key c → to < from + c) → IsDearerBy from to kept
each-dearer g key from to None of each = tt
each-dearer g key from to (Some b) of each = each b of

-- an idle change is that of an idle link
pub idle-from_change : (g h : Graph) → IsNamed g → IsNamed h → (cells : List ℕ) (c : Change) → IsChange g h c → IsIdleChange cells c → IsIdle g h cells c.key
idle-from_change g h gn hn cells c is idle = record {
  from = c.from.0;
  to = c.to.0;
  begins = is.begins;
  ends = is.ends;
  idle = ⊎_elim
      (λ far. inl far)
      (λ near. inr (
        near.0,
        λ m has. ⊎_elim
            (λ old. dearer-each g gn c.key (slice_index cells c.from.0) (slice_index cells c.to.0) c.before is.before near.1 m old)
            (λ new. dearer-each h hn c.key (slice_index cells c.from.0) (slice_index cells c.to.0) c.after is.after near.2 m new)
            has,
      ))
      idle;
}

-- and the other way round
pub change-from_idle : (g h : Graph) → IsNamed g → (cells : List ℕ) (c : Change) → IsChange g h c → IsIdle g h cells c.key → IsIdleChange cells c
change-from_idle g h gn cells c is i =
    let from : i.from ≡ c.from.0 = system-one g gn i.from c.from.0 i.begins.0 is.begins.0 (i.begins.1 ∙ sym is.begins.1) in
    let to : i.to ≡ c.to.0 = system-one g gn i.to c.to.0 i.ends.0 is.ends.0 (i.ends.1 ∙ sym is.ends.1) in
    ⊎_elim
    (λ far. inl (subst (λ v. FAR ≤ slice_index cells v) from far))
    (λ near.
    let less : (m : ℕ) → HasMetric g c.key m ⊎ HasMetric h c.key m → slice_index cells c.to.0 < slice_index cells c.from.0 + m =
    λ m has. subst (λ v. slice_index cells v < slice_index cells c.from.0 + m) to (subst (λ v. slice_index cells i.to < slice_index cells v + m) from (near.1 m has)) in
    inr (
      subst (λ v. slice_index cells v < FAR) to near.0,
      each-dearer g c.key (slice_index cells c.from.0) (slice_index cells c.to.0) c.before is.before (λ m has. less m (inl has)),
      each-dearer h c.key (slice_index cells c.from.0) (slice_index cells c.to.0) c.after is.after (λ m has. less m (inr has)),
    ))
    i.idle

-- all changes are idle for the old row exactly where the tree stays
pub all-kept : (n m : Net) (d : Differences) (t : Forest) (u : ℕ) → AreChanges n m d → AreTrees n.graph t → u < tree_count t → d.same ≡ true → AreAllIdle (row_at t.rows u) d.links → IsKeptTree n.graph m.graph u
all-kept n m d t u c trees within same idle = record {
  nodes = c.nodes.0 same;
  cells = row_at t.rows u;
  row = trees.rows u (omega (arith, trees.long));
  idle = λ key changed.
      let at = (c.links same).whole key changed changed in
      subst (λ j. IsIdle n.graph m.graph (row_at t.rows u) j) at.2 (idle-from_change n.graph m.graph c.old.named c.new.named (row_at t.rows u) (change_at d.links at.0) ((c.links same).each at.0 at.1) (idle at.0 at.1));
}

pub kept-all : (n m : Net) (d : Differences) (t : Forest) (u : ℕ) → AreChanges n m d → AreTrees n.graph t → u < tree_count t → IsKeptTree n.graph m.graph u → (d.same ≡ true) × AreAllIdle (row_at t.rows u) d.links
kept-all n m d t u c trees within kept =
    let same : d.same ≡ true = c.nodes.1 kept.nodes in
    let row : kept.cells ≡ row_at t.rows u = row-one n.graph [] u kept.cells (row_at t.rows u) kept.row (trees.rows u (omega (arith, trees.long))) in (
      same,
      λ k lt.
          let is : IsChange n.graph m.graph (change_at d.links k) = (c.links same).each k lt in
          change-from_idle n.graph m.graph c.old.named (row_at t.rows u) (change_at d.links k) is (subst (λ cells. IsIdle n.graph m.graph cells (change_at d.links k).key) row (kept.idle (change_at d.links k).key is.changed)),
    )
