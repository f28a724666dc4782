use Rattle.std.proofs.Common.{◌≡◌, ◌↔◌, IsTrue}
use Rattle.std.specs.Bool.{Decides}
use Rattle.std.specs.Cmp.{booleans_Decides}
use Rattle.std.proofs.lemmas.Bool.Decides.{Decides-eqb}
use Rattle.std.proofs.lemmas.Slice.Eq.{slice_eq-Decides}
use Rattle.sr_graph.proofs.SameLemmas.{links-decide, then-tested, else-left, same-told, other-told}
use Rattle.sr_graph.proofs.graph.Graph.is_same.Goals.{then-eq, else-eq, then-eq-2, else-eq-2}
use Rattle.sr_graph.proofs.graph.Graph.is_same.Goals as goal

pub returns-then-eq-3 : goal.returns-then-eq-3
returns-then-eq-3 c =
    let one = c.self.inside in
    let other = c.other.inside in
    let systems = slice_eq-Decides Decides-eqb one.systems.items other.systems.items c.eq.result c.eq.ensures in
    let links : Decides c.if-eq.value ((one.systems.items ≡ other.systems.items) × (one.links.items ≡ other.links.items)) =
    elim c.if-eq.branch [
      | then-eq w ↦ then-tested _ _ _ systems w.if-eq.true w.value-is (slice_eq-Decides links-decide one.links.items other.links.items _ w.eq-then-eq.ensures)
      | else-eq w ↦ else-left _ _ systems w.if-eq.false w.value-is
    ] in
    let marks : Decides c.if-eq-2.value (((one.systems.items ≡ other.systems.items) × (one.links.items ≡ other.links.items)) × (one.overloaded.items ≡ other.overloaded.items)) =
    elim c.if-eq-2.branch [
      | then-eq-2 w ↦ then-tested _ _ _ links w.if-eq-2.true w.value-is (slice_eq-Decides booleans_Decides one.overloaded.items other.overloaded.items _ w.eq-then-eq-2.ensures)
      | else-eq-2 w ↦ else-left _ _ links w.if-eq-2.false w.value-is
    ] in
    let groups : IsTrue c.are_grouped_alike.result ↔ (one.groups.items ≡ other.groups.items) = rw (c.deref.ensures.value, c.deref-then-eq-3.ensures.value) at c.are_grouped_alike.ensures in
    same-told _ _ _ _ c.if-eq-2.value _ c.self.view_is c.other.view_is marks c.if-eq-3.true groups

pub returns-else-eq-3 : goal.returns-else-eq-3
returns-else-eq-3 c =
    let one = c.self.inside in
    let other = c.other.inside in
    let systems = slice_eq-Decides Decides-eqb one.systems.items other.systems.items c.eq.result c.eq.ensures in
    let links : Decides c.if-eq.value ((one.systems.items ≡ other.systems.items) × (one.links.items ≡ other.links.items)) =
    elim c.if-eq.branch [
      | then-eq w ↦ then-tested _ _ _ systems w.if-eq.true w.value-is (slice_eq-Decides links-decide one.links.items other.links.items _ w.eq-then-eq.ensures)
      | else-eq w ↦ else-left _ _ systems w.if-eq.false w.value-is
    ] in
    let marks : Decides c.if-eq-2.value (((one.systems.items ≡ other.systems.items) × (one.links.items ≡ other.links.items)) × (one.overloaded.items ≡ other.overloaded.items)) =
    elim c.if-eq-2.branch [
      | then-eq-2 w ↦ then-tested _ _ _ links w.if-eq-2.true w.value-is (slice_eq-Decides booleans_Decides one.overloaded.items other.overloaded.items _ w.eq-then-eq-2.ensures)
      | else-eq-2 w ↦ else-left _ _ links w.if-eq-2.false w.value-is
    ] in
    other-told _ _ _ _ _ c.self.view_is c.other.view_is marks c.if-eq-3.false
