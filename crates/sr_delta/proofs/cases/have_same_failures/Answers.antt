use Rattle.std.proofs.Common.{◌≡◌, ◌↔◌, true, refl, ap, sym, ◌∙◌}
use Rattle.sr_model.specs.declared.case.Case.{Case}
use Rattle.sr_model.specs.declared.case.Kind.TheVariants.{Link as LinkKind, Node as NodeKind, Risk as RiskKind}
use Rattle.sr_model.specs.Graph.{Graph, head, tail, link_at, IsLink}
use Rattle.sr_model.specs.Stay.{case_with}
use Rattle.sr_lanes.specs.Bits.{is_in}
use Rattle.sr_delta.specs.Grouped.{HaveSameGroupsAt}
use Rattle.sr_delta.specs.Pairs.{HaveSamePairsAt, HaveSameFailures}
use Rattle.sr_delta.proofs.FailureLemmas.{link-same, node-same}
use Rattle.sr_delta.proofs.GroupLemmas.{grouped-same}
use Rattle.sr_delta.proofs.cases.have_same_failures.Goals as goal

pub returns-in-Link : goal.returns-in-Link
returns-in-Link c =
    let case : Case = c.args.old.now.case in
    let kind : case.kind ≡ LinkKind = sym (ap (λ (k : Case). k.kind) c.case-case.ensures.case) ∙ c.in-Link.is in
    (λ is. link-same c.args.old.now.net.graph case c.args.new.now.graph (case_with case c.args.link) kind kind c.requires.name, λ same. refl)

pub returns-in-Node : goal.returns-in-Node
returns-in-Node c =
    let case : Case = c.args.old.now.case in
    let g : Graph = c.args.old.now.net.graph in
    let h : Graph = c.args.new.now.graph in
    let kind : case.kind ≡ NodeKind = sym (ap (λ (k : Case). k.kind) c.case-case.ensures.case) ∙ c.in-Node.is in
    let at : c.edge.result.to.0 ≡ head g case.link.0 = rw (c.graph.ensures.graph, c.case-case.ensures.case) at c.edge.ensures.to in
    let set : c.has.result ≡ is_in c.args.changes.now.alike.pairs (head g case.link.0) = rw (at, c.pairs_alike.ensures) at c.has.ensures in
    let ends : IsLink g (link_at g case.link.0) = c.requires.changes.old.graph.each case.link.0 c.requires.name.0 in
    let pairs : (is_in c.args.changes.now.alike.pairs (head g case.link.0) ≡ true) ↔ HaveSamePairsAt g h (head g case.link.0) = (c.requires.changes.alike c.requires.same).pairs.each (head g case.link.0) ends.1 in
    let both : HaveSamePairsAt g h (head g case.link.0) ↔ HaveSameFailures g case h (case_with case c.args.link) =
    node-same g h c.requires.changes.old.graph c.requires.changes.new.graph c.requires.changes.old.named c.requires.changes.new.named (c.requires.changes.nodes.0 c.requires.same) case (case_with case c.args.link) kind kind c.requires.name in
    (λ is. both.0 (pairs.0 (sym set ∙ is)), λ same. set ∙ pairs.1 (both.1 same))

pub returns-then-has : goal.returns-then-has
returns-then-has c =
    let case : Case = c.args.old.now.case in
    let g : Graph = c.args.old.now.net.graph in
    let h : Graph = c.args.new.now.graph in
    let kind : case.kind ≡ RiskKind = sym (ap (λ (k : Case). k.kind) c.case-case.ensures.case) ∙ c.in-Risk.is in
    let at : c.edge-in-Risk.result.from.0 ≡ tail g case.link.0 = rw (c.graph-in-Risk.ensures.graph, c.case-case.ensures.case) at c.edge-in-Risk.ensures.from in
    let set : c.has-in-Risk.result ≡ is_in c.args.changes.now.alike.groups (tail g case.link.0) = rw (at, c.groups_alike.ensures) at c.has-in-Risk.ensures in
    let groups : HaveSameGroupsAt g h (tail g case.link.0) = (c.requires.changes.alike c.requires.same).groups (tail g case.link.0) (sym set ∙ c.if-has.true) in
    let same : HaveSameFailures g case h (case_with case c.args.link) =
    grouped-same g h c.requires.changes.old.graph c.requires.changes.new.graph c.requires.changes.old.named c.requires.changes.new.named (c.requires.changes.nodes.0 c.requires.same) case (case_with case c.args.link) kind kind c.requires.name groups in
    (λ is. same, λ same'. c.if-has.true)
