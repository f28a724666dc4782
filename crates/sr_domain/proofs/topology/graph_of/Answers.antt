use Rattle.std.proofs.Common.{ℕ, List, ap, sym, ◌∙◌, subst}
use Rattle.std.specs.Prelude.{filter}
use Rattle.std.specs.List.Sorted.{IsStrictlyIncreasing}
use Rattle.std.proofs.lemmas.List.Kept.{IsStrictlyIncreasing-filter}
use Rattle.sr_graph.specs.Marks.{IsMarked}
use Rattle.sr_domain.specs.declared.fault.DomainFault.{DomainFault}
use Rattle.sr_domain.specs.Nodes.{has_overload_bit}
use Rattle.sr_domain.specs.Rules.{IsDomainFault}
use Rattle.sr_domain.specs.GroupTables.{groups_in}
use Rattle.sr_domain.proofs.TopologyLemmas.{draft-fits, few-links}
use Rattle.sr_domain.proofs.RefusalLemmas.{accepted, refused}
use Rattle.sr_domain.proofs.GraphLemmas.{graph-of, keys-ascend}
use Rattle.sr_domain.proofs.topology.graph_of.Goals as goal

pub build-requires : goal.build-requires
build-requires c = rw (c.new.ensures, c.new-2.ensures) (draft-fits (groups_in c.args.table.now) c.args.nodes.items c.args.links.now c.in_ok-drafts.drafts.items c.requires.ascending c.requires.ends c.requires.metrics c.in_ok-drafts.ensures.links c.in_ok-drafts.ensures.groups)

pub marked-requires : goal.marked-requires
marked-requires c =
    let nodes = c.args.nodes.items in
    let p = has_overload_bit c.args.facts.now in
    subst (λ (l : List ℕ). IsStrictlyIncreasing l)
    (sym (c.deref-in-Ok.ensures.value ∙ c.in_ok-overloaded.ensures ∙ ap (filter p) c.deref.ensures.value)) (IsStrictlyIncreasing-filter p nodes c.requires.ascending)

pub returns-in-Ok-clause-graph : goal.returns-in-Ok-clause-graph
returns-in-Ok-clause-graph c =
    graph-of c.args.facts.now (groups_in c.args.table.now) c.args.nodes.items c.args.links.now c.in_ok-drafts.drafts.items c.in-Ok.built c.in_ok-graph-in-Ok.graph c.in_ok-drafts.ensures.links c.requires.sorted
    (rw (c.new.ensures, c.new-2.ensures) at c.in-Ok.ensures.accepted).keys
    (c.requires.groups (few-links (groups_in c.args.table.now) c.args.links.now c.in_ok-drafts.drafts.items c.in_ok-drafts.ensures.links (rw (c.new.ensures, c.new-2.ensures) at c.in-Ok.ensures.accepted).few_links)
    (keys-ascend (groups_in c.args.table.now) c.args.links.now c.in_ok-drafts.drafts.items c.in_ok-drafts.ensures.links c.requires.sorted (rw (c.new.ensures, c.new-2.ensures) at c.in-Ok.ensures.accepted).keys))
    (rw (c.new.ensures, c.new-2.ensures) at c.in-Ok.ensures.built)
    (subst (λ (l : List ℕ). IsMarked c.in-Ok.built l c.in_ok-graph-in-Ok.graph)
    (c.deref-in-Ok.ensures.value ∙ c.in_ok-overloaded.ensures ∙ ap (filter (has_overload_bit c.args.facts.now)) c.deref.ensures.value) c.in_ok-graph-in-Ok.ensures)

pub returns-in-Ok-clause-kept : goal.returns-in-Ok-clause-kept
returns-in-Ok-clause-kept c =
    accepted c.args.facts.now (groups_in c.args.table.now) c.args.nodes.items c.args.links.now c.in_ok-drafts.drafts.items c.requires.nodes c.requires.same c.in_ok-drafts.ensures.links c.requires.kept
    (rw (c.new.ensures, c.new-2.ensures) at c.in-Ok.ensures.accepted)

pub returns-clause-fault : goal.returns-clause-fault
returns-clause-fault c =
    subst (λ (f : DomainFault). IsDomainFault c.args.facts.now f) (sym c.domain_fault.ensures)
    (refused c.args.facts.now (groups_in c.args.table.now) c.args.nodes.items c.args.links.now c.in_ok-drafts.drafts.items c.requires.nodes c.requires.same c.in_ok-drafts.ensures.links c.requires.kept c.in-Err.fault
    (rw (c.new.ensures, c.new-2.ensures) at c.in-Err.ensures.refused))
