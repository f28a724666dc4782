use Rattle.std.proofs.Common.{rules, ◌≡◌, map, length, ◌∙◌}
use Rattle.std.specs.List.{AllZip}
use Rattle.std.proofs.lemmas.List.{length-map}
use Rattle.sr_graph.specs.Numbers.{IsNumbered}
use Rattle.sr_graph.specs.Ranges.{AreStarts, AreListedByEnd}
use Rattle.sr_graph.specs.Edges.{edge_of}
use Rattle.sr_graph.proofs.ZipLemmas.{zip-length}
use Rattle.sr_graph.specs.Sharing.{AreSharing}
use Rattle.sr_graph.proofs.GraphLemmas.{by_tail, ends_within, few_groups, built_from, laid_out_from}
use Rattle.sr_graph.proofs.graph.Graph.assemble.Goals as goal

pub number_all-requires-clause-ends : goal.number_all-requires-clause-ends
number_all-requires-clause-ends c = rw c.deref.ensures.value c.requires.draft.ends

pub starts-requires : goal.starts-requires
starts-requires c =
    let numbered : AllZip (IsNumbered c.args.systems.items) c.args.links.items c.in_ok-numbered.numbered.links.items = rw c.deref.ensures.value at c.in_ok-numbered.ensures.links in
    let long : length c.in_ok-numbered.numbered.links.items ≡ length c.args.links.items = zip-length _ _ _ numbered in
    let same : c.len.result ≡ length c.args.systems.items = search rules in
    rw c.deref-2.ensures.value (record {
      few_nodes = rw same c.requires.accepted.few_nodes;
      few_links = rw long c.requires.accepted.few_links;
      by_tail = by_tail _ _ _ c.requires.draft c.requires.accepted c.requires.sorted numbered;
    })

pub lists_by_end-requires : goal.lists_by_end-requires
lists_by_end-requires c =
    let numbered : AllZip (IsNumbered c.args.systems.items) c.args.links.items c.in_ok-numbered.numbered.links.items = rw c.deref.ensures.value at c.in_ok-numbered.ensures.links in
    let long : length c.in_ok-numbered.numbered.links.items ≡ length c.args.links.items = zip-length _ _ _ numbered in
    let same : c.len-2.result ≡ length c.args.systems.items = search rules in
    let edges : c.deref-4.result.now ≡ map edge_of c.in_ok-numbered.numbered.links.items = c.deref-4.ensures.value ∙ rw c.deref-3.ensures.value at c.in_ok-edges.ensures in
    rw same (record {
      few_links = rw (edges, length-map, long) c.requires.accepted.few_links;
      ends = ends_within _ _ _ c.requires.draft c.requires.accepted c.requires.sorted numbered _ edges;
    })

pub sharing-requires : goal.sharing-requires
sharing-requires c =
    let numbered : AllZip (IsNumbered c.args.systems.items) c.args.links.items c.in_ok-numbered.numbered.links.items = rw c.deref.ensures.value at c.in_ok-numbered.ensures.links in
    rw c.deref-5.ensures.value (few_groups _ _ _ c.requires.draft c.requires.accepted c.requires.sorted numbered _ c.in_ok-numbered.ensures.groups)

pub invariant_of-result : goal.invariant_of-result
invariant_of-result c =
    let numbered : AllZip (IsNumbered c.args.systems.items) c.args.links.items c.in_ok-numbered.numbered.links.items = rw c.deref.ensures.value at c.in_ok-numbered.ensures.links in
    let same : c.len.result ≡ length c.args.systems.items = search rules in
    let starts : AreStarts (length c.args.systems.items) c.in_ok-numbered.numbered.links.items c.in_ok-starts.starts.items = rw (c.deref-2.ensures.value, same) at c.in_ok-starts.ensures in
    let edges : c.in_ok-edges.edges.items ≡ map edge_of c.in_ok-numbered.numbered.links.items = rw c.deref-3.ensures.value at c.in_ok-edges.ensures in
    let same-2 : c.len-2.result ≡ length c.args.systems.items = search rules in
    let ends : AreListedByEnd c.in_ok-edges.edges.items (length c.in_ok-edges.edges.items) (length c.args.systems.items) c.in_ok-incoming.incoming.items = rw (c.deref-4.ensures.value, same-2) at c.in_ok-incoming.ensures in
    let sets : AreSharing c.in_ok-numbered.numbered.groups.items c.in_ok-sharing.sharing.items = rw c.deref-5.ensures.value at c.in_ok-sharing.ensures in
    laid_out_from _ _ _ c.requires.draft c.requires.accepted c.requires.sorted numbered _ _ _ _ _ _ c.in_ok-numbered.ensures.groups c.new.ensures.items edges starts ends sets

pub returns : goal.returns
returns c =
    let numbered : AllZip (IsNumbered c.args.systems.items) c.args.links.items c.in_ok-numbered.numbered.links.items = rw c.deref.ensures.value at c.in_ok-numbered.ensures.links in
    built_from _ _ _ c.requires.draft c.requires.accepted c.requires.sorted numbered _ _ c.in_ok-numbered.ensures.groups c.new.ensures.items
