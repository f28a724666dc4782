use Rattle.std.proofs.Common.{◌≡◌, ◌∙◌}
use Rattle.std.specs.List.Sorted.{IsPermutation}
use Rattle.std.specs.Vec.{with_items}
use Rattle.std.proofs.lemmas.List.{with_items_is}
use Rattle.std.proofs.lemmas.List.Sorted.{length_permutation}
use Rattle.sr_graph.specs.Draft.{IsAcceptedDraft}
use Rattle.sr_graph.specs.Built.{IsBuilt}
use Rattle.sr_graph.proofs.GraphLemmas.{draft_of, draft-moved, accepted-moved, refusal-moved, built-moved}
use Rattle.sr_graph.proofs.graph.Graph.build.Goals as goal

pub returns-in-Some-clause-refused : goal.returns-in-Some-clause-refused
returns-in-Some-clause-refused c =
    let same : IsPermutation c.args.draft.links c.sort.new.links = rw (c.deref_mut.ensures.value, c.into_vec-links.ensures) at c.sort.ensures.same in
    let sorted : c.deref-2.result.now ≡ c.sort.new.links = c.deref-2.ensures.value ∙ with_items_is c.into_vec-links.result c.sort.new.links (length_permutation _ _ c.sort.ensures.same ∙ c.deref_mut.ensures.len) in
    let nodes : c.deref.result.now ≡ c.args.draft.nodes = c.deref.ensures.value ∙ c.into_vec-systems.ensures in
    refusal-moved _ _ _ same c.in-Some.fault (rw (nodes, sorted) at c.in-Some.ensures)

pub assemble-requires : goal.assemble-requires
assemble-requires c =
    let same : IsPermutation c.args.draft.links c.sort.new.links = rw (c.deref_mut.ensures.value, c.into_vec-links.ensures) at c.sort.ensures.same in
    let written : (with_items c.into_vec-links.result c.sort.new.links).items ≡ c.sort.new.links = with_items_is c.into_vec-links.result c.sort.new.links (length_permutation _ _ c.sort.ensures.same ∙ c.deref_mut.ensures.len) in
    let sorted : c.deref-2.result.now ≡ c.sort.new.links = c.deref-2.ensures.value ∙ written in
    let nodes : c.deref.result.now ≡ c.args.draft.nodes = c.deref.ensures.value ∙ c.into_vec-systems.ensures in
    rw (written, c.into_vec-systems.ensures) (record {
      draft = draft-moved _ _ _ same c.requires;
      accepted = rw (nodes, sorted) at c.in_default.ensures;
      sorted = c.sort.ensures.sorted;
    })

pub returns-in-Ok : goal.returns-in-Ok
returns-in-Ok c =
    let same : IsPermutation c.args.draft.links c.sort.new.links = rw (c.deref_mut.ensures.value, c.into_vec-links.ensures) at c.sort.ensures.same in
    let written : (with_items c.into_vec-links.result c.sort.new.links).items ≡ c.sort.new.links = with_items_is c.into_vec-links.result c.sort.new.links (length_permutation _ _ c.sort.ensures.same ∙ c.deref_mut.ensures.len) in
    let sorted : c.deref-2.result.now ≡ c.sort.new.links = c.deref-2.ensures.value ∙ written in
    let nodes : c.deref.result.now ≡ c.args.draft.nodes = c.deref.ensures.value ∙ c.into_vec-systems.ensures in
    let made : IsBuilt (draft_of c.args.draft.nodes c.sort.new.links) c.in-Ok.graph = rw (written, c.into_vec-systems.ensures) at c.in-Ok.ensures in
    let accepted : IsAcceptedDraft c.args.draft.nodes c.sort.new.links = rw (nodes, sorted) at c.in_default.ensures in
    record { built = built-moved _ _ _ same _ made; accepted = accepted-moved _ _ _ same accepted; refused = tt }
