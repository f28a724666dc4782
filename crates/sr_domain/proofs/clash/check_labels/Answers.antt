use Rattle.std.proofs.Common.{◌≡◌, ap, ◌∙◌, List, ℕ, map}
use Rattle.std.specs.List.{filter_map}
use Rattle.sr_domain.specs.Nodes.{labels_of, all_labels}
use Rattle.sr_domain.specs.Links.{adj_label_by, links_of, found_adj_labels}
use Rattle.sr_domain.proofs.ClashLemmas.{clash-none, clash-some}
use Rattle.sr_domain.proofs.clash.check_labels.Goals as goal

pub returns-in-None-clause-kept : goal.returns-in-None-clause-kept
returns-in-None-clause-kept c =
    let its : c.args.labels.now ≡ all_labels c.args.facts.now = c.requires.labels ∙ ap (map (labels_of c.args.facts.now)) c.requires.nodes in
    let theirs : c.deref.result.now ≡ found_adj_labels c.args.facts.now = c.deref.ensures.value ∙ c.in_ok-adj.ensures.labels ∙ ap (filter_map (adj_label_by c.args.nodes.now)) c.requires.links ∙ ap (λ (n : List ℕ). filter_map (adj_label_by n) (links_of c.args.facts.now)) c.requires.nodes in
    clash-none c.args.facts.now c.args.nodes.now c.args.labels.now c.deref.result.now c.requires.nodes its theirs c.requires.kept
    (rw c.in-None.is at c.in_ok-broken.ensures.first)

pub returns-clause-fault : goal.returns-clause-fault
returns-clause-fault c =
    let its : c.args.labels.now ≡ all_labels c.args.facts.now = c.requires.labels ∙ ap (map (labels_of c.args.facts.now)) c.requires.nodes in
    let theirs : c.deref.result.now ≡ found_adj_labels c.args.facts.now = c.deref.ensures.value ∙ c.in_ok-adj.ensures.labels ∙ ap (filter_map (adj_label_by c.args.nodes.now)) c.requires.links ∙ ap (λ (n : List ℕ). filter_map (adj_label_by n) (links_of c.args.facts.now)) c.requires.nodes in
    clash-some c.args.facts.now c.args.nodes.now c.args.labels.now c.deref.result.now c.requires.nodes its theirs c.requires.kept c.in-Some.rule c.with_system_ids.result
    (rw c.in-Some.is at c.in_ok-broken.ensures.first) c.with_system_ids.ensures
