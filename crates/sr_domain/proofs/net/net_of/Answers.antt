use Rattle.std.proofs.Common.{◌∙◌, ℕ, List, ap, map, subst, sym}
use Rattle.std.specs.Prelude.{All}
use Rattle.std.specs.List.Sorted.{IsStrictlyIncreasing}
use Rattle.sr_model.specs.Label.{Labels}
use Rattle.sr_labels.specs.Rules.{HaveSrgbs}
use Rattle.sr_domain.specs.declared.links.FoundLink.{FoundLink}
use Rattle.sr_domain.specs.Links.{JoinsNodes}
use Rattle.sr_domain.specs.Nodes.{labels_of}
use Rattle.sr_domain.proofs.net.net_of.Goals as goal

pub check_labels-requires : goal.check_labels-requires
check_labels-requires c = record {
  nodes = c.deref-2.ensures.value ∙ c.in_ok-gathered.ensures.nodes;
  ascending = subst (λ (ns : List ℕ). IsStrictlyIncreasing ns) (sym c.deref-2.ensures.value) c.in_ok-gathered.ensures.ascending;
  labels = c.deref-3.ensures.value ∙ c.in_ok-labels.ensures.labels ∙ ap (map (labels_of c.args.facts.now)) (c.deref.ensures.value ∙ sym c.deref-2.ensures.value);
  links = c.deref-4.ensures.value ∙ c.in_ok-gathered.ensures.links;
  ends = subst (λ (ns : List ℕ). All (JoinsNodes ns) c.deref-4.result.now) (sym c.deref-2.ensures.value)
      (subst (λ (ls : List FoundLink). All (JoinsNodes c.in_ok-gathered.gathered.nodes.items) ls) (sym c.deref-4.ensures.value) c.in_ok-gathered.ensures.ends);
  kept = c.in_ok-labels.ensures.kept;
}

pub net_with-requires : goal.net_with-requires
net_with-requires c = record {
  depth = c.requires.depth;
  gathered = c.in_ok-gathered.ensures;
  labels = c.in_ok-labels.ensures.labels ∙ ap (map (labels_of c.args.facts.now)) (c.deref.ensures.value ∙ c.in_ok-gathered.ensures.nodes);
  ranges = subst (λ (ls : List Labels). HaveSrgbs ls) c.deref-3.ensures.value c.in_ok-check_labels.ensures.ranges;
  kept = c.in_ok-check_labels.ensures.kept;
}
