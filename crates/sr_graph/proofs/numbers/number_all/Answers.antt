use Rattle.std.proofs.Common.{ap, sym, ◌∙◌, ◌++◌, ◌∷◌, [], refl}
use Rattle.std.proofs.lemmas.List.{map_push}
use Rattle.std.proofs.lemmas.List.Elements.{All-same, All-rest}
use Rattle.sr_graph.specs.declared.draft.DraftLink.{DraftLink}
use Rattle.sr_graph.specs.Draft.{HasEnds}
use Rattle.sr_graph.specs.Numbers.{IsNumbered}
use Rattle.sr_graph.proofs.ZipLemmas.{zip-push}
use Rattle.sr_graph.proofs.NumbersLemmas.{yielded-more}
use Rattle.sr_graph.proofs.numbers.number_all.Goals as goal

pub loop-link-init : goal.loop-link-init
loop-link-init c = record {
  all = sym c.into_iter-link-iterator.ensures.into_iter_gives.0;
  ends = All-same (HasEnds c.args.systems.now) _ _ c.into_iter-link-iterator.ensures.into_iter_gives.0 c.requires.ends;
  links = rw c.in_ok-links.ensures.items tt;
  groups = c.in_ok-groups.ensures.items;
}

pub loop-link-preserved : goal.loop-link-preserved
loop-link-preserved c = record {
  all = yielded-more _ _ _ _ _ c.loop-link.invariant.all c.in-Some.ensures.steps.0;
  ends = All-rest (HasEnds c.args.systems.now) _ _ _ c.in-Some.ensures.steps.0 c.loop-link.invariant.ends;
  links = rw c.in_ok-push.ensures.items (zip-push (IsNumbered c.args.systems.now) _ _ _ _ c.loop-link.invariant.links (record { key = refl; metric = refl; from = c.number_near-from.ensures; to = c.number-to.ensures }));
  groups = c.in_ok-push-2.ensures.items ∙ ap (λ gs. gs ++ c.in-Some.link.groups ∷ []) c.loop-link.invariant.groups ∙ sym (map_push (λ (link : DraftLink). link.groups) _ _);
}
