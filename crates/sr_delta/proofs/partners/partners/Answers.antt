use Rattle.std.proofs.Common.{◌≡◌, ◌<◌, arith, ap}
use Rattle.sr_model.specs.Graph.{Graph, link_count}
use Rattle.sr_model.specs.declared.link.Link.{Link}
use Rattle.sr_model.specs.Case.{key_at}
use Rattle.sr_delta.proofs.PartnerLemmas.{partners-push, partner-found, below-next}
use Rattle.sr_delta.proofs.partners.partners.Goals as goal

pub loop-l-preserved : goal.loop-l-preserved
loop-l-preserved c =
    let g : Graph = c.args.graph.now in
    let h : Graph = c.args.other.now in
    let within : c.loop-l.l < link_count g = omega (arith, c.link_count-count.ensures.count) in
    let key : c.link-key.result.key ≡ key_at g c.loop-l.l = ap (λ (k : Link). k.key) c.link-key.ensures.link in
    record {
      listed = rw c.in_ok-push.ensures.items
          (partners-push g h c.loop-l.l c.loop-l.list.items c.link_with_key.result c.loop-l.invariant.listed
          (partner-found g h c.loop-l.l within c.link_with_key.result (rw key at c.link_with_key.ensures.found) (rw key at c.link_with_key.ensures.none)));
      within = c.place_from-at.ensures.within;
      below = λ next. below-next g h c.link_count-count.ensures.named c.loop-l.l c.place_from-at.result next (rw key at c.place_from-at.ensures.below);
    }
