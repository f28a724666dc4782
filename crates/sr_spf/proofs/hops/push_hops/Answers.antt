use Rattle.std.proofs.Common.{◌≡◌, ◌≤◌, [], refl, arith, sym}
use Rattle.std.specs.Prelude.{IsTrue, ◌↔◌}
use Rattle.std.proofs.lemmas.List.{length_push}
use Rattle.std.proofs.lemmas.Option.{slice_get_read}
use Rattle.sr_model.specs.Graph.{tail, link_count}
use Rattle.sr_model.specs.Walk.{IsNextHop}
use Rattle.sr_spf.proofs.HopsLemmas.{hops-none, hops-skip, hops-push, hops-whole}
use Rattle.sr_spf.proofs.CarriedLemmas.{carried-at}
use Rattle.sr_spf.proofs.hops.push_hops.Goals as goal
use Rattle.sr_spf.proofs.hops.push_hops.Goals.{then-has+in_ok-push, else-has}

pub loop-link-init : goal.loop-link-init
loop-link-init c = record {
  hops = hops-none _ _ _ _ _ (λ l lt hop. let from : c.links_from-first.result.first ≤ l = (c.links_from-first.ensures.links.to l hop.shortest.0.0 hop.shortest.0.2).0 in omega arith);
  few = omega arith;
  first = omega arith;
}

pub loop-link-preserved : goal.loop-link-preserved
loop-link-preserved c =
    let begins : tail c.args.graph.now c.loop-link.link ≡ c.args.from.0 = c.links_from-first.ensures.links.from c.loop-link.link c.loop-link.invariant.first c.loop-link-test.true in
    let few = c.loop-link.invariant.few in
    let first = c.loop-link.invariant.first in
    let told : IsTrue c.has.result ↔ IsNextHop c.args.graph.now [] c.args.from.0 c.args.to.0 c.loop-link.link =
    rw (← begins, c.has.ensures) (carried-at c.args.graph.now c.args.carried.now c.loop-link.link c.args.to.0 c.index-carried-link.result c.requires.carried (slice_get_read c.args.carried.now (link_count c.args.graph.now) c.loop-link.link c.index-carried-link.result (sym c.requires.carried.long) (omega (arith, c.links_from-first.ensures.links.inside, c.loop-link-test.true)) c.index-carried-link.is)) in
    elim c.if-has.branch [
      | then-has+in_ok-push w ↦
          rw (w.links-is, w.in_ok-push.ensures.items) (record { hops = hops-push _ _ _ _ _ _ (record { 0 = c.loop-link.link }) c.loop-link.invariant.hops (told.0 w.if-has.true) refl; few = omega (arith, length_push c.loop-link.links.items (record { 0 = c.loop-link.link })); first = omega arith })
      | else-has w ↦
          rw w.links-is (record {
            hops = hops-skip _ _ _ _ _ _ c.loop-link.invariant.hops (λ hop. let is = told.1 hop in cc);
            few = omega arith;
            first = omega arith;
          })
    ]

pub returns-clause-hops : goal.returns-clause-hops
returns-clause-hops c =
    hops-whole _ _ _ _ _ _ c.loop-link.invariant.hops
    (λ l hop. let below = (c.links_from-first.ensures.links.to l hop.shortest.0.0 hop.shortest.0.2).1 in omega (arith, below, c.loop-link-test.false))
