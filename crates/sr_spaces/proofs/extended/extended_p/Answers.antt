use Rattle.std.specs.Prelude.{IsTrue, ◌↔◌}
use Rattle.sr_model.specs.Space.{InExtendedP}
use Rattle.sr_spaces.proofs.SpaceLemmas.{tests-push}
use Rattle.sr_spaces.proofs.extended.extended_p.Goals as goal

pub loop-v-preserved : goal.loop-v-preserved
loop-v-preserved c =
    let here : IsTrue c.in_extended_p.result ↔ InExtendedP c.args.graph.now c.args.x.now c.args.s.0 c.loop-v.v = rw c.over-spaces.ensures at c.in_extended_p.ensures in
    rw c.in_ok-push.ensures.items (tests-push (InExtendedP c.args.graph.now c.args.x.now c.args.s.0) c.loop-v.v c.loop-v.tests.items c.in_extended_p.result c.loop-v.invariant here)
