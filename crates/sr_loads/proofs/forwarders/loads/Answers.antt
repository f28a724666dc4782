use Rattle.std.proofs.Common.{◌≡◌, ◌*◌, ℕ, length, subst, arith}
use Rattle.sr_loads.specs.Loads.{IsLoads}
use Rattle.sr_loads.proofs.PairOrder.{pairs-few}
use Rattle.sr_loads.proofs.LoadLemmas.{pairs-near, tally-loads}
use Rattle.sr_loads.proofs.forwarders.loads.Goals as goal

pub new-traffic-requires-clause-pairs : goal.new-traffic-requires-clause-pairs
new-traffic-requires-clause-pairs g c =
    rw c.deref.ensures.value (pairs-near c.args.net.now c.args.trees.now c.in_ok-pairs.pairs.items c.requires.trees c.in_ok-pairs.ensures)

pub forward_all-requires-clause-few : goal.forward_all-requires-clause-few
forward_all-requires-clause-few g c κs within =
    rw (c.new-traffic.ensures, c.deref.ensures.value) (pairs-few c.args.net.now c.in_ok-pairs.pairs.items c.requires.trees.graph c.in_ok-pairs.ensures)

pub returns : goal.returns
returns g c =
    let tally = rw (c.new-traffic.ensures, c.deref.ensures.value) at c.in_ok-counts.ensures in
    let net = c.args.net.now in
    let choices = c.args.choices in
    let pairs = c.in_ok-pairs.pairs.items in
    let counts = c.in_ok-counts.counts.items in
    let long : length pairs ≡ c.len.result = omega (arith, c.in_ok-pairs.pairs.ok.0, c.len.ensures) in
    rw c.new.ensures
    (subst (λ (k : ℕ). IsLoads net choices (record { packets = k * choices; counts = counts })) long
    (tally-loads net c.graph-graph.ensures.net choices pairs counts c.requires.choices.1 c.in_ok-pairs.ensures tally))
