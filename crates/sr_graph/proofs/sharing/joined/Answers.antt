use Rattle.std.proofs.Common.{◌≡◌, length, ap, ◌∙◌}
use Rattle.std.specs.Vec.{with_items}
use Rattle.std.proofs.lemmas.List.{with_items_is}
use Rattle.sr_graph.specs.Holdings.{AreJoined}
use Rattle.sr_graph.proofs.SharingLemmas.{joined-more, parted-more}
use Rattle.sr_graph.proofs.sharing.joined.Goals as goal

pub loop-start-preserved : goal.loop-start-preserved
loop-start-preserved c =
    let written : (with_items c.loop-start.sets c.add_to_each.new.sets).items ≡ c.add_to_each.new.sets = with_items_is c.loop-start.sets c.add_to_each.new.sets (c.add_to_each.auto.sets ∙ c.deref_mut.ensures.len) in
    let long : length c.add_to_each.new.sets ≡ c.args.links = c.add_to_each.auto.sets ∙ ap length c.deref_mut.ensures.value ∙ c.loop-start.invariant.long in
    let more : AreJoined c.args.list.now c.run_end-end.result c.add_to_each.new.sets =
    joined-more _ _ _ _ _ _ c.run_end-end.ensures c.loop-start.invariant.parted c.collect.ensures.links c.loop-start.invariant.joined (rw c.deref_mut.ensures.value at c.in_ok-add_to_each.ensures) in
    rw written (record {
      within = c.run_end-end.ensures.inside;
      long = long;
      room = λ k lt. rw c.collect.ensures.long (c.loop-start.invariant.room k lt);
      joined = more;
      parted = parted-more _ _ _ c.run_end-end.ensures c.loop-start.invariant.parted;
    })
