use Rattle.std.proofs.Common.{[], sym, ◌∙◌, refl}
use Rattle.sr_model.specs.Label.{adj_at}
use Rattle.sr_fib.specs.Sorted.{link_entry}
use Rattle.sr_fib.proofs.ListedLemmas.{link_number, label_of_link, listed-skip, listed-push}
use Rattle.sr_fib.proofs.listed.labelled.Goals as goal
use Rattle.sr_fib.proofs.listed.labelled.Goals.{in-None, in-Some+in_ok-push-in-Some}

pub loop-place-preserved : goal.loop-place-preserved
loop-place-preserved c = elim c.match-adj.branch [
  | in-None w ↦ rw w.list-is (listed-skip (link_entry [] 0) link_number label_of_link (adj_at c.args.net.now) c.loop-place.list.items c.links_from-first.result.first c.loop-place.place (sym c.adj.ensures.value ∙ w.in-None.is) c.loop-place.invariant)
  | in-Some+in_ok-push-in-Some w ↦
      rw (w.list-is, w.in_ok-push-in-Some.ensures.items)
      (listed-push (link_entry [] 0) link_number label_of_link (adj_at c.args.net.now) c.loop-place.list.items c.links_from-first.result.first c.loop-place.place (record { label = w.in-Some.label; link = record { 0 = c.loop-place.place } }) c.loop-place.auto.place refl (sym c.adj.ensures.value ∙ w.in-Some.is) c.loop-place.invariant)
]
