use Rattle.std.proofs.Common.{◌≡◌, ℕ, ◌<◌, ◌∙◌, ap, sym, subst}
use Rattle.crossbeam_queue.specs.Passes.{Pass, view}
use Rattle.sr_loads.specs.declared.queue.Hand.{Hand}
use Rattle.sr_loads.specs.Tally.{Traffic, IsTallyOf, AddsCounts}
use Rattle.sr_loads.proofs.QueueLemmas.{merges}
use Rattle.sr_loads.proofs.BatchLemmas.{tally-both}
use Rattle.sr_loads.proofs.tally.Tally.with.Goals as goal

pub absorb-requires-clause-rule : goal.absorb-requires-clause-rule
absorb-requires-clause-rule c = merges _ _ _ _ (subst (λ (p : Pass ℕ Hand). 0 < (view p).parts) (sym (ap (λ s. s.pass) c.self.view_is)) c.requires.part)

pub new-requires : goal.new-requires
new-requires c =
    let same : c.other.inside.traffic.now ≡ c.self.inside.traffic.now = ap (λ s. s.traffic) c.other.view_is ∙ (c.requires.traffic ∙ sym (ap (λ s. s.traffic) c.self.view_is)) in
    let theirs = subst (λ (t : Traffic). IsTallyOf t (view c.other.inside.pass).taken c.other.inside.counts.items) same c.other.invariant in
    let adds : AddsCounts c.other.inside.counts.items c.self.inside.counts.items c.add_counts.new.counts.items = rw c.deref.ensures.value at c.add_counts.ensures in
    rw (ap (λ v. v.taken) c.absorb.ensures.rule)
    (tally-both c.self.inside.traffic.now (view c.self.inside.pass).taken (view c.other.inside.pass).taken c.self.inside.counts.items c.other.inside.counts.items c.add_counts.new.counts.items c.self.invariant theirs adds)
