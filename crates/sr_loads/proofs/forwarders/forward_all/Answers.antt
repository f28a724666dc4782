use Rattle.std.proofs.Common.{◌≡◌, ◌∙◌, ℕ, ap, subst, arith}
use Rattle.crossbeam_queue.specs.Passes.{Pass, view}
use Rattle.sr_loads.specs.declared.queue.Hand.{Hand}
use Rattle.sr_loads.specs.Tally.{Traffic, IsTallyOf}
use Rattle.sr_loads.proofs.BatchLemmas.{tally-whole}
use Rattle.sr_loads.proofs.forwarders.forward_all.Goals as goal

pub returns : goal.returns
returns g c =
    let t = c.args.traffic.now in
    let last = c.forward_on.ensures in
    let counts = c.result.inside.counts.items in
    let traffic : c.result.inside.traffic.now ≡ t = ap (λ s. s.traffic) c.result.view_is ∙ (last.on.traffic ∙ (c.gathered-mine.ensures.queue.1 ∙ c.in_ok-empty.ensures.0)) in
    let pass : c.result.inside.pass ≡ c.forward_on.result.pass = ap (λ s. s.pass) c.result.view_is in
    let tally = subst (λ (p : Pass ℕ Hand). IsTallyOf t (view p).taken counts) pass
    (subst (λ (u : Traffic). IsTallyOf u (view c.result.inside.pass).taken counts) traffic c.result.invariant) in
    let pushed = last.on.pushed ∙ (c.gathered-mine.ensures.hand.1 ∙ (ap (λ (p : Pass ℕ Hand). (view p).pushed) c.in_ok-empty.ensures.1
    ∙ (ap (λ v. v.pushed) c.in_ok-tallies.ensures.hand ∙ ap (λ v. v.pushed) c.in_ok-queue.ensures.1))) in
    tally-whole t (view c.forward_on.result.pass) c.batch_count-batches.result counts tally last.empty
    (last.on.parts ∙ c.gathered-mine.ensures.hand.0) pushed (omega (arith, c.batch_count-batches.ensures.1, c.len.ensures))
