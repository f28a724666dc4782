use Rattle.std.proofs.Common.{◌≡◌, ◌↔◌, ◌<◌, length, arith, subst, ◌∙◌, IsTrue}
use Rattle.std.proofs.lemmas.List.{get_or_default}
use Rattle.sr_delta.specs.declared.change.Change.{Change}
use Rattle.sr_delta.specs.Changed.{change_at, no_change}
use Rattle.sr_delta.specs.Idle.{IsIdleOrFailed}
use Rattle.sr_delta.proofs.PairLemmas.{each-up}
use Rattle.sr_delta.proofs.after.are_idle_or_failed.Goals as goal

pub returns-then-not-is_idle_or_failed : goal.returns-then-not-is_idle_or_failed
returns-then-not-is_idle_or_failed c =
    let within : c.loop-n.n < length c.args.links.now = omega (arith, c.loop-n-test.true) in
    let here : c.index-links-n.result ≡ change_at c.args.links.now c.loop-n.n = c.index-links-n.is ∙ get_or_default c.args.links.now c.loop-n.n c.index-links-n.result no_change within in
    let is : IsTrue c.is_idle_or_failed.result ↔ IsIdleOrFailed c.args.graph.now c.args.case c.args.cells.now (change_at c.args.links.now c.loop-n.n) =
    subst (λ (j : Change). IsTrue c.is_idle_or_failed.result ↔ IsIdleOrFailed c.args.graph.now c.args.case c.args.cells.now j) here c.is_idle_or_failed.ensures in (
      λ is. absurd (cc),
      λ all. let this = is.1 (all c.loop-n.n within) in let not = c.if-not-is_idle_or_failed.true in cc,
    )

pub loop-n-preserved : goal.loop-n-preserved
loop-n-preserved c =
    let within : c.loop-n.n < length c.args.links.now = omega (arith, c.loop-n-test.true) in
    let here : c.index-links-n.result ≡ change_at c.args.links.now c.loop-n.n = c.index-links-n.is ∙ get_or_default c.args.links.now c.loop-n.n c.index-links-n.result no_change within in
    let is : IsTrue c.is_idle_or_failed.result ↔ IsIdleOrFailed c.args.graph.now c.args.case c.args.cells.now (change_at c.args.links.now c.loop-n.n) =
    subst (λ (j : Change). IsTrue c.is_idle_or_failed.result ↔ IsIdleOrFailed c.args.graph.now c.args.case c.args.cells.now j) here c.is_idle_or_failed.ensures in
    each-up
    (λ k. IsIdleOrFailed c.args.graph.now c.args.case c.args.cells.now (change_at c.args.links.now k))
    c.loop-n.n
    c.loop-n.invariant
    (is.0 (let not = c.if-not-is_idle_or_failed.false in cc))
