use Rattle.std.proofs.Common.{◌≡◌, ◌∙◌, ◌%◌, ap, sym, length, arith}
use Rattle.std.proofs.lemmas.Option.{slice_get_past}
use Rattle.std.specs.Prelude.{slice_get}
use Rattle.sr_forward.specs.Choices.{open_hops}
use Rattle.sr_forward.proofs.HopLemmas.{open-long}
use Rattle.sr_forward.proofs.hops.chosen.Goals as goal

pub returns-then-count-eq0 : goal.returns-then-count-eq0
returns-then-count-eq0 c =
    let long = open-long c.args.closed.now c.args.hops.now c.links.result.now c.links.ensures in
    let none : length (open_hops c.args.closed.now c.args.hops.now) ≡ 0 = sym long ∙ sym c.open_count-count.ensures ∙ c.if-count-eq0.true in
    sym (slice_get_past (open_hops c.args.closed.now c.args.hops.now) (c.args.choice % length (open_hops c.args.closed.now c.args.hops.now)) (omega (arith, none)))

pub returns : goal.returns
returns c =
    let long = open-long c.args.closed.now c.args.hops.now c.links.result.now c.links.ensures in
    c.open_at.ensures ∙ ap (λ k. slice_get (open_hops c.args.closed.now c.args.hops.now) (c.args.choice % k)) (c.open_count-count.ensures ∙ long)
