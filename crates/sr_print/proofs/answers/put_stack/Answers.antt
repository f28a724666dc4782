use Rattle.std.proofs.Common.{◌++◌, ◌∷◌, []}
use Rattle.std.proofs.lemmas.Result.{on_ok_weaker}
use Rattle.sr_print.proofs.Appended.{begins-longer, on_err}
use Rattle.sr_print.proofs.Labelled.{labelled-more, labelled-all, words-more}
use Rattle.sr_print.proofs.answers.put_stack.Goals as goal

pub returns-in_err-put_value-clause-err : goal.returns-in_err-put_value-clause-err
returns-in_err-put_value-clause-err c = on_err c.from_residual.result (begins-longer _ _ _ _ c.loop-segment.invariant.0.2 c.in_err-put_value.ensures.err)

pub loop-segment-preserved : goal.loop-segment-preserved
loop-segment-preserved c =
    let so_far = c.loop-segment.invariant.0 in
    let t = c.segment_label.result in (
      (
        so_far.0 ++ t ∷ [],
        rw c.segment_end-at.ensures.end (labelled-more c.args.net.now c.args.start.0 c.args.segments.now c.args.d.0 c.loop-segment.segment-index c.loop-segment.at.0 so_far.0 t so_far.1 c.loop-segment-test.true c.segment_label.ensures),
        words-more c.args.out.now.items c.loop-segment.out.items c.put_value.new.out.items so_far.0 t c.from.result so_far.2 c.from.ensures c.in_ok-put_value.ensures.line,
      ),
      c.segment_end-at.ensures.within,
    )

pub returns-clause-line : goal.returns-clause-line
returns-clause-line c =
    let so_far = c.loop-segment.invariant.0 in
    let t = c.node_label.result in
    on_ok_weaker c.put_value-2.result
    (λ line. record {
      labels = so_far.0 ++ t ∷ [];
      are = labelled-all c.args.net.now c.args.start.0 c.args.segments.now c.args.d.0 c.loop-segment.segment-index c.loop-segment.at.0 so_far.0 t so_far.1 c.loop-segment-test.false c.node_label.ensures;
      text = words-more c.args.out.now.items c.loop-segment.out.items c.put_value-2.new.out.items so_far.0 t c.from-2.result so_far.2 c.from-2.ensures line;
    })
    c.put_value-2.ensures.line
