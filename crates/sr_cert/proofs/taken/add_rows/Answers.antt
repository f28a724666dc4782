use Rattle.std.proofs.Common.{subst, List, drop, ◌+◌}
use Rattle.std.proofs.lemmas.Result.{on_ok_weaker}
use Rattle.std.proofs.lemmas.List.{drop_all}
use Rattle.sr_model.specs.declared.repair.Segment.TheVariants.{Node}
use Rattle.sr_cert.specs.Rows.{Heading, headings}
use Rattle.sr_cert.specs.Taken.{AreBegun}
use Rattle.sr_cert.proofs.RowsLemmas.{begun-more, begun-all, headings-next}
use Rattle.sr_cert.proofs.taken.add_rows.Goals as goal

pub loop-segment-preserved : goal.loop-segment-preserved
loop-segment-preserved c =
    let n = c.args.version.now.net in
    let ss = c.args.segments.now in
    let k = c.loop-segment.segment-index in
    let d = c.args.destination.0 in
    let asked = headings n.graph c.args.begin.0 ss d in
    let at = c.loop-segment.at.0 in
    let end = c.segment_end-at.result.0 in
    let left = headings-next n at end ss k d (Node (record { 0 = 0 })) c.loop-segment-test.true (rw c.net-net.ensures.value at c.segment_end-at.ensures.end) in (
      begun-more n.graph asked _ (headings n.graph end (drop (k + 1) ss) d) c.args.out.now.items c.loop-segment.out.items c.add_segment.new.out.items
          (subst (λ (hs : List Heading). AreBegun n.graph asked hs c.args.out.now.items c.loop-segment.out.items) left c.loop-segment.invariant.0)
          c.in_ok-add_segment.ensures,
      rw (← c.net-net.ensures.value) c.segment_end-at.ensures.within,
    )

pub returns : goal.returns
returns c =
    let n = c.args.version.now.net in
    let ss = c.args.segments.now in
    let none = drop_all c.loop-segment.segment-index ss c.loop-segment-test.false in
    on_ok_weaker c.add_pair.result
    (λ adds. begun-all n.graph _ _ c.args.out.now.items c.loop-segment.out.items c.add_pair.new.out.items (rw none at c.loop-segment.invariant.0) adds)
    c.add_pair.ensures
