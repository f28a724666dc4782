use Rattle.std.proofs.Common.{List, subst}
use Rattle.sr_subtlv.specs.declared.adj_sid.AdjSid.{AdjSid}
use Rattle.sr_account.specs.Steps.{AddsTold, adj_item, at_part, each_from}
use Rattle.sr_account.proofs.ToldLemmas.{adj-step, rest-end}
use Rattle.sr_account.proofs.asides.add_adj_sids.Goals as goal

pub loop-k-preserved : goal.loop-k-preserved
loop-k-preserved c = λ facts verdict.
    adj-step facts c.args.id.now c.args.at c.args.reach.now c.args.entry c.loop-k.k c.as_slice-sids.result.now _ c.adj_sid_reason-reason.result c.args.out.now.items c.loop-k.out.items c.tell.new.out.items c.loop-k-test.true c.as_slice-sids.ensures verdict c.adj_sid_reason-reason.ensures c.in_ok-tell.ensures
    (c.loop-k.invariant facts verdict)

pub returns : goal.returns
returns c = λ facts verdict.
    subst (λ (sids : List AdjSid). AddsTold facts (each_from (adj_item (at_part c.args.id.now c.args.at) c.args.reach.now) 0 sids) c.args.out.now.items c.loop-k.out.items) c.as_slice-sids.ensures
    (rest-end facts (adj_item (at_part c.args.id.now c.args.at) c.args.reach.now) c.loop-k.k c.as_slice-sids.result.now c.args.out.now.items c.loop-k.out.items c.loop-k-test.false (c.loop-k.invariant facts verdict))
