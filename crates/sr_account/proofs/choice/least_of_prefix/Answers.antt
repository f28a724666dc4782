use Rattle.std.proofs.Common.{◌∙◌, ap, sym, List}
use Rattle.sr_subtlv.specs.declared.prefix_sid.PrefixSid.{PrefixSid}
use Rattle.sr_account.specs.Steps.{at_part, each_from, least_offer, prefix_item}
use Rattle.sr_account.proofs.ChoiceLemmas.{least-end, least-sid}
use Rattle.sr_account.proofs.choice.least_of_prefix.Goals as goal

pub loop-k-preserved : goal.loop-k-preserved
loop-k-preserved c =
    least-sid c.args.id.now c.args.at c.args.prefix.now c.loop-k.k c.as_slice-sid-items.result.now _ c.loop-k.found c.index_offer.result c.lesser_offer-found.result c.requires c.loop-k-test.true c.lesser_offer-found.ensures c.index_offer.ensures
    ∙ c.loop-k.invariant

pub returns : goal.returns
returns c =
    sym (least-end (prefix_item (at_part c.args.id.now c.args.at) c.args.prefix.now) c.loop-k.k c.as_slice-sid-items.result.now c.loop-k.found c.loop-k-test.false)
    ∙ c.loop-k.invariant
    ∙ ap (λ (sids : List PrefixSid). least_offer c.args.first (each_from (prefix_item (at_part c.args.id.now c.args.at) c.args.prefix.now) 0 sids)) c.as_slice-sid-items.ensures
