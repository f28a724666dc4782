use Rattle.std.proofs.Common.{List, ap, sym, subst, ◌∙◌}
use Rattle.std.specs.Prelude.{slice_get}
use Rattle.std.proofs.lemmas.Option.{slice_get-get_or}
use Rattle.sr_subtlv.specs.declared.prefix_sid.PrefixSid.{PrefixSid}
use Rattle.sr_account.specs.Steps.{AddsTold, at_part, each_from, prefix_item}
use Rattle.sr_account.proofs.ToldLemmas.{prefix-step, rest-end}
use Rattle.sr_account.proofs.asides.add_prefix_sids.Goals as goal

pub loop-k-preserved : goal.loop-k-preserved
loop-k-preserved c = λ facts stands.
    prefix-step facts c.args.id.now c.args.at c.args.prefix.now c.loop-k.k c.as_slice-sid-items.result.now _ c.prefix_sid_reason-reason.result c.args.out.now.items c.loop-k.out.items c.tell.new.out.items c.loop-k-test.true
    (c.prefix_sid_reason-reason.ensures facts stands (ap (λ (sids : List PrefixSid). slice_get sids c.loop-k.k) (sym c.as_slice-sid-items.ensures) ∙ slice_get-get_or c.as_slice-sid-items.result.now c.loop-k.k _ c.loop-k-test.true))
    c.in_ok-tell.ensures
    (c.loop-k.invariant facts stands)

pub returns : goal.returns
returns c = λ facts stands.
    subst (λ (sids : List PrefixSid). AddsTold facts (each_from (prefix_item (at_part c.args.id.now c.args.at) c.args.prefix.now) 0 sids) c.args.out.now.items c.loop-k.out.items) c.as_slice-sid-items.ensures
    (rest-end facts (prefix_item (at_part c.args.id.now c.args.at) c.args.prefix.now) c.loop-k.k c.as_slice-sid-items.result.now c.args.out.now.items c.loop-k.out.items c.loop-k-test.false (c.loop-k.invariant facts stands))
