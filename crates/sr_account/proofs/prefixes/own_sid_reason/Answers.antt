use Rattle.sr_account.specs.Steps.{at_part}
use Rattle.sr_account.proofs.SidLemmas.{index-verdict}
use Rattle.sr_account.proofs.prefixes.own_sid_reason.Goals as goal

pub returns-else-sid-ne-PREFIX_SID_NODE : goal.returns-else-sid-ne-PREFIX_SID_NODE
returns-else-sid-ne-PREFIX_SID_NODE c = λ facts own among.
    index-verdict facts c.args.choice.now (at_part c.args.id.now c.args.at) c.args.prefix.now c.args.k c.args.sid c.in-Index.index own among
    (record { host = c.if-prefix-ne-ADDRESS_BITS.false; algorithm = c.if-sid-ne0.false; form = c.in-Index.is; flags = c.if-sid-ne-PREFIX_SID_NODE.false })
    c.offer_reason.result c.offer_reason.ensures
