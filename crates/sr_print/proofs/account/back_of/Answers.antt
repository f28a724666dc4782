use Rattle.std.proofs.Common.{ap, ◌∙◌}
use Rattle.sr_model.specs.declared.link.Link.{Link}
use Rattle.sr_model.specs.Key.{mirror}
use Rattle.sr_print.proofs.Opposite.{back-is}
use Rattle.sr_print.proofs.account.back_of.Goals as goal

pub returns : goal.returns
returns c =
    back-is c.args.graph.now c.args.link.0 c.mirrored.result c.find.result c.link.ensures.named
    (c.mirrored.ensures ∙ ap (λ (link : Link). mirror link.key) c.link.ensures.link)
    c.find.ensures.found c.find.ensures.none
