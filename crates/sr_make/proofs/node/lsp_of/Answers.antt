use Rattle.std.proofs.Common.{◌∙◌, sym, subst}
use Rattle.std.specs.List.{All}
use Rattle.std.proofs.lemmas.List.Elements.{All-filter}
use Rattle.sr_make.specs.Nodes.{touches}
use Rattle.sr_make.specs.Sizes.{IsMadePair}
use Rattle.sr_make.proofs.node.lsp_of.Goals as goal

pub push_reaches-requires : goal.push_reaches-requires
push_reaches-requires c =
    subst (All IsMadePair) (sym (c.deref.ensures.value ∙ c.in_ok-own.ensures))
    (All-filter (touches c.args.node) IsMadePair c.args.pairs.now c.requires.pairs.each)
