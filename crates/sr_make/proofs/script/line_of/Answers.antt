use Rattle.std.proofs.Common.{◌∷◌, ◌++◌, [], sym, ap, ◌∙◌, subst}
use Rattle.hex.specs.Hex.{encode_lower}
use Rattle.sr_lsp.specs.InRange.{FitsLsp}
use Rattle.sr_lsp.specs.Text.{HasSpelling, lsp_text}
use Rattle.sr_make.proofs.SizeLemmas.{node-range, node-spelling}
use Rattle.sr_make.proofs.script.line_of.Goals as goal

pub octets_of-requires-clause-range : goal.octets_of-requires-clause-range
octets_of-requires-clause-range c = subst FitsLsp (sym c.in_ok-lsp.ensures) (node-range c.args.pairs.now c.args.node c.requires.pairs c.requires.node)

pub octets_of-requires-clause-fits : goal.octets_of-requires-clause-fits
octets_of-requires-clause-fits c = subst HasSpelling (sym c.in_ok-lsp.ensures) (node-spelling c.args.pairs.now c.args.node c.requires.pairs)

pub returns : goal.returns
returns c =
    let octets = c.in_ok-octets.ensures ∙ ap lsp_text c.in_ok-lsp.ensures in
    let digits = c.as_bytes.ensures.value ∙ c.in_ok-digits.ensures ∙ ap encode_lower octets in
    c.in_ok-push.ensures.items
    ∙ ap (λ line. line ++ 10 ∷ []) (
    c.in_ok-extend_from_slice.ensures.items
    ∙ ap (λ line. line ++ c.as_bytes.result.now) c.in_ok-line.ensures.items
    ∙ ap (λ text. 108 ∷ 115 ∷ 112 ∷ 32 ∷ text) digits
    )
