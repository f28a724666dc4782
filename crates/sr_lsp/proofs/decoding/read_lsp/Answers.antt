use Rattle.std.proofs.Common.{List, ◌-◌, drop, take, sym, subst, arith}
use Rattle.std.specs.List.{All}
use Rattle.sr_wire.proofs.OctetLemmas.{octets_range}
use Rattle.sr_lsp.specs.declared.table.Part.{Part}
use Rattle.sr_lsp.specs.InRange.{FitsPart}
use Rattle.sr_lsp.proofs.LspLemmas.{body_in_range}
use Rattle.sr_lsp.proofs.decoding.read_lsp.Goals as goal

pub returns-clause-range : goal.returns-clause-range
returns-clause-range c =
    let P : List Part → Type 0 = λ ps. All FitsPart ps in
    let octets = c.args.octets.now in
    let parts = c.in-Ok-read_parts.parts.items in
    subst P (sym c.in_ok-new.ensures) (body_in_range (take (c.from.result - 27) (drop 27 octets)) parts (octets_range octets 27 c.from.result (λ k. omega (arith, c.type_inv.octets k))) c.in-Ok-read_parts.ensures.says)
