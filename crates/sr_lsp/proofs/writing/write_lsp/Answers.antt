use Rattle.std.proofs.Common.{ℕ, ◌++◌, List, arith, subst, sym}
use Rattle.sr_lsp.specs.Lsp.{Reads}
use Rattle.sr_lsp.specs.Text.{HasSpelling}
use Rattle.sr_lsp.proofs.LspLemmas.{lsp_again}
use Rattle.sr_lsp.proofs.writing.write_lsp.Goals as goal

pub returns-in-Ok-write_octets-clause-again : goal.returns-in-Ok-write_octets-clause-again
returns-in-Ok-write_octets-clause-again c rest =
    let lsp = c.args.lsp.now in
    let spelled : HasSpelling lsp = record { parts = c.in-Ok.ensures.short; whole = omega (arith, c.in-Ok.ensures.is, c.if-octets-gt-LONGEST_PDU.false) } in
    subst (λ (octets : List ℕ). Reads (octets ++ rest) lsp) (sym c.in-Ok-write_octets.ensures) (lsp_again lsp rest c.widths_of.ensures c.requires spelled)
