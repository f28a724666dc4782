use Rattle.std.proofs.Common.{ap}
use Rattle.sr_lsp.specs.declared.lsp.Lsp.{Lsp}
use Rattle.sr_account.proofs.ToldLemmas.{parts-there}
use Rattle.sr_account.proofs.asides.Account.add.Goals as goal

pub add_lsp-requires-clause-parts : goal.add_lsp-requires-clause-parts
add_lsp-requires-clause-parts c =
    parts-there c.args.facts.now c.args.id.now c.args.stored.now c.in-Some.shared c.lsp.result.now.parts c.requires.ready.survey.order c.requires.entry c.in-Some.is (ap (λ (l : Lsp). l.parts) c.lsp.ensures)
