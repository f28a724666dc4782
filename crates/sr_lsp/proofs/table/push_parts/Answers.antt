use Rattle.std.proofs.Common.{[], sym, rules}
use Rattle.std.proofs.lemmas.List.{append-nil}
use Rattle.sr_wire.proofs.FormatLaws.{unknown_says}
use Rattle.sr_lsp.specs.Table.{rows}
use Rattle.sr_lsp.proofs.table.push_parts.Goals as goal

pub returns-in_default-clause-says : goal.returns-in_default-clause-says
returns-in_default-clause-says c =
    ([], unknown_says rows (record { kind = c.args.kind; value = c.args.value.now }) (search rules), sym (append-nil c.args.parts.now.items))
