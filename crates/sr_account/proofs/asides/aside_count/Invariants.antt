-- the entries to come are of the database; the account goes by the facts; and what was told so far is counted
use Rattle.std.specs.Prelude.{Contains}
use Rattle.sr_lsp.specs.declared.lsp.LspId.{LspId}
use Rattle.sr_lsdb.specs.declared.facts.Stored.{Stored}
use Rattle.sr_account.specs.Steps.{IsReady}
use Rattle.sr_account.proofs.TakenLemmas.{IsCountedTo}
use Rattle.sr_account.proofs.asides.aside_count.Given as goal

abbrev pub invariant-loop-id : goal.invariant-loop-id
invariant-loop-id l = record {
  within : (entry : LspId × Stored) → Contains l.id-iterator entry → Contains l.facts.database entry;
  ready : IsReady l.facts l.account;
  counted : IsCountedTo l.facts l.id-iterator l.count;
}
