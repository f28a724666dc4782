-- the entries to come are of the database; the account goes by the facts; and the lines of the LSPs before them were written
use Rattle.std.specs.Prelude.{Contains}
use Rattle.sr_lsp.specs.declared.lsp.LspId.{LspId}
use Rattle.sr_lsdb.specs.declared.facts.Stored.{Stored}
use Rattle.sr_account.specs.Steps.{IsReady}
use Rattle.sr_engine.specs.Written.{written}
use Rattle.sr_run.proofs.AsideLemmas.{WroteAsides}
use Rattle.sr_run.proofs.account.put_account.Given as goal

abbrev pub invariant-loop-id : goal.invariant-loop-id
invariant-loop-id g l = record {
  within : (entry : LspId × Stored) → Contains l.id-iterator entry → Contains l.facts.database entry;
  ready : IsReady l.facts l.account;
  wrote : WroteAsides l.facts l.count l.id-iterator
      (written (g.K.Sink.held l.fn.sink) (g.K.Sink.faults l.fn.sink) l.fn.out)
      (written (g.K.Sink.held l.sink) (g.K.Sink.faults l.sink) l.out);
}
