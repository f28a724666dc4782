use Rattle.std.proofs.Common.{rules, ◌≡◌, List, subst}
use Rattle.std.specs.Prelude.{Contains}
use Rattle.sr_lsp.specs.declared.lsp.LspId.{LspId}
use Rattle.sr_lsdb.specs.declared.facts.Stored.{Stored}
use Rattle.sr_engine.specs.Written.{written}
use Rattle.sr_account.proofs.ToldLemmas.{within-next}
use Rattle.sr_run.proofs.AsideLemmas.{asides-unbegun, asides-written, wrote-broke, wrote-more, wrote-none, wrote-stopped}
use Rattle.sr_run.proofs.account.put_account.Goals as goal

pub returns-in-Err : goal.returns-in-Err
returns-in-Err g c = asides-unbegun c.args.facts.now c.args.count (written (g.K.Sink.held c.args.sink.now) (g.K.Sink.faults c.args.sink.now) c.args.out.now) c.in-Err.error c.requires

pub returns-in-Err-add : goal.returns-in-Err-add
returns-in-Err-add g c =
    wrote-stopped c.args.facts.now c.args.count c.loop-id.id-iterator (written (g.K.Sink.held c.args.sink.now) (g.K.Sink.faults c.args.sink.now) c.args.out.now) (written (g.K.Sink.held c.loop-id.sink) (g.K.Sink.faults c.loop-id.sink) c.loop-id.out)
    c.in-Err-add.error c.loop-id.invariant.wrote

pub returns-in-Err-write_asides : goal.returns-in-Err-write_asides
returns-in-Err-write_asides g c =
    wrote-broke c.args.facts.now c.args.count (c.in-Some.id.now, c.in-Some.stored.now) c.loop-id.id-iterator c.next.new.self c.clear.new.self.items c.add.new.out.items
    (written (g.K.Sink.held c.args.sink.now) (g.K.Sink.faults c.args.sink.now) c.args.out.now) (written (g.K.Sink.held c.loop-id.sink) (g.K.Sink.faults c.loop-id.sink) c.loop-id.out) (written (g.K.Sink.held c.write_asides.new.sink) (g.K.Sink.faults c.write_asides.new.sink) c.write_asides.new.out)
    c.in-Err-write_asides.fault c.in-Some.ensures.steps c.clear.ensures.items c.in-Ok-add.ensures.told (rw c.deref.ensures.value at c.in-Err-write_asides.ensures) c.loop-id.invariant.wrote

pub loop-id-init : goal.loop-id-init
loop-id-init g c =
    let all : c.into_iter-id-iterator.result ≡ c.args.facts.now.database = search rules in
    record {
      within = λ entry there. subst (λ (l : List (LspId × Stored)). Contains l entry) all there;
      ready = c.in-Ok.ensures;
      wrote = wrote-none c.args.facts.now c.args.count c.into_iter-id-iterator.result (written (g.K.Sink.held c.args.sink.now) (g.K.Sink.faults c.args.sink.now) c.args.out.now) c.in-Ok.ensures.survey.order all c.requires;
    }

pub loop-id-preserved : goal.loop-id-preserved
loop-id-preserved g c = record {
  within = within-next c.args.facts.now (c.in-Some.id.now, c.in-Some.stored.now) c.loop-id.id-iterator c.next.new.self c.loop-id.invariant.within c.in-Some.ensures.steps;
  ready = c.in-Ok-add.ensures.ready;
  wrote = wrote-more c.args.facts.now c.args.count (c.in-Some.id.now, c.in-Some.stored.now) c.loop-id.id-iterator c.next.new.self c.clear.new.self.items c.add.new.out.items
      (written (g.K.Sink.held c.args.sink.now) (g.K.Sink.faults c.args.sink.now) c.args.out.now) (written (g.K.Sink.held c.loop-id.sink) (g.K.Sink.faults c.loop-id.sink) c.loop-id.out) (written (g.K.Sink.held c.write_asides.new.sink) (g.K.Sink.faults c.write_asides.new.sink) c.write_asides.new.out)
      c.in-Some.ensures.steps c.clear.ensures.items c.in-Ok-add.ensures.told (rw c.deref.ensures.value at c.in-Ok-write_asides.ensures) c.loop-id.invariant.wrote;
}

pub returns : goal.returns
returns g c =
    asides-written c.args.facts.now c.args.count c.loop-id.id-iterator (written (g.K.Sink.held c.args.sink.now) (g.K.Sink.faults c.args.sink.now) c.args.out.now) (written (g.K.Sink.held c.loop-id.sink) (g.K.Sink.faults c.loop-id.sink) c.loop-id.out) (written (g.K.Sink.held c.write_aside_count.new.sink) (g.K.Sink.faults c.write_aside_count.new.sink) c.write_aside_count.new.out)
    c.write_aside_count.result c.in-None.ensures.steps.0 c.loop-id.invariant.wrote c.write_aside_count.ensures
