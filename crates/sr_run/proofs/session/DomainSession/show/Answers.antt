use Rattle.std.proofs.Common.{refl, ap}
use Rattle.sr_print.specs.Told.Told.{Show}
use Rattle.sr_lsdb.specs.declared.facts.Facts.{Facts}
use Rattle.sr_run.specs.State.{State}
use Rattle.sr_run.proofs.HandlerLemmas.{shows-told}
use Rattle.sr_run.proofs.session.DomainSession.show.Goals as goal

pub returns : goal.returns
returns c =
    let old : State = record { editing = c.self.inside.editor; current = c.self.inside.current; previous = c.self.inside.previous; draft = c.self.inside.draft } in
    record {
      told = Show (record { version = c.last_number.result; nodes = c.size_of-size.result.nodes; links = c.size_of-size.result.links; depth = c.accepted.result.now.depth; staged = c.staged-staged.result });
      is = shows-told old c.args.self.now c.last_number.result c.size_of-size.result.nodes c.size_of-size.result.links c.accepted.result.now.depth c.staged-staged.result
          c.self.view_is c.last_number.ensures c.size_of-size.ensures.nodes c.size_of-size.ensures.links (ap (λ (f : Facts). f.depth) c.accepted.ensures.facts) c.staged-staged.ensures.count;
      accepted = refl;
      appended = λ number. c.in_ok-put_show.ensures.line;
    }
