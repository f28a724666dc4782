use Rattle.std.proofs.Common.{◌≡◌, ◌++◌, refl, subst, sym, IfSome}
use Rattle.sr_model.specs.Label.{Net}
use Rattle.sr_print.specs.Adjacencies.{IsActiveWithin, adjbackup_line}
use Rattle.sr_print.specs.Told.Told.{AdjBackup, Refused}
use Rattle.sr_run.specs.Questions.{IsRefused}
use Rattle.sr_run.specs.Failures.{TellsAdjBackup, TellsAdjBackupOf}
use Rattle.sr_run.proofs.FailureLemmas.{backup-within}
use Rattle.sr_run.proofs.NameLemmas.{has-named_link, lacks-named_link}
use Rattle.sr_run.proofs.HandlerLemmas.{puts-of, told-of}
use Rattle.sr_run.proofs.adjacencies.adjbackup.Goals as goal

pub returns-in-Err-find_link : goal.returns-in-Err-find_link
returns-in-Err-find_link c =
    let net = c.in-Ok.found.now.net in
    let facts = c.args.facts.now in
    let reason = c.in-Err-find_link.reason in
    told-of (TellsAdjBackup c.args.name.now facts) c.args.current.now c.in-Ok.found.now (Refused reason) c.in-Ok.ensures
    (lacks-named_link (IsRefused (Refused reason)) reason refl net c.args.name.now (λ link. TellsAdjBackupOf facts net link (Refused reason)) c.in-Err-find_link.ensures)

pub put_adjbackup-requires-clause-answer : goal.put_adjbackup-requires-clause-answer
put_adjbackup-requires-clause-answer c =
    let net = c.in-Ok.found.now.net in
    subst (λ (n : Net). IfSome c.in_ok-found.found (λ b. IsActiveWithin n.graph b.answer)) (sym c.net.ensures.value)
    (backup-within c.args.facts.now net c.in-Ok-find_link.found c.in_ok-found.found c.in_ok-found.ensures)

pub returns : goal.returns
returns c =
    let net = c.in-Ok.found.now.net in
    let facts = c.args.facts.now in
    let link = c.in-Ok-find_link.found in
    let found = c.in_ok-found.found in
    let told = AdjBackup net link found in
    puts-of (TellsAdjBackup c.args.name.now facts) c.args.current.now c.in-Ok.found.now _ _ told c.in-Ok.ensures
    (has-named_link (IsRefused told) net c.args.name.now link (λ l. TellsAdjBackupOf facts net l told) c.in-Ok-find_link.ensures (found, c.in_ok-found.ensures, refl))
    refl (λ number. subst (λ (n : Net). c.put_adjbackup.new.out.items ≡ c.args.out.now.items ++ adjbackup_line n link found) c.net.ensures.value c.in_ok-put_adjbackup.ensures.line)
