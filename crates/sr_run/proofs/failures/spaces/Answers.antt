use Rattle.std.proofs.Common.{◌≡◌, ◌++◌, refl, subst}
use Rattle.sr_model.specs.Label.{Net}
use Rattle.sr_print.specs.Spaces.{spaces_lines}
use Rattle.sr_print.specs.Told.Told.{Spaces, Refused}
use Rattle.sr_run.specs.Questions.{IsRefused}
use Rattle.sr_run.specs.Failures.{TellsSpaces, TellsSpacesOf}
use Rattle.sr_run.proofs.NameLemmas.{has-failure, lacks-failure}
use Rattle.sr_run.proofs.HandlerLemmas.{puts-of, told-of}
use Rattle.sr_run.proofs.failures.spaces.Goals as goal

pub returns-in-Err-find_failure : goal.returns-in-Err-find_failure
returns-in-Err-find_failure c =
    let net = c.in-Ok.found.now.net in
    let reason = c.in-Err-find_failure.reason in
    told-of (TellsSpaces c.args.repair.now) c.args.current.now c.in-Ok.found.now (Refused reason) c.in-Ok.ensures
    (lacks-failure (IsRefused (Refused reason)) reason refl net c.args.repair.now (λ case d. TellsSpacesOf net case d (Refused reason)) c.in-Err-find_failure.ensures)

pub returns : goal.returns
returns c =
    let net = c.in-Ok.found.now.net in
    let sets = c.in_ok-sets.sets in
    let told = Spaces net.graph sets.p sets.extended sets.q in
    puts-of (TellsSpaces c.args.repair.now) c.args.current.now c.in-Ok.found.now _ _ told c.in-Ok.ensures
    (has-failure (IsRefused told) net c.args.repair.now c.in-Ok-find_failure.found.case c.in-Ok-find_failure.found.destination.0 (λ case d. TellsSpacesOf net case d told) c.in-Ok-find_failure.ensures
    (sets.p, sets.extended, sets.q, c.in_ok-sets.ensures, refl))
    refl (λ number. subst (λ (n : Net). c.put_spaces.new.out.items ≡ c.args.out.now.items ++ spaces_lines n.graph sets.p sets.extended sets.q) c.net.ensures.value c.in_ok-put_spaces.ensures.line)
