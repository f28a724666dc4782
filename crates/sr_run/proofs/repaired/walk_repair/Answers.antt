use Rattle.std.proofs.Common.{◌≡◌, ℕ, ◌++◌, Some, refl, ap, subst, ◌∙◌, inl, inr}
use Rattle.sr_model.specs.declared.link.Link.{Link}
use Rattle.sr_model.specs.Graph.{Graph}
use Rattle.sr_model.specs.Case.{source_of}
use Rattle.sr_model.specs.Label.{Net}
use Rattle.sr_print.specs.Forwarding.{walk_line}
use Rattle.sr_print.specs.Told.Told.{Refused, Walk, Uncovered}
use Rattle.sr_run.specs.Questions.{IsRefused}
use Rattle.sr_run.specs.Failures.{TellsRepairWalk, TellsRepairWalkOf}
use Rattle.sr_run.proofs.NameLemmas.{has-affected, lacks-affected}
use Rattle.sr_run.proofs.HandlerLemmas.{puts-of, told-of}
use Rattle.sr_run.proofs.repaired.walk_repair.Goals as goal

pub returns-in-Err-find_affected : goal.returns-in-Err-find_affected
returns-in-Err-find_affected c =
    let net = c.in-Ok.found.now.net in
    let reason = c.in-Err-find_affected.reason in
    told-of (TellsRepairWalk c.args.repair.now c.args.choice) c.args.current.now c.in-Ok.found.now (Refused reason) c.in-Ok.ensures
    (lacks-affected (IsRefused (Refused reason)) reason refl net c.args.repair.now (λ case d. TellsRepairWalkOf net case d c.args.choice (Refused reason)) c.in-Err-find_affected.ensures)

pub returns-in_ok-put_walk-in-Some : goal.returns-in_ok-put_walk-in-Some
returns-in_ok-put_walk-in-Some c =
    let net = c.in-Ok.found.now.net in
    let case = c.in-Ok-find_affected.found.case in
    let links = c.in-Some.links.items in
    let told = Walk net (source_of net.graph case) (Some links) in
    let source : c.link.result.from.0 ≡ source_of net.graph case =
    ap (λ (l : Link). l.from.0) c.link.ensures.link ∙ ap (λ (g : Graph). source_of g case) (c.graph.ensures.value ∙ ap (λ (n : Net). n.graph) c.net.ensures.value) in
    puts-of (TellsRepairWalk c.args.repair.now c.args.choice) c.args.current.now c.in-Ok.found.now _ _ told c.in-Ok.ensures
    (has-affected (IsRefused told) net c.args.repair.now case c.in-Ok-find_affected.found.destination.0 (λ k e. TellsRepairWalkOf net k e c.args.choice told) c.in-Ok-find_affected.ensures
    (inr (links, rw c.in-Some.is at c.in_ok-links.ensures.walked, refl)))
    refl (λ number.
    subst (λ (u : ℕ). c.put_walk.new.out.items ≡ c.args.out.now.items ++ walk_line net u (Some links)) source
    (subst (λ (n : Net). c.put_walk.new.out.items ≡ c.args.out.now.items ++ walk_line n c.link.result.from.0 (Some links)) c.net-in-Some.ensures.value
    (rw c.deref.ensures.value at c.in_ok-put_walk-in-Some.ensures.line)))

pub returns-in_ok-put_walk_uncovered-in-None : goal.returns-in_ok-put_walk_uncovered-in-None
returns-in_ok-put_walk_uncovered-in-None c =
    let net = c.in-Ok.found.now.net in
    let answer = c.answer_of-answer.result in
    let told = Uncovered answer in
    puts-of (TellsRepairWalk c.args.repair.now c.args.choice) c.args.current.now c.in-Ok.found.now _ _ told c.in-Ok.ensures
    (has-affected (IsRefused told) net c.args.repair.now c.in-Ok-find_affected.found.case c.in-Ok-find_affected.found.destination.0 (λ k e. TellsRepairWalkOf net k e c.args.choice told) c.in-Ok-find_affected.ensures
    (inl (answer, c.answer_of-answer.ensures, rw c.in-None.is at c.in_ok-links.ensures.walked, refl)))
    refl (λ number. c.in_ok-put_walk_uncovered-in-None.ensures.line)
