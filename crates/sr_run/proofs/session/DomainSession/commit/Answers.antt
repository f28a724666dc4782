use Rattle.std.proofs.Common.{◌≡◌, ◌<◌, arith, ap, refl, ◌∙◌}
use Rattle.sr_model.specs.declared.limits.TheConstants.{MOST_VERSION}
use Rattle.sr_lsdb.specs.Editing.{with_none_staged}
use Rattle.sr_run.specs.Domain.{number_of}
use Rattle.sr_run.specs.State.{State}
use Rattle.sr_run.proofs.HandlerLemmas.{next-kept, rejects-told}
use Rattle.sr_run.proofs.session.DomainSession.commit.Goals as goal

pub accept-requires : goal.accept-requires
accept-requires g c =
    let same : number_of c.self.inside.current ≡ number_of c.args.self.now.current = ap (λ (s : State). number_of s.current) c.self.view_is in
    let room : number_of c.args.self.now.current < MOST_VERSION = omega (arith, same, c.last_number.ensures, c.if-last_number-ge-MOST_VERSION.false) in
    next-kept c.args.self.now _ c.in-Ok.version _ refl room (rw c.in-Ok.is at c.in_ok-version.ensures.made)

pub returns-in_ok-accept-in-Ok-clause-version : goal.returns-in_ok-accept-in-Ok-clause-version
returns-in_ok-accept-in-Ok-clause-version g c =
    let same : number_of c.self.inside.current ≡ number_of c.args.self.now.current = ap (λ (s : State). number_of s.current) c.self.view_is in
    let room : number_of c.args.self.now.current < MOST_VERSION = omega (arith, same, c.last_number.ensures, c.if-last_number-ge-MOST_VERSION.false) in (
      c.in-Ok.version,
      rw c.in-Ok.is at c.in_ok-version.ensures.made,
      c.in_ok-accept-in-Ok.ensures.accepted,
      room,
      λ number. c.in_ok-accept-in-Ok.ensures.said,
    )

pub returns-in-Err-clause-version : goal.returns-in-Err-clause-version
returns-in-Err-clause-version g c =
    let same : number_of c.self.inside.current ≡ number_of c.args.self.now.current = ap (λ (s : State). number_of s.current) c.self.view_is in
    let room : number_of c.args.self.now.current < MOST_VERSION = omega (arith, same, c.last_number.ensures, c.if-last_number-ge-MOST_VERSION.false) in
    let new : State = record { editing = c.drop_staged-dropped.new.self; current = c.self.inside.current; previous = c.self.inside.previous; draft = c.self.inside.draft } in
    let current = ap (λ (s : State). s.current) c.self.view_is in (
      current,
      rejects-told c.args.self.now new c.in-Err.rule room (rw c.in-Err.is at c.in_ok-version.ensures.made) (c.drop_staged-dropped.ensures.dropped ∙ ap (λ (s : State). with_none_staged s.editing) c.self.view_is) current (ap (λ (s : State). s.previous) c.self.view_is)
          (ap (λ (s : State). s.draft) c.self.view_is),
    )
