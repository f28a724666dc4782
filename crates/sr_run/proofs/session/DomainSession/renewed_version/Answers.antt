use Rattle.std.proofs.Common.{◌≡◌, ◌+◌, refl, ap, sym, subst, ◌∙◌}
use Rattle.sr_labels.specs.Depth.{with_depth}
use Rattle.sr_lsdb.specs.declared.facts.Facts.{Facts}
use Rattle.sr_lsdb.specs.Renewed.{SayTheSame}
use Rattle.sr_repair.specs.Version.{NumberedNet, version_of}
use Rattle.sr_run.specs.State.{State, IsNextVersion}
use Rattle.sr_run.proofs.RenewalLemmas.{renewed-next}
use Rattle.sr_run.proofs.session.DomainSession.renewed_version.Goals as goal

pub returns-in-Ok-renewed : goal.returns-in-Ok-renewed
returns-in-Ok-renewed c =
    let state : State = record {
      editing = c.self.inside.editor;
      current = c.self.inside.current;
      previous = c.self.inside.previous;
      draft = c.self.inside.draft;
    } in
    let last : NumberedNet = c.in-Ok.version.now in
    let same : SayTheSame state.editing.accepted state.editing.tentative = c.if-not-says_the_same.ensures.0 refl in
    let depth : c.tentative.result.now.depth ≡ state.editing.tentative.depth = ap (λ (f : Facts). f.depth) c.tentative.ensures.facts in
    let next : c.in-Ok-renewed.next ≡ version_of (last.number + 1) (with_depth state.editing.tentative.depth last.net) = c.in-Ok-renewed.ensures ∙ ap (λ d. version_of (last.number + 1) (with_depth d last.net)) depth in
    let is : IsNextVersion state (version_of (last.number + 1) (with_depth state.editing.tentative.depth last.net)) = renewed-next state c.self.invariant last c.in-Ok.ensures same (rw c.tentative.ensures.facts at c.tentative.ensures.range.depth) in
    subst (λ (s : State). IsNextVersion s c.in-Ok-renewed.next) c.self.view_is (subst (IsNextVersion state) (sym next) is)
