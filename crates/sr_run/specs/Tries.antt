-- What is told to a question that is tried on what is staged, and the state after it.
use Rattle.std.specs.Prelude.{◌≡◌, ◌+◌, ◌<◌, ◌≤◌, ◌⊎◌, length}
use Rattle.sr_model.specs.declared.rule.DomainRule.{DomainRule}
use Rattle.sr_model.specs.Label.{Net}
use Rattle.sr_domain.specs.Net.{IsNetOf}
use Rattle.sr_domain.specs.Rules.{IsFirstBrokenRule}
use Rattle.sr_script.specs.declared.command.Command.{Command}
use Rattle.sr_print.specs.declared.refusal.Refusal.TheVariants.{VersionsFull, Rule}
use Rattle.sr_print.specs.Told.{Told}
use Rattle.sr_repair.specs.Version.{version_of}
use Rattle.sr_model.specs.declared.limits.TheConstants.{MOST_VERSION}
use Rattle.sr_run.specs.Domain.{Domain, last_version, with_tried}
use Rattle.sr_run.specs.Edits.{Refuses}
use Rattle.sr_run.specs.Asked.{TellsQuestion}

-- the first rule that the tentative facts break is named, and nothing changes
pub record TriesInVain (old : Domain) (told : Told) (new : Domain) : Type 0 where
  pub rule : DomainRule
  pub broken : IsFirstBrokenRule old.editing.tentative rule
  pub refused : Refuses old told new (Rule rule)

-- the question is put to the version that a commit would publish, and nothing changes but for what was tried
pub record TriesNet (question : Command) (old : Domain) (told : Told) (new : Domain) : Type 0 where
  pub net : Net
  pub is_net : IsNetOf old.editing.tentative net
  pub tells : TellsQuestion question old.editing.tentative (last_version old.nets)
      (version_of (length old.nets + 1) net) told
  pub tried : new ≡ with_tried old net

-- `try`: no commit would be accepted since 65,535 were, or the tentative facts break a rule, or the question is put to
-- the version that they would give
abbrev pub Tries : Command → Domain → Told → Domain → Type 0
Tries question old told new =
    ((MOST_VERSION ≤ length old.nets) × Refuses old told new VersionsFull)
    ⊎ ((length old.nets < MOST_VERSION) × (TriesInVain old told new ⊎ TriesNet question old told new))
