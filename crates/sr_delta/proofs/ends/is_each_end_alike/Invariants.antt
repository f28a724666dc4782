use Rattle.std.proofs.Common.{ℕ, ◌<◌, ◌≡◌, true}
use Rattle.sr_model.specs.Label.{Net}
use Rattle.sr_delta.specs.Changes.{AreChanges}
use Rattle.sr_delta.specs.Cases.{IsEndAlike}
use Rattle.sr_delta.proofs.ends.is_each_end_alike.Given as goal

abbrev pub invariant-loop-d : goal.invariant-loop-d
invariant-loop-d l = (m : Net) → AreChanges l.old.net m l.changes → l.changes.same ≡ true → (k : ℕ) → k < l.d → IsEndAlike l.old.net m l.old.case k
