use Rattle.std.proofs.Common.{◌≡◌, length}
use Rattle.sr_model.specs.Label.{Net}
use Rattle.sr_spf.specs.Trees.{AreTrees}
use Rattle.sr_delta.specs.Changes.{AreChanges}
use Rattle.sr_delta.specs.KeptTrees.{AreTreesKeptBelow}
use Rattle.sr_delta.proofs.kept.kept_trees.Given as goal

abbrev pub invariant-loop-u : goal.invariant-loop-u
invariant-loop-u l =
    (length l.list.items ≡ l.u)
    × ((n m : Net) → AreChanges n m l.changes → AreTrees n.graph l.old → AreTreesKeptBelow n m l.u l.list.items)
