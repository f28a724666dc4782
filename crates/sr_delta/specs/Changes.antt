-- The differences of two nets.
use Rattle.std.specs.Prelude.{◌≡◌, ◌↔◌, ℕ, ◌<◌, Bool, true, false, List, [], length, Option}
use Rattle.sr_model.specs.declared.link.LinkNo.{LinkNo}
use Rattle.sr_model.specs.Graph.{node_count}
use Rattle.sr_model.specs.Label.{Net}
use Rattle.sr_model.specs.Rule.{IsNet}
use Rattle.sr_model.specs.Stay.{HaveSameNodes}
use Rattle.sr_delta.specs.declared.change.Change.{Change}
use Rattle.sr_delta.specs.Partners.{ArePartners}
use Rattle.sr_delta.specs.Changed.{change_at, AreChangedLinks}
use Rattle.sr_delta.specs.Alike.{Likeness, AreAlike}

-- how many nodes the old net has, whether the nodes are the same in the new one, the changed links, the partner of each
-- old link in the new net, that of each new link in the old net, and which nodes are alike
pub record Differences : Type 0 where
  pub nodes : ℕ
  pub same : Bool
  pub links : List Change
  pub partners : List (Option LinkNo)
  pub origins : List (Option LinkNo)
  pub alike : Likeness

-- the ends of the changed links are nodes below this number
abbrev pub AreWithin : ℕ → List Change → Type 0
AreWithin nodes links =
    (n : ℕ) → n < length links → ((change_at links n).from.0 < nodes) × ((change_at links n).to.0 < nodes)

-- the differences of the two nets; where the nodes aren't the same, no links are told
pub record AreChanges (n m : Net) (c : Differences) : Type 0 where
  pub old : IsNet n
  pub new : IsNet m
  pub count : c.nodes ≡ node_count n.graph
  pub nodes : (c.same ≡ true) ↔ HaveSameNodes n.graph m.graph
  pub links : c.same ≡ true → AreChangedLinks n.graph m.graph c.links
  pub partners : c.same ≡ true → ArePartners n.graph m.graph c.partners
  pub origins : c.same ≡ true → ArePartners m.graph n.graph c.origins
  pub alike : c.same ≡ true → AreAlike n m (node_count n.graph) c.alike
  pub none : c.same ≡ false → (c.links ≡ []) × (c.partners ≡ []) × (c.origins ≡ [])
