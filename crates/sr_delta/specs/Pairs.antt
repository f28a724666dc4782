-- Links that fail in a case, and links at a node, matched by pairs.
use Rattle.std.specs.Prelude.{◌≡◌, ◌⊎◌, ℕ, ◌<◌}
use Rattle.sr_model.specs.declared.case.Case.{Case}
use Rattle.sr_model.specs.declared.name.LinkKey.{LinkKey}
use Rattle.sr_model.specs.Key.{IsSamePair}
use Rattle.sr_model.specs.Graph.{Graph, link_count}
use Rattle.sr_model.specs.Case.{key_at, FailsWith, Touches}
use Rattle.sr_delta.specs.declared.change.Change.{Change}

-- the key is of the pair of a link that fails in the case
abbrev pub IsOfFailingPair : Graph → Case → LinkKey → Type 0
IsOfFailingPair g case key = (l : ℕ) × (l < link_count g) × FailsWith g case.kind case.link.0 l
    × IsSamePair (key_at g l) key

-- each link of g that fails in its case is of the pair of a link of h that fails in the other
abbrev pub HavePairsIn : Graph → Case → Graph → Case → Type 0
HavePairsIn g case h other =
    (l : ℕ) → l < link_count g → FailsWith g case.kind case.link.0 l → IsOfFailingPair h other (key_at g l)

-- the links that fail in the two cases are of the same pairs
pub record HaveSameFailures (g : Graph) (case : Case) (h : Graph) (other : Case) : Type 0 where
  pub there : HavePairsIn g case h other
  pub back : HavePairsIn h other g case

-- the graph has a link of the pair of the key
abbrev pub HasPair : Graph → LinkKey → Type 0
HasPair g key = (l : ℕ) × (l < link_count g) × IsSamePair (key_at g l) key

-- the links that begin or end at node v are of the same pairs in both graphs
pub record HaveSamePairsAt (g h : Graph) (v : ℕ) : Type 0 where
  pub there : (l : ℕ) → l < link_count g → Touches g l v → HasPair h (key_at g l)
  pub back : (k : ℕ) → k < link_count h → Touches h k v → HasPair g (key_at h k)

-- the key is that of a link that fails in the case
abbrev pub IsFailingKey : Graph → Case → LinkKey → Type 0
IsFailingKey g case key = (l : ℕ) × (l < link_count g) × FailsWith g case.kind case.link.0 l × (key_at g l ≡ key)

-- where the changed link begins or ends at node v, both graphs have a link of its pair
abbrev pub IsPairedIfAt : Graph → Graph → Change → ℕ → Type 0
IsPairedIfAt g h c v = ((c.from.0 ≡ v) ⊎ (c.to.0 ≡ v)) → HasPair g c.key × HasPair h c.key

-- where link l fails in its case, it is of the pair of a link of h that fails in the other
abbrev pub IsMatched : Graph → Case → Graph → Case → ℕ → Type 0
IsMatched g case h other l = FailsWith g case.kind case.link.0 l → IsOfFailingPair h other (key_at g l)
