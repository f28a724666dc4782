-- Changed links, as they are listed.
use Rattle.std.specs.Prelude.{◌≡◌, ◌≢◌, ℕ, ◌<◌, ◌⊎◌, List, length, Option, Some, None, slice_index_or}
use Rattle.sr_model.specs.declared.name.Ident.TheVariants.{None as NoIdent}
use Rattle.sr_model.specs.declared.name.LinkKey.{LinkKey}
use Rattle.sr_model.specs.Graph.{Graph, node_count, link_at, metric, system_at}
use Rattle.sr_model.specs.Case.{key_at}
use Rattle.sr_model.specs.Stay.{HasLink, HasMetric, IsChanged}
use Rattle.sr_delta.specs.declared.change.Change.{Change}

-- the metric of the link of this key, or none where the graph has no such link
abbrev pub IsMetricOf : Graph → LinkKey → Option ℕ → Type 0
IsMetricOf g key None = HasLink g key → ⊥
IsMetricOf g key (Some c) = HasMetric g key c

-- a changed link, with the nodes at its ends, and its metric in the old and in the new net
pub record IsChange (g h : Graph) (c : Change) : Type 0 where
  pub changed : IsChanged g h c.key
  pub begins : (c.from.0 < node_count g) × (system_at g c.from.0 ≡ c.key.from)
  pub ends : (c.to.0 < node_count g) × (system_at g c.to.0 ≡ c.key.to)
  pub before : IsMetricOf g c.key c.before
  pub after : IsMetricOf h c.key c.after

-- the record of link l of the old net, with its metric in the new one
abbrev pub change_of_link : Graph → ℕ → Option ℕ → Change
change_of_link g l after = record {
  key = key_at g l;
  from = (link_at g l).from;
  to = (link_at g l).to;
  before = Some (metric g l);
  after = after;
}

-- what stands for a change past the end of a list
abbrev pub no_change : Change
no_change = record {
  key = record { from = 0; to = 0; ident = NoIdent };
  from = record { 0 = 0 };
  to = record { 0 = 0 };
  before = None;
  after = None;
}

-- change number n of the list
abbrev pub change_at : List Change → ℕ → Change
change_at list n = slice_index_or list n no_change

-- the changed links with wanted keys, each once
pub record AreChangesAmong (g h : Graph) (wanted : LinkKey → Type 0) (list : List Change) : Type 0 where
  pub each : (n : ℕ) → n < length list → IsChange g h (change_at list n)
  pub among : (n : ℕ) → n < length list → wanted (change_at list n).key
  pub whole : (key : LinkKey) → IsChanged g h key → wanted key
      → (n : ℕ) × (n < length list) × ((change_at list n).key ≡ key)
  pub once : (k n : ℕ) → k < n → n < length list → (change_at list k).key ≢ (change_at list n).key

-- each changed link, once
abbrev pub AreChangedLinks : Graph → Graph → List Change → Type 0
AreChangedLinks g h list = AreChangesAmong g h (λ key. IsChanged g h key) list

-- the key of one of the first n links
abbrev pub IsKeyBelow : Graph → ℕ → LinkKey → Type 0
IsKeyBelow g n key = (l : ℕ) × (l < n) × (key_at g l ≡ key)

-- the key of a link of g, or of one of the first n links of h
abbrev pub IsOldOrBelow : Graph → Graph → ℕ → LinkKey → Type 0
IsOldOrBelow g h n key = HasLink g key ⊎ IsKeyBelow h n key
