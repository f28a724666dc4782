-- Links of two graphs, matched by key.
use Rattle.std.specs.Prelude.{◌≡◌, ℕ, ◌<◌, List, length, Option, Some, None, slice_index_or}
use Rattle.sr_model.specs.declared.link.LinkNo.{LinkNo}
use Rattle.sr_model.specs.declared.name.LinkKey.{LinkKey}
use Rattle.sr_model.specs.Key.{KeyLt}
use Rattle.sr_model.specs.Graph.{Graph, link_count}
use Rattle.sr_model.specs.Case.{key_at}
use Rattle.sr_model.specs.Stay.{HaveSameName}

-- the links before this place have keys below the key
abbrev pub AllBelow : Graph → ℕ → LinkKey → Type 0
AllBelow g at key = (k : ℕ) → k < at → KeyLt (key_at g k) key

-- the partner of link l of g: the link of h of the same key, or none where h has none
abbrev pub IsPartner : Graph → Graph → ℕ → Option LinkNo → Type 0
IsPartner g h l None = (k : ℕ) → HaveSameName g h l k → ⊥
IsPartner g h l (Some k) = HaveSameName g h l k.0

-- the partner at place l
abbrev pub partner_at : List (Option LinkNo) → ℕ → Option LinkNo
partner_at list l = slice_index_or list l None

-- the partners of the first n links
pub record ArePartnersBelow (g h : Graph) (n : ℕ) (list : List (Option LinkNo)) : Type 0 where
  pub long : length list ≡ n
  pub each : (l : ℕ) → l < n → IsPartner g h l (partner_at list l)

-- the partner of each link, by number
abbrev pub ArePartners : Graph → Graph → List (Option LinkNo) → Type 0
ArePartners g h list = ArePartnersBelow g h (link_count g) list
