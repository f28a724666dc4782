-- Laws of the names of links.
use Rattle.std.specs.Prelude.{◌≡◌, ◌≢◌, ◌↔◌, ℕ, ◌<◌, List, IsTrue}
use Rattle.std.specs.declared.cmp.Ordering.TheVariants.{Less}
use Rattle.sr_model.specs.declared.name.LinkKey.{LinkKey}
use Rattle.sr_model.specs.Key.{pair_of, IsSamePair, KeyLt}
use Rattle.sr_model.specs.KeyOrder.{key_cmp, same_key}
use Rattle.sr_model.specs.Graph.{Graph, link_count}
use Rattle.sr_model.specs.Case.{key_at}
use Rattle.sr_model.specs.Label.{IsPlace}
use Rattle.sr_model.specs.Rule.{AreAnnounced}

-- `cmp` of two keys answers that the first is less exactly where it comes before the second
abbrev pub KeysAreOrdered : Type 0
KeysAreOrdered = (a b : LinkKey) → (key_cmp a b ≡ Less) ↔ KeyLt a b

-- and the test of equal keys passes exactly where they are the same
abbrev pub KeysAreTold : Type 0
KeysAreTold = (a b : LinkKey) → IsTrue (same_key a b) ↔ (a ≡ b)

-- the two ways to say that two links are of one pair agree
abbrev pub PairsAgree : Type 0
PairsAgree = (a b : LinkKey) → a.from ≢ a.to → b.from ≢ b.to → IsSamePair a b ↔ (pair_of a ≡ pair_of b)

-- the key of each link has exactly one place among the announced keys
abbrev pub PlacesAreUnique : Type 0
PlacesAreUnique =
    (g : Graph) (keys : List LinkKey) → AreAnnounced g keys → (l : ℕ) → l < link_count g
    → (k : ℕ) × IsPlace keys (key_at g l) k × ((j : ℕ) → IsPlace keys (key_at g l) j → j ≡ k)
