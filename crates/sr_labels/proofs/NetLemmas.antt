-- What an accepted net gives.
use Rattle.std.proofs.Common.{◌≡◌, ℕ, zero, suc, ◌<◌, List, [], ◌∷◌, None, refl}
use Rattle.std.specs.Prelude.{replicate}
use Rattle.sr_model.specs.Graph.{link_count}
use Rattle.sr_model.specs.Case.{key_at}
use Rattle.sr_model.specs.Label.{Net}
use Rattle.sr_model.specs.Rule.{IsAccepted, adj_labels_of}
use Rattle.sr_labels.specs.Keys.{Hold}
use Rattle.sr_model.specs.declared.link.Link.{Link}

-- the key of each link is announced
pub announced_holds : (n : Net) → IsAccepted n → (l : ℕ) → l < link_count n.graph → Hold n.announced (key_at n.graph l)
announced_holds n a = a.announced.holds

-- links without adjacency labels have none to list
pub none-listed : (links : List Link) (n : ℕ) → adj_labels_of links (replicate n None) ≡ []
none-listed [] n = refl
none-listed (k ∷ links) zero = refl
none-listed (k ∷ links) (suc n) = none-listed links n
