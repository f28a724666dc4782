-- The spaces of a set of failed links, in which every equal-cost shortest walk counts (this project's rule).
use Rattle.std.specs.Prelude.{◌≡◌, ℕ, ◌<◌, Bool, true, false, ◌⊎◌, List, [], All}
use Rattle.sr_model.specs.Graph.{Graph, link_count, tail, head, has, is_overloaded}
use Rattle.sr_model.specs.Walk.{IsWalk, IsShortest}

-- no link of x is among the links of p
abbrev pub Avoids : List Bool → List ℕ → Type 0
Avoids x p = All (λ l. has x l ≡ false) p

-- P of u: the nodes v that u reaches, and to which no shortest walk from u holds a link of x (this project's rule:
-- every equal-cost shortest walk counts)
pub record InP (g : Graph) (x : List Bool) (u v : ℕ) : Type 0 where
  pub reached : (p : List ℕ) × IsWalk g [] u p v
  pub avoids : (p : List ℕ) → IsShortest g [] u p v → Avoids x p

-- what link l adds to the extended P of its beginning: P of its end, or the end alone where it is overloaded
abbrev pub Adds : Graph → List Bool → ℕ → ℕ → Type 0
Adds g x l v =
    ((is_overloaded g (head g l) ≡ false) × InP g x (head g l) v)
    ⊎ ((is_overloaded g (head g l) ≡ true) × (v ≡ head g l))

-- extended P of s: P of s, and what its links outside x add
abbrev pub InExtendedP : Graph → List Bool → ℕ → ℕ → Type 0
InExtendedP g x s v = InP g x s v ⊎ ((l : ℕ) × (l < link_count g) × (tail g l ≡ s) × (has x l ≡ false) × Adds g x l v)

-- Q of d: the nodes u with d in P of u
abbrev pub InQ : Graph → List Bool → ℕ → ℕ → Type 0
InQ g x d u = InP g x u d
