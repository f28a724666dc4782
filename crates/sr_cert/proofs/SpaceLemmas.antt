-- Spaces by two rows: the distances from the one node, and those to the other.
use Rattle.std.proofs.Common.{◌≡◌, ℕ, ◌+◌, ◌<◌, ◌≤◌, ⊎_elim, Bool, true, false, List, [], length, sym, subst, refl}
use Rattle.std.specs.Prelude.{slice_index}
use Rattle.std.proofs.lemmas.Bool.{cases_lt}
use Rattle.std.proofs.lemmas.List.{get_or_past}
use Rattle.sr_model.specs.declared.link.LinkNo.{LinkNo}
use Rattle.sr_model.specs.declared.link.TheConstants.{FAR}
use Rattle.sr_model.specs.Graph.{Graph, IsGraph, IsLink, node_count, link_count, tail, head, metric, has, carries, link_at}
use Rattle.sr_model.specs.Walk.{OnShortest, IsRow}
use Rattle.sr_model.specs.Space.{InP}
use Rattle.sr_graph.specs.Members.{number_at, AreMembers}
use Rattle.sr_walks.proofs.Distances.{tight-OnShortest, OnShortest-tight, OnShortest-carries, InP-from_none}
use Rattle.sr_cert.specs.Rows.{IsRowTo}

module _ (g : Graph) (graph : IsGraph g) (u v : ℕ) (ends : v < node_count g) (from to : List ℕ) (a : IsRow g [] u from) (b : IsRowTo g [] v to) where
  -- round a link on a shortest walk the cells add up to the whole
  pub on-sum : (l : ℕ) → l < link_count g → slice_index from v < FAR → OnShortest g [] u v l → slice_index from (tail g l) + metric g l + slice_index to (head g l) ≡ slice_index from v
  on-sum l within near on =
      let k : IsLink g (link_at g l) = graph.each l within in
      OnShortest-tight g [] u v l _ _ _ (a.each (tail g l) k.0) (b.each (head g l) k.1) (a.each v ends) near on

  -- and only there, where the nodes beside the link's ends carry
  pub sum-on : (l : ℕ) → l < link_count g → slice_index from v < FAR → carries g u (tail g l) ≡ true → carries g v (head g l) ≡ true → slice_index from (tail g l) + metric g l + slice_index to (head g l) ≡ slice_index from v → OnShortest g [] u v l
  sum-on l within near first last sum =
      let k : IsLink g (link_at g l) = graph.each l within in
      tight-OnShortest g [] u v l _ _ _ within refl first last (a.each (tail g l) k.0) (b.each (head g l) k.1) (a.each v ends) near sum

module _ (g : Graph) (u v : ℕ) (ends : v < node_count g) (from : List ℕ) (a : IsRow g [] u from) where
  -- a node that isn't reached is in no space
  pub far-out : (x : List Bool) → FAR ≤ slice_index from v → InP g x u v → ⊥
  far-out x far inside = (a.each v ends).far far inside.reached.0 inside.reached.1

  -- where none of the failed links is on a shortest walk, the node that is reached is in
  pub none-in : (x : List Bool) (links : List LinkNo) → AreMembers x links → slice_index from v < FAR → ((i : ℕ) → i < length links → OnShortest g [] u v (number_at links i) → ⊥) → InP g x u v
  none-in x links members near none =
      let d = (a.each v ends).near near in
      InP-from_none g x u v d.reached.0 d.reached.1 (λ l within is on.
      let m : (i : ℕ) × (i < length links) × (number_at links i ≡ l) = members.all l is in
      none m.0 m.1 (subst (λ k. OnShortest g [] u v k) (sym m.2) on))

pub on-carries : (g : Graph) (u v l : ℕ) → OnShortest g [] u v l → (carries g u (tail g l) ≡ true) × (carries g v (head g l) ≡ true)
on-carries g u v l on = OnShortest-carries g [] u v l on

-- a number in the set is one of its tests
pub member-within : (x : List Bool) (links : List LinkNo) (i : ℕ) → AreMembers x links → i < length links → number_at links i < length x
member-within x links i members lt =
    ⊎_elim
    (λ below. below)
    (λ past. let out : has x (number_at links i) ≡ false = get_or_past x (number_at links i) false past in let is : has x (number_at links i) ≡ true = members.each i lt in absurd (cc))
    (cases_lt (number_at links i) (length x))
