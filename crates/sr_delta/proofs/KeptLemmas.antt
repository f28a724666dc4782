-- Trees that stay are renewed by the partners of the links.
use Rattle.std.proofs.Common.{◌≡◌, ◌≢◌, ◌↔◌, ℕ, zero, suc, ◌+◌, ◌<◌, ◌≤◌, ⊎_elim, Bool, true, List, [], ◌∷◌, ◌++◌, map, Option, Some, None, refl, arith, ap, sym, ◌∙◌, subst}
use Rattle.std.specs.Prelude.{slice_get, unwrap_or}
use Rattle.std.proofs.lemmas.Bool.{cases_lt, cases_eq}
use Rattle.std.proofs.lemmas.List.{length_push, get_or_push, get_or_append_left}
use Rattle.std.proofs.lemmas.Option.{get_or_from_slice_get, slice_get_within}
use Rattle.sr_lanes.specs.declared.words.NodeBits.{NodeBits}
use Rattle.sr_model.specs.declared.link.LinkNo.{LinkNo}
use Rattle.sr_model.specs.Key.{KeyLt}
use Rattle.sr_model.specs.Graph.{Graph, node_count, link_count, tail, has, IsGraph, IsNamed}
use Rattle.sr_model.specs.Walk.{IsNextHop}
use Rattle.sr_model.specs.Case.{key_at}
use Rattle.sr_model.specs.Label.{Net}
use Rattle.sr_model.specs.Stay.{HaveSameName, IsKeptTree}
use Rattle.sr_walks.proofs.Walks.{walk-within}
use Rattle.sr_laws.proofs.Keys.{KeyLt-trans, KeyLt-irrefl, key-one, name-ends, nodes-same}
use Rattle.sr_laws.proofs.Kept.{tree-same, hops-same, hop-there}
use Rattle.sr_laws.proofs.KeptWays.{hop-old}
use Rattle.sr_spf.specs.Carried.{IsCarried, AreCarried}
use Rattle.sr_spf.specs.Hops.{AreNextHops}
use Rattle.sr_spf.specs.Trees.{Forest, AreTrees, hops_at}
use Rattle.sr_spf.specs.Renewed.{moved_link, moved_links, AreRenewable, IsInPlace}
use Rattle.sr_delta.specs.Partners.{IsPartner, partner_at, ArePartners}
use Rattle.sr_delta.specs.KeptTrees.{AreTreesKeptBelow, AreKeptTrees}
use Rattle.sr_laws.proofs.Places.{map-from}

got_there : {X Y : Type 0} (f : X → Y) (xs : List X) (i : ℕ) (x : X) → slice_get xs i ≡ Some x → slice_get (map f xs) i ≡ Some (f x)
got_there f [] i x e = absurd {0} (cc)
got_there f (y ∷ xs) zero x e = cc
got_there f (y ∷ xs) (suc i) x e = got_there f xs i x e

-- a link that has a partner is moved to it
partner_or : (g h : Graph) (p : Option LinkNo) (l : LinkNo) (k : ℕ) → IsPartner g h l.0 p → HaveSameName g h l.0 k → HaveSameName g h l.0 (unwrap_or p l).0
partner_or g h None l k none name = absurd (none k name)
partner_or g h (Some m) l k is name = is

-- links with higher names have partners with higher names
name_up : (g h : Graph) → IsNamed g → IsNamed h → (a b k m : ℕ) → HaveSameName g h a k → HaveSameName g h b m → a < b → k < m
name_up g h gn hn a b k m p q lt =
    let up : KeyLt (key_at h k) (key_at h m) = subst (λ x. KeyLt x (key_at h m)) (sym p.2) (subst (λ x. KeyLt (key_at g a) x) (sym q.2) (gn.keys a b lt q.0)) in
    ⊎_elim
    (λ (l : k < m). l)
    (λ (ge : m ≤ k). absurd (⊎_elim
    (λ (e : m ≡ k). KeyLt-irrefl (key_at h m) (subst (λ j. KeyLt (key_at h j) (key_at h m)) (sym e) up))
    (λ (ne : m ≢ k).
    let back : KeyLt (key_at h m) (key_at h k) = hn.keys m k (omega arith) p.1 in
    KeyLt-irrefl (key_at h m) (KeyLt-trans (key_at h m) (key_at h k) (key_at h m) back up))
    (cases_eq m k)))
    (cases_lt k m)

-- two named graphs, with the partner of each link
pub record AreMatched (g h : Graph) (links : List (Option LinkNo)) : Type 0 where
  pub old : IsGraph g
  pub new : IsGraph h
  pub named : IsNamed g
  pub named' : IsNamed h
  pub partners : ArePartners g h links

module _ (g h : Graph) (links : List (Option LinkNo)) (are : AreMatched g h links) (u v : ℕ) (from : u < node_count g) (to : v < node_count g) (kept : IsKeptTree g h u) where
  -- a next hop of a tree that stays is moved to the link of its name
  hop_named : (l : LinkNo) → IsNextHop g [] u v l.0 → HaveSameName g h l.0 (moved_link links l).0
  hop_named l hop =
      let there : (k : ℕ) × HaveSameName g h l.0 k = hop-there g h are.old are.named are.new are.named' u v l.0 from to kept hop in
      partner_or g h (partner_at links l.0) l there.0 (are.partners.each l.0 hop.shortest.0.0) there.1

  -- its next hops are moved to those of the new graph
  pub hops-moved : (list : List LinkNo) → AreNextHops g u v list → AreNextHops h u v (moved_links links list)
  hops-moved list r = record {
    each = λ i l e.
        let was = map-from (moved_link links) list i l e in
        let hop : IsNextHop g [] u v was.0.0 = r.each i was.0 was.1 in
        let P : LinkNo → Type 0 = λ k. IsNextHop h [] u v k.0 in
        subst P was.2 ((hops-same g h are.old are.named are.new are.named' u v was.0.0 (moved_link links was.0).0 from to kept (hop_named was.0 hop)).0 hop);
    ascending = λ i j k l lt e f.
        let a = map-from (moved_link links) list i k e in
        let b = map-from (moved_link links) list j l f in
        let up : a.0.0 < b.0.0 = r.ascending i j a.0 b.0 lt a.1 b.1 in
        let P : LinkNo → LinkNo → Type 0 = λ x y. x.0 < y.0 in
        subst (λ x. P x l) a.2 (subst (λ y. P (moved_link links a.0) y) b.2 (name_up g h are.named are.named' a.0.0 b.0.0 (moved_link links a.0).0 (moved_link links b.0).0 (hop_named a.0 (r.each i a.0 a.1)) (hop_named b.0 (r.each j b.0 b.1)) up));
    all = λ k hop.
        let old : (l : ℕ) × HaveSameName g h l k = hop-old g h are.old are.named are.new are.named' u v k from to kept hop in
        let was : IsNextHop g [] u v old.0 = (hops-same g h are.old are.named are.new are.named' u v old.0 k from to kept old.1).1 hop in
        let at = r.all old.0 was in
        let P : ℕ → Type 0 = λ n. IsNextHop g [] u v n in
        let name : HaveSameName g h at.1.0 (moved_link links at.1).0 = hop_named at.1 (subst P (sym at.3) was) in
        let same : key_at h (moved_link links at.1).0 ≡ key_at h k = name.2 ∙ ap (key_at g) at.3 ∙ sym old.1.2 in
        (at.0, moved_link links at.1, got_there (moved_link links) list at.0 at.1 at.2, key-one h are.named' (moved_link links at.1).0 k name.1 old.1.1 same);
  }

-- the set of a link in its place stays where its beginning's tree does
set-stays : (g h : Graph) (links : List (Option LinkNo)) (sets : List NodeBits) (marks : List Bool) (l : ℕ) (set : NodeBits) → AreMatched g h links → IsKeptTree g h (tail h l) → AreCarried g sets (link_count g) → IsInPlace h marks links l → slice_get sets l ≡ Some set → IsCarried h l set
set-stays g h links sets marks l set are kept carried place at =
    let partner : partner_at links l ≡ Some (record { 0 = l }) = get_or_from_slice_get links l (Some (record { 0 = l })) None place.number in
    let old : l < link_count g = let low = slice_get_within links l (Some (record { 0 = l })) place.number in omega (arith, low, are.partners.long) in
    let name : HaveSameName g h l l = subst (IsPartner g h l) partner (are.partners.each l old) in
    let nodes : node_count h ≡ node_count g = nodes-same g h kept.nodes in
    let ends = name-ends g h are.old are.new are.named are.named' kept.nodes l l name in
    let from : tail h l < node_count g = omega (arith, ends.0, (are.old.each l old).0) in
    let is : IsCarried g l set = carried.each l set at in
    let P : ℕ → ℕ → Type 0 = λ u v. IsNextHop g [] u v l in
    let Q : ℕ → Type 0 = λ v. IsNextHop h [] (tail h l) v l in
    let there : (v : ℕ) → v < node_count g → P (tail h l) v ↔ Q v = λ v lt. hops-same g h are.old are.named are.new are.named' (tail h l) v l l from lt kept name in
    record {
      each = λ v. (
        λ yes.
            let hop : P (tail h l) v = subst (λ u. P u v) (sym ends.0) ((is.each v).0 yes) in
            (there v (walk-within g [] (tail h l) (l ∷ hop.more) v are.old from hop.shortest.0)).0 hop,
        λ hop.
            let within : v < node_count g = let lt = walk-within h [] (tail h l) (l ∷ hop.more) v are.new (omega (arith, nodes, from)) hop.shortest.0 in omega (arith, nodes, lt) in
            (is.each v).1 (subst (λ u. P u v) ends.0 ((there v within).1 hop)),
      );
    }

-- trees that stay can be renewed
pub kept-renewable : (n m : Net) (t : Forest) (links : List (Option LinkNo)) (marks : List Bool) → AreMatched n.graph m.graph links → node_count m.graph ≡ node_count n.graph → AreTrees n.graph t → AreKeptTrees n m marks → AreRenewable m.graph t marks links
kept-renewable n m t links marks are nodes trees kept = record {
  long = trees.long ∙ sym nodes;
  marks = kept.long ∙ sym nodes;
  rows = λ u lt on.
      let from : u < node_count n.graph = omega (arith, nodes, lt) in
      tree-same n.graph m.graph are.old are.named are.new are.named' u from ((kept.each u from).0 on) _ (trees.rows u from);
  hops = λ u v lt below on.
      let from : u < node_count n.graph = omega (arith, nodes, lt) in
      let to : v < node_count n.graph = omega (arith, nodes, below) in
      hops-moved n.graph m.graph links are u v from to ((kept.each u from).0 on) (hops_at t u v) (trees.hops u v from to);
  carried = λ l set lt place at.
      let from : tail m.graph l < node_count n.graph = omega (arith, nodes, (are.new.each l lt).0) in
      set-stays n.graph m.graph links t.carried marks l set are ((kept.each (tail m.graph l) from).0 place.marked) trees.carried place at;
}

-- no mark of no node
pub kept-none : (n m : Net) → AreTreesKeptBelow n m 0 []
kept-none n m = record { long = refl; each = λ u lt. absurd (omega arith) }

-- one mark more
pub kept-push : (n m : Net) (count : ℕ) (marks : List Bool) (mark : Bool) → AreTreesKeptBelow n m count marks → (mark ≡ true) ↔ IsKeptTree n.graph m.graph count → AreTreesKeptBelow n m (count + 1) (marks ++ mark ∷ [])
kept-push n m count marks mark r is = record {
  long = omega (arith, length_push marks mark, r.long);
  each = λ u lt. ⊎_elim
      (λ (e : u ≡ count).
      let last : has (marks ++ mark ∷ []) u ≡ mark = get_or_push marks mark _ u (r.long ∙ sym e) in
      let P : ℕ → Bool → Type 0 = λ k b. (b ≡ true) ↔ IsKeptTree n.graph m.graph k in
      subst (λ b. P u b) (sym last) (subst (λ k. P k mark) (sym e) is))
      (λ (ne : u ≢ count).
      let low : u < count = omega arith in
      let P : Bool → Type 0 = λ b. (b ≡ true) ↔ IsKeptTree n.graph m.graph u in
      subst P (sym (get_or_append_left marks (mark ∷ []) _ u (omega (arith, r.long)))) (r.each u low))
      (cases_eq u count);
}
