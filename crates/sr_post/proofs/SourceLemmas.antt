-- Where each failed link lies at the source, a next hop that hasn't failed leads on to all that it leads to.
use Rattle.std.proofs.Common.{◌≡◌, ◌≢◌, ℕ, ◌+◌, ◌<◌, ◌≤◌, ◌⊎◌, ⊎_elim, inl, Bool, true, false, List, [], ◌∷◌, refl, arith, subst}
use Rattle.sr_model.specs.declared.case.Case.{Case}
use Rattle.sr_model.specs.declared.case.Kind.{Kind}
use Rattle.sr_model.specs.declared.case.Kind.TheVariants.{Link as LinkKind, Node as NodeKind, Risk as RiskKind}
use Rattle.sr_model.specs.Case.{IsCase, IsFailedSet, FailsWith, Touches, key_at, source_of}
use Rattle.sr_model.specs.Graph.{Graph, IsGraph, IsNamed, IsLink, carries, has, head, link_at, link_count, metric, tail}
use Rattle.sr_model.specs.Walk.{IsDistance, IsNextHop, cost}
use Rattle.sr_laws.proofs.Failures.{touches-pair}
use Rattle.sr_laws.proofs.Keys.{pair-sym}
use Rattle.sr_walks.proofs.Distances.{distance-from_shortest, distance-unique, sum-from_IsNextHop, sum-from_OnShortest, OnShortest-carries, InP-from_none, walk-out}
use Rattle.sr_post.specs.Kept.{LieAt, LeadsTo}

-- in the other two kinds of case no node fails
pub no-node_fails : (kind : Kind) → (kind ≡ LinkKind) ⊎ (kind ≡ RiskKind) → kind ≢ NodeKind
no-node_fails kind other node = ⊎_elim (λ (is : kind ≡ LinkKind). cc) (λ (is : kind ≡ RiskKind). cc) other

-- what fails with link p lies at its beginning, unless a node fails
fails-at : (g : Graph) → IsGraph g → IsNamed g → (kind : Kind) (p l : ℕ) → p < link_count g → l < link_count g
    → kind ≢ NodeKind → FailsWith g kind p l → Touches g l (tail g p)
fails-at g graph named LinkKind p l pw lw other pair =
    touches-pair g graph named p l (tail g p) pw lw (pair-sym (key_at g l) (key_at g p) pair) (inl refl)
fails-at g graph named NodeKind p l pw lw other touch = absurd (other refl)
fails-at g graph named RiskKind p l pw lw other f =
    ⊎_elim
    (λ pair. touches-pair g graph named p l (tail g p) pw lw (pair-sym (key_at g l) (key_at g p) pair) (inl refl))
    (λ near. near.0)
    f

-- the failed links of a case in which no node fails lie at its source
pub lie-at-source : (g : Graph) → IsGraph g → IsNamed g → (case : Case) → IsCase g case → (x : List Bool)
    → IsFailedSet g case x → case.kind ≢ NodeKind → LieAt g x (source_of g case)
lie-at-source g graph named case within x set other l lw failed =
    fails-at g graph named case.kind case.link.0 l within lw other ((set.each l lw).0 failed)

-- from s to v it isn't farther than over a link that begins or ends at s
over-touching : (g : Graph) (s v k e d : ℕ) → k < link_count g → Touches g k s → IsDistance g [] s v e
    → carries g v (head g k) ≡ true → IsDistance g [] (head g k) v d → e ≤ metric g k + d
over-touching g s v k e d kw touch whole carry near =
    ⊎_elim
    (λ (begins : tail g k ≡ s).
    let out = walk-out g [] (head g k) v d carry near in
    let le : e ≤ cost g (k ∷ out.0) = whole.least (k ∷ out.0) (kw, refl, begins, out.1, out.3) in
    omega (arith, le, out.2))
    (λ (ends : head g k ≡ s).
    let same : e ≡ d = distance-unique g [] s v e d whole (subst (λ u. IsDistance g [] u v d) ends near) in
    omega (arith, same))
    touch

-- no shortest walk from the end of a next hop of s comes back to s, where the failed links are
pub kept-at_source : (g : Graph) (x : List Bool) (s v l : ℕ) → IsGraph g → LieAt g x s → has x l ≡ false
    → IsNextHop g [] s v l → LeadsTo g x s v l
kept-at_source g x s v l graph lie outside hop =
    let e : ℕ = cost g (l ∷ hop.more) in
    let whole : IsDistance g [] s v e = distance-from_shortest g [] s v (l ∷ hop.more) hop.shortest in
    let parts = sum-from_IsNextHop g [] s v l e whole hop in
    let d : ℕ = parts.2.0 in
    let near : IsDistance g [] (head g l) v d = parts.2.1 in
    let sum : e ≡ metric g l + d = parts.2.2 in
    let ends : IsLink g (link_at g l) = graph.each l parts.0 in
    record {
      outside = outside;
      hop = hop;
      space = InP-from_none g x (head g l) v near.reached.0 near.reached.1 (λ k kw failed on.
          let r = sum-from_OnShortest g [] (head g l) v k d near on in
          let carry : carries g v (head g k) ≡ true = (OnShortest-carries g [] (head g l) v k on).1 in
          let far : e ≤ metric g k + r.1 = over-touching g s v k e r.1 kw (lie k kw failed) whole carry r.3 in
          let split : d ≡ r.0 + metric g k + r.1 = r.4 in
          let some : 0 < metric g l = ends.2 in
          omega (arith, sum, far, split, some));
    }
