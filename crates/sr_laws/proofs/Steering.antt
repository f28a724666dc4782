-- A shortest walk between the ends of a link holds that link only as its first, and never the opposite one.
use Rattle.std.proofs.Common.{◌≡◌, ℕ, ◌≤◌, ⊎_elim, Bool, List, [], ◌∷◌, ◌++◌, ap, sym, ◌∙◌, subst}
use Rattle.sr_model.specs.declared.case.Case.{Case}
use Rattle.sr_model.specs.declared.case.Kind.{Kind}
use Rattle.sr_model.specs.declared.case.Kind.TheVariants.{Link as LinkKind}
use Rattle.sr_model.specs.Key.{mirror, IsSamePair}
use Rattle.sr_model.specs.Graph.{Graph, link_at, tail, head, IsGraph, IsLink, IsNamed}
use Rattle.sr_model.specs.Walk.{cost, IsDistance, IsShortest, IsNextHop, OnShortest}
use Rattle.sr_model.specs.Space.{InP}
use Rattle.sr_model.specs.Case.{key_at, FailsWith, IsCase, IsFailedSet, source_of, end_of}
use Rattle.sr_walks.proofs.Distances.{shortest-cut, InP-from_none}
use Rattle.sr_laws.proofs.Keys.{key-one, system-one}
use Rattle.sr_laws.proofs.Delivery.{no_cost}

-- a shortest walk from a node to itself has no link
still : (g : Graph) (x : List Bool) (u v : ℕ) (p : List ℕ) → IsGraph g → u ≡ v → IsShortest g x u p v → p ≡ []
still g x u v p graph same s =
    let none : cost g p ≤ 0 = s.1 [] same in
    no_cost g x u p v graph s.0 none

-- the link stands on a shortest walk between its ends: it is the first
first_link : (g : Graph) → IsGraph g → (l : ℕ) → OnShortest g [] (tail g l) (head g l) l → IsNextHop g [] (tail g l) (head g l) l
first_link g graph l on =
    let r = shortest-cut g [] (tail g l) on.before (l ∷ on.after) (head g l) on.shortest in
    let begins : tail g l ≡ r.0 = r.2.0.2 in
    let none : on.before ≡ [] = still g [] (tail g l) r.0 on.before graph begins r.1 in
    record { more = on.after; shortest = subst (λ (p : List ℕ). IsShortest g [] (tail g l) (p ++ l ∷ on.after) (head g l)) none on.shortest }

-- a link that begins at the end stands on no shortest walk to there
never_leaves : (g : Graph) → IsGraph g → (u v k : ℕ) → tail g k ≡ v → OnShortest g [] u v k → ⊥
never_leaves g graph u v k begins on =
    let r = shortest-cut g [] u on.before (k ∷ on.after) v on.shortest in
    let at : r.0 ≡ v = sym r.2.0.2 ∙ begins in
    let none : k ∷ on.after ≡ [] = still g [] r.0 v (k ∷ on.after) graph at r.2 in
    cc

pub steered-avoids : (g : Graph) → IsGraph g → IsNamed g → (case : Case) → IsCase g case → case.kind ≡ LinkKind → (x : List Bool) → IsFailedSet g case x → (c : ℕ) → IsDistance g [] (source_of g case) (end_of g case) c → (IsNextHop g [] (source_of g case) (end_of g case) case.link.0 → ⊥) → InP g x (source_of g case) (end_of g case)
steered-avoids g graph named case within is x set c far apart =
    InP-from_none g x (source_of g case) (end_of g case) far.reached.0 far.reached.1 (λ k kw failed on.
    let pair : IsSamePair (key_at g k) (key_at g case.link.0) = subst (λ (kind : Kind). FailsWith g kind case.link.0 k) is ((set.each k kw).0 failed) in
    ⊎_elim
    (λ (e : key_at g k ≡ key_at g case.link.0).
    let same : k ≡ case.link.0 = key-one g named k case.link.0 kw within e in
    apart (first_link g graph case.link.0 (subst (λ j. OnShortest g [] (source_of g case) (end_of g case) j) same on)))
    (λ (e : key_at g k ≡ mirror (key_at g case.link.0)).
    let a : IsLink g (link_at g k) = graph.each k kw in
    let b : IsLink g (link_at g case.link.0) = graph.each case.link.0 within in
    let begins : tail g k ≡ head g case.link.0 = system-one g named (tail g k) (head g case.link.0) a.0 b.1 (sym (named.ends k kw).0 ∙ ap (λ j. j.from) e ∙ (named.ends case.link.0 within).1) in
    never_leaves g graph (source_of g case) (end_of g case) k begins on)
    pair)
