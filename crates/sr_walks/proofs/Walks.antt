-- Walks joined and cut, and what a stable row of numbers says of them.
use Rattle.std.proofs.Common.{◌≡◌, ℕ, ◌+◌, ◌<◌, ◌≤◌, ◌⊎◌, ⊎_elim, inl, inr, Bool, true, false, List, [], ◌∷◌, ◌++◌, refl, arith, ap, sym, ◌∙◌, subst}
use Rattle.std.specs.Prelude.{slice_index, ◌==◌, not}
use Rattle.std.proofs.Common.{eq-eqb}
use Rattle.std.proofs.lemmas.Bool.{cond_both, eqb-true, not-true}
use Rattle.sr_model.specs.Graph.{Graph, IsGraph, carries, has, head, is_overloaded, link_count, metric, node_count, tail}
use Rattle.sr_model.specs.Walk.{IsWalk, Passes, cost}
use Rattle.std.proofs.lemmas.List.Elements.{All-nil, All-cons, All-head, All-tail}
use Rattle.sr_model.specs.Space.{Avoids}

-- the test of a node beside an end
pub carries-cases : (g : Graph) (u w : ℕ) → carries g u w ≡ true → (w ≡ u) ⊎ (is_overloaded g w ≡ false)
carries-cases g u w =
    cond_both (w == u) true (not (is_overloaded g w)) (λ r. r ≡ true → (w ≡ u) ⊎ (is_overloaded g w ≡ false))
    (λ e _. inl (eqb-true w u e))
    (λ _ out. inr (not-true (is_overloaded g w) out))

pub carries-same : (g : Graph) (u w : ℕ) → w ≡ u → carries g u w ≡ true
carries-same g u w e = rw (eq-eqb w u e) refl

pub carries-clear : (g : Graph) (u w : ℕ) → is_overloaded g w ≡ false → carries g u w ≡ true
carries-clear g u w clear = cond_both (w == u) true (not (is_overloaded g w)) (λ r. r ≡ true) (λ _. refl) (λ _. rw clear refl)

pub carries-from : (g : Graph) (u w : ℕ) → (w ≡ u) ⊎ (is_overloaded g w ≡ false) → carries g u w ≡ true
carries-from g u w h = ⊎_elim (carries-same g u w) (carries-clear g u w) h

pub passes-clear : (g : Graph) (w : ℕ) (p : List ℕ) → is_overloaded g w ≡ false → Passes g w p
passes-clear g w [] clear = tt
passes-clear g w (l ∷ p) clear = clear

pub passes-cases : (g : Graph) (w : ℕ) (p : List ℕ) → Passes g w p → (p ≡ []) ⊎ (is_overloaded g w ≡ false)
passes-cases g w [] a = inl refl
passes-cases g w (l ∷ p) a = inr a

-- a walk that passes its first node ends there, or the node beside its end carries
pub passes-carries : (g : Graph) (x : List Bool) (w : ℕ) (p : List ℕ) (v : ℕ) → IsWalk g x w p v → Passes g w p → carries g v w ≡ true
passes-carries g x w [] v a b = carries-same g v w a
passes-carries g x w (l ∷ p) v a b = carries-clear g v w b

pub passes-join : (g : Graph) (x : List Bool) (h : ℕ) (p : List ℕ) (w : ℕ) (q : List ℕ) → IsWalk g x h p w → Passes g h p → Passes g w q → Passes g h (p ++ q)
passes-join g x h [] w q a b c = rw a c
passes-join g x h (l ∷ p) w q a b c = b

-- walks are joined at a node that the second may pass
pub IsWalk-append : (g : Graph) (x : List Bool) (u : ℕ) (p : List ℕ) (w : ℕ) (q : List ℕ) (v : ℕ) → IsWalk g x u p w → IsWalk g x w q v → Passes g w q → IsWalk g x u (p ++ q) v
IsWalk-append g x u [] w q v a b c = rw a b
IsWalk-append g x u (l ∷ p) w q v a b c = (a.0, a.1, a.2, IsWalk-append g x (head g l) p w q v a.3 b c, passes-join g x (head g l) p w q a.3 a.4 c)

-- a walk has one end
pub walk-end : (g : Graph) (x : List Bool) (u : ℕ) (p : List ℕ) (v w : ℕ) → IsWalk g x u p v → IsWalk g x u p w → v ≡ w
walk-end g x u [] v w a b = sym a ∙ b
walk-end g x u (l ∷ p) v w a b = walk-end g x (head g l) p v w a.3 b.3

-- and that is a node
pub walk-within : (g : Graph) (x : List Bool) (u : ℕ) (p : List ℕ) (v : ℕ) → IsGraph g → u < node_count g → IsWalk g x u p v → v < node_count g
walk-within g x u [] v graph at a = rw (← a) at
walk-within g x u (l ∷ p) v graph at a = walk-within g x (head g l) p v graph ((graph.each l a.0).1) a.3

-- a walk without x is a walk
pub IsWalk-any : (g : Graph) (x : List Bool) (u : ℕ) (p : List ℕ) (v : ℕ) → IsWalk g x u p v → IsWalk g [] u p v
IsWalk-any g x u [] v a = a
IsWalk-any g x u (l ∷ p) v a = (a.0, refl, a.2, IsWalk-any g x (head g l) p v a.3, a.4)

-- sets with the same links have the same walks
pub IsWalk-sets : (g : Graph) (x y : List Bool) → ((l : ℕ) → l < link_count g → has x l ≡ has y l) → (u : ℕ) (p : List ℕ) (v : ℕ) → IsWalk g x u p v → IsWalk g y u p v
IsWalk-sets g x y same u [] v a = a
IsWalk-sets g x y same u (l ∷ p) v a = (a.0, sym (same l a.0) ∙ a.1, a.2, IsWalk-sets g x y same (head g l) p v a.3, a.4)

pub cost-append : (g : Graph) (p q : List ℕ) → cost g (p ++ q) ≡ cost g p + cost g q
cost-append g [] q = omega arith
cost-append g (l ∷ p) q = omega (arith, cost-append g p q)

-- a walk of one link
pub IsWalk-one : (g : Graph) (x : List Bool) (l : ℕ) → l < link_count g → has x l ≡ false → IsWalk g x (tail g l) (l ∷ []) (head g l)
IsWalk-one g x l within outside = (within, outside, refl, refl, tt)

-- a walk that goes on by one link
pub IsWalk-push : (g : Graph) (x : List Bool) (u : ℕ) (p : List ℕ) (l : ℕ) → l < link_count g → has x l ≡ false → is_overloaded g (tail g l) ≡ false → IsWalk g x u p (tail g l) → IsWalk g x u (p ++ l ∷ []) (head g l)
IsWalk-push g x u p l within outside clear a = IsWalk-append g x u p (tail g l) (l ∷ []) (head g l) a (IsWalk-one g x l within outside) clear

-- the same where the link begins at the walk's beginning or at a node that isn't overloaded
pub IsWalk-reach : (g : Graph) (x : List Bool) (u : ℕ) (p : List ℕ) (l : ℕ) → l < link_count g → has x l ≡ false → carries g u (tail g l) ≡ true → IsWalk g x u p (tail g l) → (q : List ℕ) × IsWalk g x u q (head g l) × (cost g q ≤ cost g p + metric g l)
IsWalk-reach g x u p l within outside carry a =
    ⊎_elim
    (λ e. (l ∷ [], (within, outside, e, refl, tt), omega arith))
    (λ clear. (p ++ l ∷ [], IsWalk-push g x u p l within outside clear a, omega (arith, cost-append g p (l ∷ []))))
    (carries-cases g u (tail g l) carry)

-- a walk cut in two behind a node that it passes
cut_after : (g : Graph) (x : List Bool) (h : ℕ) (p q : List ℕ) (v : ℕ) → IsWalk g x h (p ++ q) v → Passes g h (p ++ q) → (w : ℕ) × IsWalk g x h p w × Passes g h p × IsWalk g x w q v × Passes g w q
cut_after g x h [] q v a b = (h, refl, tt, a, b)
cut_after g x h (l ∷ p) q v a b = let r = cut_after g x (head g l) p q v a.3 a.4 in (r.0, (a.0, a.1, a.2, r.1, r.2), b, r.3, r.4)

pub IsWalk-cut : (g : Graph) (x : List Bool) (u : ℕ) (p q : List ℕ) (v : ℕ) → IsWalk g x u (p ++ q) v → (w : ℕ) × IsWalk g x u p w × IsWalk g x w q v × ((p ≡ []) ⊎ Passes g w q)
IsWalk-cut g x u [] q v a = (u, refl, a, inl refl)
IsWalk-cut g x u (l ∷ p) q v a = let r = cut_after g x (head g l) p q v a.3 a.4 in (r.0, (a.0, a.1, a.2, r.1, r.2), r.3, inr r.4)

-- a walk that begins at the row's node, or at one that carries
abbrev pub Begins : Graph → ℕ → ℕ → List ℕ → Type 0
Begins g s u [] = Unit {0}
Begins g s u (l ∷ p) = carries g s u ≡ true

pub begins-self : (g : Graph) (s : ℕ) (p : List ℕ) → Begins g s s p
begins-self g s [] = tt
begins-self g s (l ∷ p) = carries-same g s s refl

pub begins-passes : (g : Graph) (s u : ℕ) (p : List ℕ) → Passes g u p → Begins g s u p
begins-passes g s u [] b = tt
begins-passes g s u (l ∷ p) b = carries-clear g s u b

-- no link outside x that the row's node can use leads from a number to one that is too large
abbrev pub IsStable : Graph → List Bool → ℕ → List ℕ → Type 0
IsStable g x s cells = (l : ℕ) → l < link_count g → has x l ≡ false → carries g s (tail g l) ≡ true → slice_index cells (head g l) ≤ slice_index cells (tail g l) + metric g l

pub stable-cost : (g : Graph) (x : List Bool) (s : ℕ) (cells : List ℕ) → IsStable g x s cells → (u : ℕ) (p : List ℕ) (v : ℕ) → IsWalk g x u p v → Begins g s u p → slice_index cells v ≤ slice_index cells u + cost g p
stable-cost g x s cells stable u [] v a b = subst (λ w. slice_index cells w ≤ slice_index cells u + 0) a (omega arith)
stable-cost g x s cells stable u (l ∷ p) v a b =
    let here : slice_index cells (head g l) ≤ slice_index cells (tail g l) + metric g l = stable l a.0 a.1 (rw a.2 b) in
    let there : slice_index cells v ≤ slice_index cells (head g l) + cost g p = stable-cost g x s cells stable (head g l) p v a.3 (begins-passes g s (head g l) p a.4) in
    let same : slice_index cells (tail g l) ≡ slice_index cells u = ap (λ w. slice_index cells w) a.2 in
    omega arith

-- where numbers below far stay below far along each such link, they do along a walk
pub stable-near : (g : Graph) (x : List Bool) (s : ℕ) (cells : List ℕ) (far : ℕ) → ((l : ℕ) → l < link_count g → has x l ≡ false → carries g s (tail g l) ≡ true → slice_index cells (tail g l) < far → slice_index cells (head g l) < far) → (u : ℕ) (p : List ℕ) (v : ℕ) → IsWalk g x u p v → Begins g s u p → slice_index cells u < far → slice_index cells v < far
stable-near g x s cells far near u [] v a b h = subst (λ w. slice_index cells w < far) a h
stable-near g x s cells far near u (l ∷ p) v a b h =
    stable-near g x s cells far near (head g l) p v a.3 (begins-passes g s (head g l) p a.4) (near l a.0 a.1 (rw a.2 b) (subst (λ w. slice_index cells w < far) (sym a.2) h))

-- the beginning of what avoids x does too
pub avoids-left : (x : List Bool) (p q : List ℕ) → Avoids x (p ++ q) → Avoids x p
avoids-left x [] q a = All-nil (λ k. has x k ≡ false)
avoids-left x (l ∷ p) q a = All-cons (λ k. has x k ≡ false) l p (All-head (λ k. has x k ≡ false) l (p ++ q) a) (avoids-left x p q (All-tail (λ k. has x k ≡ false) l (p ++ q) a))
