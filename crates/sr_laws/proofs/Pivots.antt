-- A step of a list outlasts a change of links where the node stays as far from it as it was at which the failed links lie.
use Rattle.std.proofs.Common.{◌≡◌, ◌≢◌, ℕ, ◌+◌, ◌<◌, ◌≤◌, ◌⊎◌, ⊎_elim, inl, inr, Bool, true, false, List, [], ◌∷◌, ◌++◌, refl, arith, ap, sym, ◌∙◌, subst}
use Rattle.std.specs.Prelude.{slice_index, ◌↔◌}
use Rattle.std.proofs.lemmas.Bool.{cases_lt, cases_Bool}
use Rattle.std.proofs.lemmas.List.Elements.{All-nil, All-cons, All-head, All-tail}
use Rattle.sr_model.specs.declared.link.TheConstants.{FAR}
use Rattle.sr_model.specs.declared.case.Case.{Case}
use Rattle.sr_model.specs.declared.case.Kind.{Kind}
use Rattle.sr_model.specs.declared.case.Kind.TheVariants.{Link as LinkKind, Node as NodeKind, Risk as RiskKind}
use Rattle.sr_model.specs.Case.{FailsWith, IsCase, IsFailedSet, Touches, key_at, source_of}
use Rattle.sr_model.specs.Graph.{Graph, IsGraph, IsLink, IsNamed, has, head, is_overloaded, link_at, link_count, node_count, tail}
use Rattle.sr_model.specs.Space.{Avoids, InP}
use Rattle.sr_model.specs.Walk.{IsDistance, IsRow, IsShortest, IsWalk, Passes, cost}
use Rattle.sr_walks.proofs.Walks.{IsWalk-any, IsWalk-append, IsWalk-cut, begins-passes, Begins, carries-cases, cost-append, passes-cases, passes-clear, stable-cost}
use Rattle.sr_walks.proofs.Distances.{IsShortest-from_cost, distance-self, distance-unique}
use Rattle.sr_walks.proofs.Rows.{AgreeOnLoad, Keeps, row-stable, way-kept}
use Rattle.sr_laws.specs.Steady.{IsSameFar, KeepsStep, pivot_by, pivot_of}
use Rattle.sr_laws.proofs.Failures.{touches-pair}
use Rattle.sr_laws.proofs.Keys.{pair-sym}
use Rattle.sr_laws.proofs.KeptLists.{in_row}
use Rattle.sr_laws.proofs.Waypoints.{IsWalk-avoiding, space-walk}

-- a list of links avoids the set, or one of its links is in it
split_at : (x : List Bool) (r : List ℕ) → Avoids x r ⊎ ((p : List ℕ) × (q : List ℕ) × (l : ℕ) × (has x l ≡ true) × (r ≡ p ++ l ∷ q))
split_at x [] = inl (All-nil (λ k. has x k ≡ false))
split_at x (l ∷ r) =
    ⊎_elim
    (λ (yes : has x l ≡ true). inr ([], r, l, yes, refl))
    (λ (no : has x l ≡ false). ⊎_elim
    (λ rest. inl (All-cons (λ k. has x k ≡ false) l r no rest))
    (λ s. inr (l ∷ s.0, s.1, s.2, s.3, ap (λ k. l ∷ k) s.4))
    (split_at x r))
    (cases_Bool (has x l))

avoids-right : (x : List Bool) (p q : List ℕ) → Avoids x (p ++ q) → Avoids x q
avoids-right x [] q a = a
avoids-right x (l ∷ p) q a = avoids-right x p q (All-tail (λ k. has x k ≡ false) l (p ++ q) a)

-- a walk of a link or more ends with a link
last-link : (g : Graph) (x : List Bool) (u : ℕ) (l : ℕ) (p : List ℕ) (v : ℕ) → IsWalk g x u (l ∷ p) v → (k : ℕ) × (k < link_count g) × (has x k ≡ false) × (head g k ≡ v)
last-link g x u l [] v a = (l, a.0, a.1, a.3)
last-link g x u l (m ∷ p) v a = last-link g x (head g l) m p v a.3

-- where each link that touches t failed, no node with a distance above 0 is t
not_there : (g : Graph) (x : List Bool) (s t v c : ℕ) → ((l : ℕ) → l < link_count g → Touches g l t → has x l ≡ true) → 0 < c → IsDistance g x s v c → v ≢ t
not_there g x s t v c all above d e = at d.reached.0 d.reached.1 d.reached.2 where
  at : (p : List ℕ) → IsWalk g x s p v → cost g p ≡ c → ⊥
  at [] a sum = absurd (omega (arith, sum))
  at (l ∷ p) a sum =
      let k = last-link g x s l p v a in
      let failed : has x k.0 ≡ true = all k.0 k.1 (inr (k.3 ∙ e)) in
      absurd {0} (cc (failed, k.2))

-- a walk that passes t: it comes there, and goes on from there
record PassesBy (g : Graph) (u v t c : ℕ) : Type 0 where
  pub before : List ℕ
  pub after : List ℕ
  pub to : IsWalk g [] u before t
  pub from : IsWalk g [] t after v
  pub sum : cost g before + cost g after ≤ c
  pub clear : (u ≡ t) ⊎ ((v ≡ t) ⊎ (is_overloaded g t ≡ false))

ends_or : (g : Graph) (t : ℕ) (q : List ℕ) (v : ℕ) → IsWalk g [] t q v → Passes g t q → (v ≡ t) ⊎ (is_overloaded g t ≡ false)
ends_or g t q v a pass = ⊎_elim (λ e. inl (sym (subst (λ k. IsWalk g [] t k v) e a))) (λ clear. inr clear) (passes-cases g t q pass)

begins_or : (g : Graph) (u t v : ℕ) (p q : List ℕ) → IsWalk g [] u p t → IsWalk g [] t q v → (p ≡ []) ⊎ Passes g t q → (u ≡ t) ⊎ ((v ≡ t) ⊎ (is_overloaded g t ≡ false))
begins_or g u t v p q a b cut = ⊎_elim (λ e. inl (subst (λ k. IsWalk g [] u k t) e a)) (λ pass. inr (ends_or g t q v b pass)) cut

-- a walk with a link that touches t passes t
passes-by : (g : Graph) (u v t : ℕ) (p q : List ℕ) (l : ℕ) → IsWalk g [] u (p ++ l ∷ q) v → Touches g l t → PassesBy g u v t (cost g (p ++ l ∷ q))
passes-by g u v t p q l a touch =
    let r = IsWalk-cut g [] u p (l ∷ q) v a in
    let tail_is : tail g l ≡ r.0 = r.2.2 in
    ⊎_elim
    (λ (begins : tail g l ≡ t).
    let here : r.0 ≡ t = sym tail_is ∙ begins in
    let to : IsWalk g [] u p t = subst (λ k. IsWalk g [] u p k) here r.1 in
    let from : IsWalk g [] t (l ∷ q) v = subst (λ k. IsWalk g [] k (l ∷ q) v) here r.2 in
    let cut : (p ≡ []) ⊎ Passes g t (l ∷ q) = subst (λ k. (p ≡ []) ⊎ Passes g k (l ∷ q)) here r.3 in
    let by : PassesBy g u v t (cost g (p ++ l ∷ q)) = record { before = p; after = l ∷ q; to = to; from = from; sum = omega (arith, cost-append g p (l ∷ q)); clear = begins_or g u t v p (l ∷ q) to from cut } in
    by)
    (λ (ends : head g l ≡ t).
    let link : IsWalk g [] r.0 (l ∷ []) t = (r.2.0, r.2.1, r.2.2, ends, tt) in
    let pass : (p ≡ []) ⊎ Passes g r.0 (l ∷ []) = r.3 in
    let to : IsWalk g [] u (p ++ l ∷ []) t = ⊎_elim
    (λ (e : p ≡ []). let start : u ≡ r.0 = subst (λ k. IsWalk g [] u k r.0) e r.1 in
    subst (λ k. IsWalk g [] u (k ++ l ∷ []) t) (sym e) (subst (λ k. IsWalk g [] k (l ∷ []) t) (sym start) link))
    (λ (over : Passes g r.0 (l ∷ [])). IsWalk-append g [] u p r.0 (l ∷ []) t r.1 link over)
    pass in
    let from : IsWalk g [] t q v = subst (λ k. IsWalk g [] k q v) ends r.2.3 in
    let on : Passes g t q = subst (λ k. Passes g k q) ends r.2.4 in
    let by : PassesBy g u v t (cost g (p ++ l ∷ q)) = record { before = p ++ l ∷ []; after = q; to = to; from = from; sum = omega (arith, cost-append g p (l ∷ q), cost-append g p (l ∷ [])); clear = inr (ends_or g t q v from on) } in
    by)
    touch

-- where there is a walk, both graphs have one distance
both-far : (g h : Graph) (u v : ℕ) (p : List ℕ) → IsSameFar g h u v → IsWalk h [] u p v → (c : ℕ) × IsDistance g [] u v c × IsDistance h [] u v c
both-far g h u v p same a = ⊎_elim (λ near. near) (λ none. absurd (none.1 p a)) same

-- both nets, the row from s without the failed links, and the node t at which the failed links of h lie: in g it is s, or
-- all that touches it failed there
module _ (g : Graph) (x : List Bool) (h : Graph) (y : List Bool) (s t : ℕ) (post : List ℕ) (gg : IsGraph g) (gh : IsGraph h) (load : AgreeOnLoad g h) (row : IsRow g x s post) (row' : IsRow h y s post) (there : Keeps g x h y post) (nodes : node_count h ≡ node_count g) (t_in : t < node_count g) (lie : (l : ℕ) → l < link_count h → has y l ≡ true → Touches h l t) (pivot : (t ≡ s) ⊎ ((l : ℕ) → l < link_count g → Touches g l t → has x l ≡ true)) where
  -- neither end of a step is t
  apart : (v c : ℕ) → 0 < c → IsDistance g x s v c → v ≢ t
  apart v c above d e = ⊎_elim
      (λ (own : t ≡ s).
      let zero : c ≡ 0 = distance-unique g x s s c 0 (subst (λ k. IsDistance g x s k c) (e ∙ own) d) (distance-self g x s) in
      absurd (omega (arith, zero)))
      (λ all. not_there g x s t v c all above d e)
      pivot

  module _ (u v a e : ℕ) (above : 0 < a) (far : IsDistance g x s u a) (whole : IsDistance g x s v (a + e)) (inside : InP g x u v) (goes : IsDistance g [] u v e) (to : IsSameFar g h u t) (from : IsSameFar g h t v) where
    -- no walk of g that is as cheap passes t
    none_by : (c d : ℕ) → IsDistance g [] u t c → IsDistance g [] t v d → is_overloaded g t ≡ false → c + d ≤ e → ⊥
    none_by c d one two clear most =
        let p = one.reached in
        let q = two.reached in
        let walk : IsWalk g [] u (p.0 ++ q.0) v = IsWalk-append g [] u p.0 t q.0 v p.1 q.1 (passes-clear g t q.0 clear) in
        let sum : cost g (p.0 ++ q.0) ≡ c + d = omega (arith, cost-append g p.0 q.0, p.2, q.2) in
        let least : e ≤ cost g (p.0 ++ q.0) = goes.least (p.0 ++ q.0) walk in
        let shortest : IsShortest g [] u (p.0 ++ q.0) v = IsShortest-from_cost g [] u v e (p.0 ++ q.0) goes walk (omega (arith, sum, least, most)) in
        let free : Avoids x q.0 = avoids-right x p.0 q.0 (inside.avoids (p.0 ++ q.0) shortest) in
        ⊎_elim
        (λ (own : t ≡ s).
        let on : IsWalk g x s q.0 v = subst (λ k. IsWalk g x k q.0 v) own (IsWalk-avoiding g x t q.0 v q.1 free) in
        let ge : a + e ≤ cost g q.0 = whole.least q.0 on in
        absurd (omega (arith, ge, q.2, most, above)))
        (λ (all : (l : ℕ) → l < link_count g → Touches g l t → has x l ≡ true). first q.0 q.1 free all)
        pivot
      where
        first : (q : List ℕ) → IsWalk g [] t q v → Avoids x q → ((l : ℕ) → l < link_count g → Touches g l t → has x l ≡ true) → ⊥
        first [] b free all = apart v (a + e) (omega (arith, above)) whole (sym b)
        first (l ∷ q) b free all =
            let failed : has x l ≡ true = all l b.0 (inl b.2) in
            let not : has x l ≡ false = All-head (λ k. has x k ≡ false) l q free in
            absurd {0} (cc (failed, not))

    -- so a walk of h that is as cheap avoids the failed links
    avoids_there : (r : List ℕ) → IsWalk h [] u r v → cost h r ≤ e → Avoids y r
    avoids_there r b most = ⊎_elim
        (λ free. free)
        (λ (k : (p : List ℕ) × (q : List ℕ) × (l : ℕ) × (has y l ≡ true) × (r ≡ p ++ l ∷ q)).
        let b' : IsWalk h [] u (k.0 ++ k.2 ∷ k.1) v = subst (λ w. IsWalk h [] u w v) k.4 b in
        let cut = IsWalk-cut h [] u k.0 (k.2 ∷ k.1) v b' in
        let by : PassesBy h u v t (cost h (k.0 ++ k.2 ∷ k.1)) = passes-by h u v t k.0 k.1 k.2 b' (lie k.2 cut.2.0 k.3) in
        let less : cost h by.before + cost h by.after ≤ e = let same : cost h r ≡ cost h (k.0 ++ k.2 ∷ k.1) = ap (cost h) k.4 in omega (arith, by.sum, same, most) in
        let d1 : (c : ℕ) × IsDistance g [] u t c × IsDistance h [] u t c = both-far g h u t by.before to by.to in
        let d2 : (c : ℕ) × IsDistance g [] t v c × IsDistance h [] t v c = both-far g h t v by.after from by.from in
        let l1 : d1.0 ≤ cost h by.before = d1.2.least by.before by.to in
        let l2 : d2.0 ≤ cost h by.after = d2.2.least by.after by.from in
        absurd (⊎_elim
        (λ (here : u ≡ t). apart u a above far here)
        (λ rest. ⊎_elim
        (λ (here : v ≡ t). apart v (a + e) (omega (arith, above)) whole here)
        (λ (clear : is_overloaded h t ≡ false).
        none_by d1.0 d2.0 d1.1 d2.1 (load t t_in ∙ clear) (omega (arith, l1, l2, less)))
        rest)
        by.clear))
        (split_at y r)

    -- the step leads there, and costs the same
    step-there : u < node_count g → v < node_count g → is_overloaded g u ≡ false → InP h y u v × IsDistance h [] u v e
    step-there u_in v_in clear =
        let at_u : (slice_index post u < FAR) × (slice_index post u ≡ a) = in_row g x s u a post row u_in far in
        let at_v : (slice_index post v < FAR) × (slice_index post v ≡ a + e) = in_row g x s v (a + e) post row v_in whole in
        let p = space-walk g x u v e inside goes in
        let begins : Begins g s u p.0 = begins-passes g s u p.0 (passes-clear g u p.0 clear) in
        let q = way-kept g x h y s post gg row there load u p.0 v p.1 begins at_u.0 (omega (arith, at_u.1, at_v.1, p.2)) in
        let clear' : is_overloaded h u ≡ false = sym (load u u_in) ∙ clear in
        let walk : IsWalk h [] u q.0 v = IsWalk-any h y u q.0 v q.1 in
        let same : cost h q.0 ≡ e = q.2 ∙ p.2 in (
          record { reached = (q.0, walk); avoids = λ r (short : IsShortest h [] u r v). avoids_there r short.0 (let le : cost h r ≤ cost h q.0 = short.1 q.0 walk in omega (arith, le, same)) },
          record {
            reached = (q.0, walk, same);
            least = λ r b. ⊎_elim
                (λ (less : cost h r < e).
                let free : IsWalk h y u r v = IsWalk-avoiding h y u r v b (avoids_there r b (omega (arith, less))) in
                let on : Begins h s u r = begins-passes h s u r (passes-clear h u r clear') in
                let most : slice_index post v ≤ slice_index post u + cost h r = stable-cost h y s post (row-stable h y s post gh row') u r v free on in
                absurd (omega (arith, most, less, at_u.1, at_v.1)))
                (λ ge. ge)
                (cases_lt (cost h r) e);
          },
        )

  pub step-by_pivot : (u v : ℕ) → u < node_count g → v < node_count g → IsSameFar g h u t → IsSameFar g h t v → KeepsStep g x h y s u v
  step-by_pivot u v u_in v_in to from a e above far whole carry inside goes = ⊎_elim
      (λ (same : u ≡ v). at_home v u e (sym same) goes)
      (λ (clear : is_overloaded g u ≡ false). step-there u v a e above far whole inside goes to from u_in v_in clear)
      (carries-cases g v u carry)
    where
      empty : (r : List ℕ) (i j : ℕ) → IsWalk h [] i r j → cost h r ≤ 0 → Avoids y r
      empty [] i j b most = All-nil (λ k. has y k ≡ false)
      empty (l ∷ r) i j b most = let link : IsLink h (link_at h l) = gh.each l b.0 in absurd (omega (arith, most, link.2))

      home : (i e : ℕ) → IsDistance g [] i i e → InP h y i i × IsDistance h [] i i e
      home i e d =
          let zero : e ≡ 0 = distance-unique g [] i i e 0 d (distance-self g [] i) in (
            record { reached = ([], refl); avoids = λ r (short : IsShortest h [] i r i). empty r i i short.0 (short.1 [] refl) },
            subst (λ k. IsDistance h [] i i k) (sym zero) (distance-self h [] i),
          )

      at_home : (v u e : ℕ) → v ≡ u → IsDistance g [] u v e → InP h y u v × IsDistance h [] u v e
      at_home v u e same d = subst (λ k. InP h y u k × IsDistance h [] u k e) (sym same) (home u e (subst (λ k. IsDistance g [] u k e) same d))

pub far-sym : (g h : Graph) (u v : ℕ) → IsSameFar g h u v → IsSameFar h g u v
far-sym g h u v far = ⊎_elim (λ near. inl (near.0, near.2, near.1)) (λ none. inr (none.1, none.0)) far

-- ---- the node at which the failed links of a case lie
pub pivot-within : (g : Graph) (kind : Kind) (l : ℕ) → tail g l < node_count g → head g l < node_count g → pivot_by g kind l < node_count g
pivot-within g LinkKind l a b = a
pivot-within g NodeKind l a b = b
pivot-within g RiskKind l a b = a

pub pivot-by_ends : (g h : Graph) (kind : Kind) (l k : ℕ) → tail h k ≡ tail g l → head h k ≡ head g l → pivot_by h kind k ≡ pivot_by g kind l
pivot-by_ends g h LinkKind l k a b = a
pivot-by_ends g h NodeKind l k a b = b
pivot-by_ends g h RiskKind l k a b = a

lies : (g : Graph) → IsGraph g → IsNamed g → (kind : Kind) (p l : ℕ) → p < link_count g → l < link_count g → FailsWith g kind p l → Touches g l (pivot_by g kind p)
lies g graph named LinkKind p l pw lw pair = touches-pair g graph named p l (tail g p) pw lw (pair-sym (key_at g l) (key_at g p) pair) (inl refl)
lies g graph named NodeKind p l pw lw touch = touch
lies g graph named RiskKind p l pw lw f =
    ⊎_elim
    (λ pair. touches-pair g graph named p l (tail g p) pw lw (pair-sym (key_at g l) (key_at g p) pair) (inl refl))
    (λ near. near.0)
    f

pub lie-at_pivot : (g : Graph) → IsGraph g → IsNamed g → (case : Case) (x : List Bool) → IsCase g case → IsFailedSet g case x → (l : ℕ) → l < link_count g → has x l ≡ true → Touches g l (pivot_of g case)
lie-at_pivot g graph named case x within set l lw failed = lies g graph named case.kind case.link.0 l within lw ((set.each l lw).0 failed)

known : (g : Graph) (kind : Kind) (p : ℕ) (x : List Bool) → ((l : ℕ) → l < link_count g → (has x l ≡ true) ↔ FailsWith g kind p l) → (pivot_by g kind p ≡ tail g p) ⊎ ((l : ℕ) → l < link_count g → Touches g l (pivot_by g kind p) → has x l ≡ true)
known g LinkKind p x each = inl refl
known g NodeKind p x each = inr (λ l lw touch. (each l lw).1 touch)
known g RiskKind p x each = inl refl

-- it is the source, or all that touches it fails
pub pivot-known : (g : Graph) (case : Case) (x : List Bool) → IsFailedSet g case x → (pivot_of g case ≡ source_of g case) ⊎ ((l : ℕ) → l < link_count g → Touches g l (pivot_of g case) → has x l ≡ true)
pivot-known g case x set = known g case.kind case.link.0 x set.each
