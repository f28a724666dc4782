-- Failed sets: they hold whole pairs, and there is one for each case.
use Rattle.std.proofs.Common.{◌≡◌, ℕ, ◌<◌, ⊎_elim, inl, inr, Bool, true, false, List, length, refl, arith, ap, sym, ◌∙◌, subst}
use Rattle.std.specs.Prelude.{Contains}
use Rattle.sr_model.specs.declared.case.Case.{Case}
use Rattle.sr_model.specs.declared.case.Kind.{Kind}
use Rattle.sr_model.specs.declared.case.Kind.TheVariants.{Link as LinkKind, Node as NodeKind, Risk as RiskKind}
use Rattle.sr_model.specs.Key.{mirror, IsSamePair}
use Rattle.sr_model.specs.Graph.{Graph, link_count, link_at, tail, head, has, groups_at, IsGraph, IsLink, IsNamed, IsGrouped}
use Rattle.sr_model.specs.Case.{key_at, Touches, FailsWith, IsFailedSet}
use Rattle.sr_walks.proofs.Rows.{list-same}
use Rattle.sr_laws.proofs.Keys.{system-one, pair-sym, pair-trans, IsPairSet}

pub tests-same : (xs ys : List Bool) → length xs ≡ length ys → ((k : ℕ) → k < length xs → has xs k ≡ has ys k) → xs ≡ ys
tests-same xs ys e h = list-same false xs ys e h

-- tests that are true for the same reason are the same
pub test-same : (a b : Bool) → (a ≡ true → b ≡ true) → (b ≡ true → a ≡ true) → a ≡ b
test-same true b f g = sym (f refl)
test-same false true f g = g refl
test-same false false f g = refl

-- there is one failed set
pub failed-one : (g : Graph) (case : Case) (x y : List Bool) → IsFailedSet g case x → IsFailedSet g case y → x ≡ y
failed-one g case x y a b =
    tests-same x y (a.long ∙ sym b.long) (λ l lt.
    let within : l < link_count g = omega (arith, a.long) in
    test-same (has x l) (has y l) (λ e. (b.each l within).1 ((a.each l within).0 e)) (λ e. (a.each l within).1 ((b.each l within).0 e)))

-- links of one pair begin and end at the same two nodes
pub touches-pair : (g : Graph) → IsGraph g → IsNamed g → (l k v : ℕ) → l < link_count g → k < link_count g → IsSamePair (key_at g l) (key_at g k) → Touches g l v → Touches g k v
touches-pair g graph named l k v lw kw pair touch =
    let a : IsLink g (link_at g l) = graph.each l lw in
    let b : IsLink g (link_at g k) = graph.each k kw in
    let al = named.ends l lw in
    let bk = named.ends k kw in
    ⊎_elim
    (λ (e : key_at g l ≡ key_at g k).
    let from : tail g l ≡ tail g k = system-one g named (tail g l) (tail g k) a.0 b.0 (sym al.0 ∙ ap (λ j. j.from) e ∙ bk.0) in
    let to : head g l ≡ head g k = system-one g named (head g l) (head g k) a.1 b.1 (sym al.1 ∙ ap (λ j. j.to) e ∙ bk.1) in
    ⊎_elim (λ t. inl (sym from ∙ t)) (λ h. inr (sym to ∙ h)) touch)
    (λ (e : key_at g l ≡ mirror (key_at g k)).
    let from : tail g l ≡ head g k = system-one g named (tail g l) (head g k) a.0 b.1 (sym al.0 ∙ ap (λ j. j.from) e ∙ bk.1) in
    let to : head g l ≡ tail g k = system-one g named (head g l) (tail g k) a.1 b.0 (sym al.1 ∙ ap (λ j. j.to) e ∙ bk.0) in
    ⊎_elim (λ t. inr (sym from ∙ t)) (λ h. inl (sym to ∙ h)) touch)
    pair

fails-pair : (g : Graph) → IsGraph g → IsNamed g → IsGrouped g → (kind : Kind) (p l k : ℕ) → l < link_count g → k < link_count g → IsSamePair (key_at g l) (key_at g k) → FailsWith g kind p l → FailsWith g kind p k
fails-pair g graph named grouped LinkKind p l k lw kw pair f = pair-trans (key_at g k) (key_at g l) (key_at g p) (pair-sym (key_at g l) (key_at g k) pair) f
fails-pair g graph named grouped NodeKind p l k lw kw pair f = touches-pair g graph named l k (head g p) lw kw pair f
fails-pair g graph named grouped RiskKind p l k lw kw pair f =
    ⊎_elim
    (λ own. inl (pair-trans (key_at g k) (key_at g l) (key_at g p) (pair-sym (key_at g l) (key_at g k) pair) own))
    (λ near.
    let same : groups_at g l ≡ groups_at g k = grouped.pairs l k lw kw pair in
    inr (touches-pair g graph named l k (tail g p) lw kw pair near.0, (near.1.0, subst (λ rs. Contains rs near.1.0) same near.1.1, near.1.2)))
    f

-- a failed set holds whole pairs
pub failed-pairs : (g : Graph) → IsGraph g → IsNamed g → IsGrouped g → (case : Case) (x : List Bool) → IsFailedSet g case x → IsPairSet g x
failed-pairs g graph named grouped case x set l k lw kw pair is =
    (set.each k kw).1 (fails-pair g graph named grouped case.kind case.link.0 l k lw kw pair ((set.each l lw).0 is))
