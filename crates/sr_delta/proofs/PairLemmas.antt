-- Keys of pairs whose links fail in a case.
use Rattle.std.proofs.Common.{◌≡◌, ◌≢◌, ℕ, zero, suc, ◌+◌, ◌<◌, ◌≤◌, ◌⊎◌, ⊎_elim, inl, inr, List, length, refl, arith, sym, ◌∙◌, subst}
use Rattle.std.specs.Prelude.{Contains, slice_index_or}
use Rattle.std.specs.declared.cmp.Ordering.{Ordering}
use Rattle.std.specs.declared.cmp.Ordering.TheVariants.{Less, Equal, Greater}
use Rattle.std.proofs.lemmas.Bool.{cases_eq}
use Rattle.std.proofs.lemmas.List.{get_or_default}
use Rattle.sr_model.specs.declared.case.Case.{Case}
use Rattle.sr_model.specs.declared.case.Kind.{Kind}
use Rattle.sr_model.specs.declared.case.Kind.TheVariants.{Link as LinkKind, Node as NodeKind, Risk as RiskKind}
use Rattle.sr_model.specs.declared.name.LinkKey.{LinkKey}
use Rattle.sr_model.specs.Key.{IsSamePair, mirror}
use Rattle.sr_model.specs.KeyOrder.{key_cmp}
use Rattle.sr_model.specs.Graph.{Graph, link_count, tail, head, groups_at, IsNamed}
use Rattle.sr_model.specs.Case.{key_at, FailsWith, Touches, ShareGroup}
use Rattle.sr_model.proofs.KeyOrderLemmas.{key-from_cmp, key_cmp-same}
use Rattle.sr_laws.proofs.Keys.{key-one}
use Rattle.sr_delta.specs.Pairs.{IsFailingKey, IsOfFailingPair}

-- what holds below a place, and at it, holds below the next one
pub each-up : (p : ℕ → Type 0) (n : ℕ) → ((k : ℕ) → k < n → p k) → p n → (k : ℕ) → k < n + 1 → p k
each-up p n low here k lt = ⊎_elim (λ (e : k ≡ n). subst p (sym e) here) (λ (ne : k ≢ n). low k (omega arith)) (cases_eq k n)

-- the same from a place on
pub each-up_from : (p : ℕ → Type 0) (first n : ℕ) → ((k : ℕ) → first ≤ k → k < n → p k) → p n → (k : ℕ) → first ≤ k → k < n + 1 → p k
each-up_from p first n low here k le lt = ⊎_elim (λ (e : k ≡ n). subst p (sym e) here) (λ (ne : k ≢ n). low k le (omega arith)) (cases_eq k n)

-- it holds, or it doesn't
abbrev pub OrNot : Type 0 → Type 0
OrNot p = p ⊎ (p → ⊥)

pub both-or_not : (p q : Type 0) → OrNot p → OrNot q → OrNot (p × q)
both-or_not p q a b = ⊎_elim (λ x. ⊎_elim (λ y. inl (x, y)) (λ no'. inr (λ h. no' h.1)) b) (λ no'. inr (λ h. no' h.0)) a

pub either-or_not : (p q : Type 0) → OrNot p → OrNot q → OrNot (p ⊎ q)
either-or_not p q a b = ⊎_elim (λ x. inl (inl x)) (λ no'. ⊎_elim (λ y. inl (inr y)) (λ no''. inr (λ h. ⊎_elim no' no'' h)) b) a

-- some number below n has it, or none
pub some-or_not : (p : ℕ → Type 0) → ((k : ℕ) → OrNot (p k)) → (n : ℕ) → OrNot ((k : ℕ) × (k < n) × p k)
some-or_not p each zero = inr (λ h. let lt : h.0 < 0 = h.1 in omega arith)
some-or_not p each (suc n) =
    ⊎_elim
    (λ h. inl (h.0, (let lt : h.0 < n = h.1 in omega arith), h.2))
    (λ none. ⊎_elim
    (λ here. inl (n, omega arith, here))
    (λ not'. inr (λ h. ⊎_elim
    (λ (e : h.0 ≡ n). not' (subst p e h.2))
    (λ (ne : h.0 ≢ n). none (h.0, (let lt : h.0 < suc n = h.1 in omega arith), h.2))
    (cases_eq h.0 n)))
    (each n))
    (some-or_not p each n)

pub equal-or_not : (o : Ordering) → OrNot (o ≡ Equal)
equal-or_not Equal = inl refl
equal-or_not Less = inr (λ e. cc)
equal-or_not Greater = inr (λ e. cc)

pub key-or_not : (a b : LinkKey) → OrNot (a ≡ b)
key-or_not a b = ⊎_elim (λ e. inl (key-from_cmp a b e)) (λ ne. inr (λ e. ne (key_cmp-same a b e))) (equal-or_not (key_cmp a b))

pub pair-or_not : (a b : LinkKey) → OrNot (IsSamePair a b)
pair-or_not a b = either-or_not (a ≡ b) (a ≡ mirror b) (key-or_not a b) (key-or_not a (mirror b))

pub number-or_not : (a b : ℕ) → OrNot (a ≡ b)
number-or_not a b = ⊎_elim (λ e. inl e) (λ ne. inr ne) (cases_eq a b)

pub contains-or_not : (xs : List ℕ) (x : ℕ) → OrNot (Contains xs x)
contains-or_not xs x = some-or_not (λ k. slice_index_or xs k x ≡ x) (λ k. number-or_not (slice_index_or xs k x) x) (length xs)

pub common-or_not : (xs ys : List ℕ) → OrNot ((r : ℕ) × Contains xs r × Contains ys r)
common-or_not xs ys =
    ⊎_elim
    (λ h. let r : ℕ = slice_index_or xs h.0 0 in inl (r, (h.0, h.1, get_or_default xs h.0 r 0 h.1), h.2))
    (λ none. inr (λ h.
    let at : slice_index_or xs h.1.0 0 ≡ h.0 = get_or_default xs h.1.0 0 h.0 h.1.1 ∙ h.1.2 in
    none (h.1.0, h.1.1, subst (λ r. Contains ys r) (sym at) h.2)))
    (some-or_not (λ k. Contains ys (slice_index_or xs k 0)) (λ k. contains-or_not ys (slice_index_or xs k 0)) (length xs))

touches-or_not : (g : Graph) (l v : ℕ) → OrNot (Touches g l v)
touches-or_not g l v = either-or_not (tail g l ≡ v) (head g l ≡ v) (number-or_not (tail g l) v) (number-or_not (head g l) v)

-- a link fails in a case, or it doesn't
pub fails-or_not : (g : Graph) (kind : Kind) (p l : ℕ) → OrNot (FailsWith g kind p l)
fails-or_not g LinkKind p l = pair-or_not (key_at g l) (key_at g p)
fails-or_not g NodeKind p l = touches-or_not g l (head g p)
fails-or_not g RiskKind p l =
    either-or_not (IsSamePair (key_at g l) (key_at g p)) (Touches g l (tail g p) × ShareGroup g l p)
    (pair-or_not (key_at g l) (key_at g p))
    (both-or_not (Touches g l (tail g p)) (ShareGroup g l p) (touches-or_not g l (tail g p)) (common-or_not (groups_at g l) (groups_at g p)))

-- the key is of the pair of a link that fails where it, or its mirror, is the key of one
pub pair-from_keys : (g : Graph) (case : Case) (key : LinkKey) → IsFailingKey g case key ⊎ IsFailingKey g case (mirror key) → IsOfFailingPair g case key
pair-from_keys g case key either = ⊎_elim (λ h. (h.0, h.1, h.2, inl h.3)) (λ h. (h.0, h.1, h.2, inr h.3)) either

pub keys-from_pair : (g : Graph) (case : Case) (key : LinkKey) → IsOfFailingPair g case key → IsFailingKey g case key ⊎ IsFailingKey g case (mirror key)
keys-from_pair g case key h = ⊎_elim (λ e. inl (h.0, h.1, h.2, e)) (λ e. inr (h.0, h.1, h.2, e)) h.3

-- a key is one link's
pub fails-from_key : (g : Graph) (case : Case) (key : LinkKey) (l : ℕ) → IsNamed g → l < link_count g → key_at g l ≡ key → IsFailingKey g case key → FailsWith g case.kind case.link.0 l
fails-from_key g case key l named within is h = subst (λ k. FailsWith g case.kind case.link.0 k) (key-one g named h.0 l h.1 within (h.3 ∙ sym is)) h.2
