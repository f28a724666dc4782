-- The order of pairs, and lists of them that grow.
use Rattle.std.proofs.Common.{◌≡◌, ℕ, zero, suc, ◌+◌, ◌*◌, ◌<◌, ◌≤◌, ◌⊎◌, ⊎_elim, inl, inr, List, [], ◌∷◌, ◌++◌, length, Some, get_or, slice_get, refl, sym, subst, arith}
use Rattle.std.proofs.lemmas.Bool.{cases_order}
use Rattle.std.proofs.lemmas.Option.{slice_get-get_or, slice_get_within}
use Rattle.sr_model.specs.Graph.{node_count, IsGraph}
use Rattle.sr_model.specs.Label.{Net}
use Rattle.sr_model.specs.declared.link.TheConstants.{MOST_NODES}
use Rattle.sr_loads.specs.declared.packet.Pair.{Pair}
use Rattle.sr_loads.specs.declared.pairs.TheConstants.{MOST_PAIRS}
use Rattle.sr_loads.specs.Packets.{ArePeers, IsPair, IsPairBefore, ArePairs, ArePairsBefore, pair}
use Rattle.sr_seq.proofs.ListLemmas.{get-left, get-last, get-push}

-- ---- lists that grow
pub pairs-none : (net : Net) → ArePairsBefore net (pair 0 0) []
pairs-none net = record {
  each = λ i p e. absurd {0} (cc);
  ascending = λ i j p r lt e f. absurd {0} (cc);
  all = λ p is before. absurd (nothing p before);
} where
  nothing : (p : Pair) → IsPairBefore p (pair 0 0) → ⊥
  nothing p (inl a) = omega arith
  nothing p (inr b) = let h = b.1 in omega arith

-- up to another pair, with none between
pub pairs-up-to : (net : Net) (q r : Pair) (pairs : List Pair) → ((p : Pair) → IsPair net p → IsPairBefore p q → IsPairBefore p r) → ((p : Pair) → IsPair net p → IsPairBefore p r → IsPairBefore p q) → ArePairsBefore net q pairs → ArePairsBefore net r pairs
pairs-up-to net q r pairs there back are = record {
  each = λ i p e. let h = are.each i p e in (h.0, there p h.0 h.1);
  ascending = are.ascending;
  all = λ p is before. are.all p is (back p is before);
}

before-next : (a d : ℕ) (p : Pair) → IsPairBefore p (pair a d) → IsPairBefore p (pair a (d + 1))
before-next a d p (inl x) = inl x
before-next a d p (inr y) = let h = y.1 in inr (y.0, omega arith)

before-or-last : (a d : ℕ) (p : Pair) → IsPairBefore p (pair a (d + 1)) → IsPairBefore p (pair a d) ⊎ (pair a d ≡ p)
before-or-last a d p (inl x) = inl (inl x)
before-or-last a d p (inr y) =
    let below = y.1 in
    ⊎_elim
    (λ (at : p.to.0 ≡ d). inr (λ i. pair (sym y.0 i) (sym at i)))
    (λ (apart : (p.to.0 < d) ⊎ (d < p.to.0)). ⊎_elim (λ (lt : p.to.0 < d). inl (inr (y.0, lt))) (λ (gt : d < p.to.0). absurd (omega arith)) apart)
    (cases_order p.to.0 d)

-- one pair more
pub pairs-push : (net : Net) (a d : ℕ) (pairs : List Pair) → IsPair net (pair a d) → ArePairsBefore net (pair a d) pairs → ArePairsBefore net (pair a (d + 1)) (pairs ++ pair a d ∷ [])
pairs-push net a d pairs is are = record {
  each = λ i p e. ⊎_elim
      (λ (old : slice_get pairs i ≡ Some p). let h = are.each i p old in (h.0, before-next a d p h.1))
      (λ (last : (i ≡ length pairs) × (pair a d ≡ p)). subst (λ (u : Pair). IsPair net u × IsPairBefore u (pair a (d + 1))) last.1 (is, next))
      (get-push pairs (pair a d) i p e);
  ascending = λ i j p r lt e f. ⊎_elim
      (λ (old : slice_get pairs j ≡ Some r). ⊎_elim
      (λ (both : slice_get pairs i ≡ Some p). are.ascending i j p r lt both old)
      (λ (last : (i ≡ length pairs) × (pair a d ≡ p)). let h = slice_get_within pairs j r old in let at = last.0 in absurd (omega arith))
      (get-push pairs (pair a d) i p e))
      (λ (last : (j ≡ length pairs) × (pair a d ≡ r)). ⊎_elim
      (λ (old : slice_get pairs i ≡ Some p). subst (λ (u : Pair). IsPairBefore p u) last.1 (are.each i p old).1)
      (λ (same : (i ≡ length pairs) × (pair a d ≡ p)). let at = last.0 in let here = same.0 in absurd (omega arith))
      (get-push pairs (pair a d) i p e))
      (get-push pairs (pair a d) j r f);
  all = λ p ip before. ⊎_elim
      (λ (old : IsPairBefore p (pair a d)). let h = are.all p ip old in (h.0, get-left pairs (pair a d ∷ []) h.0 p h.1))
      (λ (same : pair a d ≡ p). (length pairs, subst (λ (u : Pair). slice_get (pairs ++ pair a d ∷ []) (length pairs) ≡ Some u) same (get-last pairs (pair a d))))
      (before-or-last a d p before);
} where
  next : IsPairBefore (pair a d) (pair a (d + 1))
  next = inr (refl, omega arith)

-- nodes between which no packets go
pub pairs-skip : (net : Net) (a d : ℕ) (pairs : List Pair) → (ArePeers net a d → ⊥) → ArePairsBefore net (pair a d) pairs → ArePairsBefore net (pair a (d + 1)) pairs
pairs-skip net a d pairs none are =
    pairs-up-to net (pair a d) (pair a (d + 1)) pairs
    (λ p is before. before-next a d p before)
    (λ p is before. ⊎_elim
    (λ old. old)
    (λ (same : pair a d ≡ p). absurd (none (subst (λ (u : Pair). IsPair net u) (sym same) is)))
    (before-or-last a d p before))
    are

-- the last node to which packets go, and on to the next at which they start
pub pairs-from : (net : Net) (a n : ℕ) (pairs : List Pair) → n ≡ node_count net.graph → ArePairsBefore net (pair a n) pairs → ArePairsBefore net (pair (a + 1) 0) pairs
pairs-from net a n pairs all are =
    pairs-up-to net (pair a n) (pair (a + 1) 0) pairs there back are
  where
    there : (p : Pair) → IsPair net p → IsPairBefore p (pair a n) → IsPairBefore p (pair (a + 1) 0)
    there p is (inl x) = inl (omega arith)
    there p is (inr y) = let h = y.0 in inl (omega arith)

    back : (p : Pair) → IsPair net p → IsPairBefore p (pair (a + 1) 0) → IsPairBefore p (pair a n)
    back p is (inl x) = ⊎_elim
        (λ (same : p.from.0 ≡ a). let to = is.to in inr (same, omega (arith, to, all)))
        (λ (apart : (p.from.0 < a) ⊎ (a < p.from.0)). ⊎_elim (λ (lt : p.from.0 < a). inl lt) (λ (gt : a < p.from.0). absurd (omega arith)) apart)
        (cases_order p.from.0 a)
    back p is (inr y) = let h = y.1 in absurd (omega arith)

-- the last node at which packets start
pub pairs-all : (net : Net) (n : ℕ) (pairs : List Pair) → n ≡ node_count net.graph → ArePairsBefore net (pair n 0) pairs → ArePairs net pairs
pairs-all net n pairs all are = record {
  each = λ i p e. (are.each i p e).0;
  ascending = are.ascending;
  all = λ p is. let from = is.from in are.all p is (inl (omega (arith, from, all)));
}

-- ---- how many pairs there are
abbrev rank : Pair → ℕ
rank p = p.from.0 * MOST_NODES + p.to.0

rank-below : (p q : Pair) → p.to.0 < MOST_NODES → IsPairBefore p q → rank p < rank q
rank-below p q to (inl a) = omega arith
rank-below p q to (inr b) = let h = b.0 in let k = b.1 in omega arith

rank-at : (net : Net) (pairs : List Pair) → IsGraph net.graph → ArePairs net pairs → (i : ℕ) (p : Pair) → slice_get pairs i ≡ Some p → i ≤ rank p
rank-at net pairs graph are zero p e = omega arith
rank-at net pairs graph are (suc i) p e =
    let lt = slice_get_within pairs (suc i) p e in
    let q : Pair = get_or pairs i p in
    let at : slice_get pairs i ≡ Some q = slice_get-get_or pairs i p (omega arith) in
    let is = are.each i q at in
    let before = are.ascending i (suc i) q p (omega arith) at e in
    let low : i ≤ rank q = rank-at net pairs graph are i q at in
    let step : rank q < rank p = rank-below q p (omega (arith, is.to, graph.few_nodes)) before in
    omega arith

pub pairs-few : (net : Net) (pairs : List Pair) → IsGraph net.graph → ArePairs net pairs → length pairs ≤ MOST_PAIRS
pairs-few net pairs graph are = by (length pairs) refl
  where
    by : (n : ℕ) → length pairs ≡ n → length pairs ≤ MOST_PAIRS
    by zero is = omega arith
    by (suc m) is =
        let p : Pair = get_or pairs m (pair 0 0) in
        let found : slice_get pairs m ≡ Some p = slice_get-get_or pairs m (pair 0 0) (omega arith) in
        let low : m ≤ rank p = rank-at net pairs graph are m p found in
        let at = are.each m p found in
        omega (arith, low, at.from, at.to, graph.few_nodes)
