-- The order of packets, and the packets of all pairs in this order.
use Rattle.std.proofs.Common.{◌≡◌, ℕ, zero, suc, ◌+◌, ◌*◌, ◌<◌, ◌≤◌, ◌⊎◌, ⊎_elim, inl, inr, List, [], ◌∷◌, ◌++◌, length, append-nil, Some, slice_get, refl, sym, ap, ◌∙◌, subst, arith}
use Rattle.std.proofs.Math.Nat.{mul-le-mul_right}
use Rattle.std.proofs.lemmas.Bool.{cases_order}
use Rattle.std.proofs.lemmas.List.{length-append}
use Rattle.std.proofs.lemmas.List.Concat.{flat_map-append}
use Rattle.std.proofs.lemmas.List.FromFn.{get_or-map-range_with_len, length-map-range_with_len}
use Rattle.std.proofs.lemmas.Option.{slice_get-get_or, slice_get_within}
use Rattle.sr_model.specs.Label.{Net}
use Rattle.sr_loads.specs.declared.packet.Packet.{Packet}
use Rattle.sr_loads.specs.declared.packet.Pair.{Pair}
use Rattle.sr_loads.specs.Packets.{IsPacket, IsBefore, ArePackets, IsPairBefore, ArePairs, pair, packet, packets_between, packets_of}
use Rattle.sr_loads.proofs.ListLemmas.{get_either}
use Rattle.sr_seq.proofs.ListLemmas.{get-left, get-right}

-- ---- the order
pub before-irreflexive : (p : Packet) → IsBefore p p → ⊥
before-irreflexive p (inl a) = omega arith
before-irreflexive p (inr (inl b)) = let h = b.1 in omega arith
before-irreflexive p (inr (inr c)) = let h = c.2 in omega arith

pub before-transitive : (p q r : Packet) → IsBefore p q → IsBefore q r → IsBefore p r
before-transitive p q r (inl a) (inl b) = inl (omega arith)
before-transitive p q r (inl a) (inr (inl b)) = let h = b.0 in inl (omega arith)
before-transitive p q r (inl a) (inr (inr b)) = let h = b.0 in inl (omega arith)
before-transitive p q r (inr (inl a)) (inl b) = let h = a.0 in inl (omega arith)
before-transitive p q r (inr (inl a)) (inr (inl b)) = let h = a.1 in let k = b.1 in inr (inl (a.0 ∙ b.0, omega arith))
before-transitive p q r (inr (inl a)) (inr (inr b)) = let h = a.1 in let k = b.1 in inr (inl (a.0 ∙ b.0, omega arith))
before-transitive p q r (inr (inr a)) (inl b) = let h = a.0 in inl (omega arith)
before-transitive p q r (inr (inr a)) (inr (inl b)) = let h = a.1 in let k = b.1 in inr (inl (a.0 ∙ b.0, omega arith))
before-transitive p q r (inr (inr a)) (inr (inr b)) = let h = a.2 in let k = b.2 in inr (inr (a.0 ∙ b.0, a.1 ∙ b.1, omega arith))

-- ---- the packets of a pair
between-long : (choices : ℕ) (q : Pair) → length (packets_between choices q) ≡ choices
between-long choices q = length-map-range_with_len (packet q.from.0 q.to.0) 0 choices

between-at : (choices : ℕ) (q : Pair) (k : ℕ) → k < choices → slice_get (packets_between choices q) k ≡ Some (packet q.from.0 q.to.0 k)
between-at choices q k lt =
    let p : Packet = packet q.from.0 q.to.0 k in
    slice_get-get_or (packets_between choices q) k p (omega (arith, between-long choices q, lt))
    ∙ ap (λ (x : Packet). Some x) (get_or-map-range_with_len (packet q.from.0 q.to.0) 0 choices k k p lt (omega arith))

-- ---- the packets of all pairs
pub packets-long : (choices : ℕ) (pairs : List Pair) → length (packets_of choices pairs) ≡ length pairs * choices
packets-long choices [] = omega arith
packets-long choices (q ∷ qs) =
    omega (arith, length-append (packets_between choices q) (packets_of choices qs), between-long choices q, packets-long choices qs)

pub packets-push : (choices : ℕ) (pairs : List Pair) (q : Pair) → packets_of choices (pairs ++ q ∷ []) ≡ packets_of choices pairs ++ packets_between choices q
packets-push choices pairs q =
    flat_map-append (packets_between choices) pairs (q ∷ []) ∙ ap (λ (ps : List Packet). packets_of choices pairs ++ ps) (append-nil (packets_between choices q))

-- a packet has its place by its pair and its choice number
record IsPlaced (choices : ℕ) (pairs : List Pair) (n : ℕ) (p : Packet) : Type 0 where
  pub i : ℕ
  pub k : ℕ
  pub q : Pair
  pub at : slice_get pairs i ≡ Some q
  pub below : k < choices
  pub place : n ≡ i * choices + k
  pub is : packet q.from.0 q.to.0 k ≡ p

placed : (choices : ℕ) (pairs : List Pair) (n : ℕ) (p : Packet) → slice_get (packets_of choices pairs) n ≡ Some p → IsPlaced choices pairs n p
placed choices [] n p e = absurd {0} (cc)
placed choices (q ∷ qs) n p e = ⊎_elim
    (λ (here : slice_get (packets_between choices q) n ≡ Some p).
    let lt : n < choices = omega (arith, slice_get_within (packets_between choices q) n p here, between-long choices q) in
    let same : Some (packet q.from.0 q.to.0 n) ≡ Some p = sym (between-at choices q n lt) ∙ here in
    record { i = 0; k = n; q = q; at = refl; below = lt; place = omega arith; is = cc })
    (λ (there : (m : ℕ) × (n ≡ length (packets_between choices q) + m) × (slice_get (packets_of choices qs) m ≡ Some p)).
    let rest = placed choices qs there.0 p there.2 in
    record { i = rest.i + 1; k = rest.k; q = rest.q; at = next rest.i rest.q rest.at; below = rest.below; place = omega (arith, there.1, between-long choices q, rest.place); is = rest.is })
    (get_either (packets_between choices q) (packets_of choices qs) n p e)
  where
    next : (j : ℕ) (r : Pair) → slice_get qs j ≡ Some r → slice_get (q ∷ qs) (j + 1) ≡ Some r
    next j r is = get-right (q ∷ []) qs j (j + 1) r (omega arith) is

at-place : (choices : ℕ) (pairs : List Pair) (i k : ℕ) (q : Pair) → slice_get pairs i ≡ Some q → k < choices → slice_get (packets_of choices pairs) (i * choices + k) ≡ Some (packet q.from.0 q.to.0 k)
at-place choices [] i k q e lt = absurd {0} (cc)
at-place choices (x ∷ xs) zero k q e lt =
    let same : x ≡ q = cc in
    let here : 0 * choices + k ≡ k = omega arith in
    ap (slice_get (packets_of choices (x ∷ xs))) here
    ∙ get-left (packets_between choices x) (packets_of choices xs) k (packet q.from.0 q.to.0 k)
    (subst (λ (y : Pair). slice_get (packets_between choices x) k ≡ Some (packet y.from.0 y.to.0 k)) same (between-at choices x k lt))
at-place choices (x ∷ xs) (suc i) k q e lt =
    get-right (packets_between choices x) (packets_of choices xs) (i * choices + k) (suc i * choices + k) (packet q.from.0 q.to.0 k)
    (omega (arith, between-long choices x)) (at-place choices xs i k q e lt)

module _ (net : Net) (choices : ℕ) (pairs : List Pair) (are : ArePairs net pairs) where
  -- the packets of two places that ascend
  ascend : (i j : ℕ) (p r : Packet) → i < j → IsPlaced choices pairs i p → IsPlaced choices pairs j r → IsBefore p r
  ascend i j p r lt a b =
      subst (λ (v : Packet). IsBefore v r) a.is
      (subst (λ (w : Packet). IsBefore (packet a.q.from.0 a.q.to.0 a.k) w) b.is
      (⊎_elim
      (λ (same : a.i ≡ b.i).
      let one : Some a.q ≡ Some b.q = sym a.at ∙ (ap (slice_get pairs) same ∙ b.at) in
      let q : a.q ≡ b.q = cc in
      inr (inr (ap (λ (y : Pair). y.from.0) q, ap (λ (y : Pair). y.to.0) q, later same)))
      (λ (apart : (a.i < b.i) ⊎ (b.i < a.i)). ⊎_elim
      (λ (less : a.i < b.i). by-pair (are.ascending a.i b.i a.q b.q less a.at b.at))
      (λ (more : b.i < a.i). absurd (not-back more))
      apart)
      (cases_order a.i b.i)))
    where
      later : a.i ≡ b.i → a.k < b.k
      later same = let e = ap (λ (n : ℕ). n * choices) same in omega (arith, e, a.place, b.place, lt)

      by-pair : IsPairBefore a.q b.q → IsBefore (packet a.q.from.0 a.q.to.0 a.k) (packet b.q.from.0 b.q.to.0 b.k)
      by-pair (inl x) = inl x
      by-pair (inr y) = inr (inl y)

      not-back : b.i < a.i → ⊥
      not-back more =
          let rows : suc b.i * choices ≤ a.i * choices = mul-le-mul_right choices more in
          omega (arith, rows, a.place, b.place, b.below, lt)

  -- they are the packets of the net
  pub packets-are : ArePackets net choices (packets_of choices pairs)
  packets-are = record {
    each = λ n p e.
        let at = placed choices pairs n p e in
        subst (λ (v : Packet). IsPacket net choices v) at.is (are.each at.i at.q at.at, at.below);
    ascending = λ i j p r lt e f. ascend i j p r lt (placed choices pairs i p e) (placed choices pairs j r f);
    all = λ p is.
        let at = are.all (pair p.from.0 p.to.0) is.0 in
        (at.0 * choices + p.choice, at-place choices pairs at.0 p.choice (pair p.from.0 p.to.0) at.1 is.1);
  }
