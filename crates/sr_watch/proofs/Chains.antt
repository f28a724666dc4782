-- Rounds of a watcher, one after the other.
use Rattle.std.proofs.Common.{◌≡◌, ℕ, zero, suc, ◌+◌, ◌-◌, ◌≤◌, ◌<◌, List, [], ◌∷◌, ◌++◌, length, slice_get, slice_index_or, Some, refl, ap, ◌∙◌, subst, arith}
use Rattle.std.specs.List.Sorted.{IsNonDecreasingBy}
use Rattle.sr_store.specs.Lists.{EndsWith}
use Rattle.sr_store.specs.Histories.{History, Begins, NumbersRise}
use Rattle.sr_store.specs.declared.reader.Reader.{Reader}
use Rattle.sr_store.proofs.Fronts.{get-prefix, prefix-length}
use Rattle.sr_store.proofs.Growth.{begins-self, begins-trans}
use Rattle.sr_watch.specs.declared.inspect.Round.{Round}
use Rattle.sr_watch.specs.declared.task.Task.{Task}
use Rattle.sr_watch.specs.Made.{Kept}
use Rattle.sr_watch.specs.Rounds.{Inspection, IsRound, IsOf, Chain, Repeats}

rise-tail : {V : Type 0} (number : V → ℕ) (x : V) (xs : List V) → NumbersRise number (x ∷ xs) → NumbersRise number xs
rise-tail number x xs rise place before after at then =
    let next : suc (place + 1) ≡ suc place + 1 = omega arith in
    rise (suc place) before after at (subst (λ n. slice_get (x ∷ xs) n ≡ Some after) next then)

-- where numbers go up by one, no later one is lower
rise-over : {V : Type 0} (number : V → ℕ) (vs : List V) → NumbersRise number vs → (k : ℕ) (v : V) (m : ℕ) (w : V)
    → slice_get vs k ≡ Some v → slice_get vs m ≡ Some w → k ≤ m → number v ≤ number w
rise-over number [] rise k v m w at then le = absurd (cc at)
rise-over number (x ∷ xs) rise zero v zero w at then le = let same : v ≡ w = cc (at, then) in omega (arith, ap number same)
rise-over number (x ∷ []) rise zero v (suc m) w at then le = absurd (cc then)
rise-over number (x ∷ y ∷ ys) rise zero v (suc m) w at then le =
    let first : x ≡ v = cc at in
    let next = rise 0 x y refl refl in
    let rest = rise-over number (y ∷ ys) (rise-tail number x (y ∷ ys) rise) 0 y m w refl then (omega arith) in
    omega (arith, ap number first, next, rest)
rise-over number (x ∷ xs) rise (suc k) v zero w at then le = absurd (omega (arith, le))
rise-over number (x ∷ xs) rise (suc k) v (suc m) w at then le =
    rise-over number xs (rise-tail number x xs rise) k v m w at then (omega (arith, le))

-- a reader kept what it kept so far
pub kept-then : {V : Type 0} (a b c : Reader V) → Kept a b → Kept b c → Kept a c
kept-then a b c p q = record { list = begins-trans a.list b.list c.list p.list q.list; seat = q.seat ∙ p.seat }

module _ {V I O : Type 0} (how : Inspection V I O) (task : Task I) where
  -- all rounds show no more than the list at the end
  pub chain-grows : (round : ℕ) (start end : History V) (rs : List (Round O)) → Chain how task round start end rs → Begins start end
  chain-grows round start end [] h = h
  chain-grows round start end (r ∷ rs) h = begins-trans start h.0 end h.1 (chain-grows (round + 1) h.0 end rs h.3)

  -- one more round of a reader
  pub chain-more : (round : ℕ) (start end next : History V) (rs : List (Round O)) (r : Round O) (n : ℕ)
      → n ≡ round + length rs → Begins end next → IsOf how task n next r → Chain how task round start end rs → Chain how task round start next (rs ++ r ∷ [])
  chain-more round start end next [] r n is grown here h =
      (next, begins-trans start end next h grown, subst (λ k. IsOf how task k next r) (is ∙ omega arith) here, begins-self next)
  chain-more round start end next (x ∷ rs) r n is grown here h =
      (h.0, h.1, h.2, chain-more (round + 1) h.0 end next rs r n (is ∙ omega arith) grown here h.3)

  -- one more round on a version
  pub repeats-more : (round : ℕ) (v : V) (rs : List (Round O)) (r : Round O) (n : ℕ)
      → n ≡ round + length rs → IsRound how task n v r → Repeats how task round v rs → Repeats how task round v (rs ++ r ∷ [])
  repeats-more round v [] r n is here h = (subst (λ k. IsRound how task k v r) (is ∙ omega arith) here, tt)
  repeats-more round v (x ∷ rs) r n is here h = (h.0, repeats-more (round + 1) v rs r n (is ∙ omega arith) here h.1)

  -- rounds on one version are rounds of a list that ends with it and doesn't grow
  pub repeats-chain : (round : ℕ) (list : History V) (v : V) (rs : List (Round O))
      → EndsWith list.versions v → Repeats how task round v rs → Chain how task round list list rs
  repeats-chain round list v [] last h = begins-self list
  repeats-chain round list v (r ∷ rs) last h = (list, begins-self list, (v, last, h.0), repeats-chain (round + 1) list v rs last h.1)

  -- no later round has a lower number than a version seen before
  chain-above : (round : ℕ) (start end : History V) (rs : List (Round O)) (k : ℕ) (v : V) (j : ℕ) (d : Round O)
      → NumbersRise how.number_of end.versions → slice_get end.versions k ≡ Some v → k ≤ length start.versions - 1
      → Chain how task round start end rs → j < length rs → how.number_of v ≤ (slice_index_or rs j d).number
  chain-above round start end [] k v j d rising at low h below = elim below [ ]
  chain-above round start end (r ∷ rs) k v zero d rising at low h below =
      let of = h.2 in
      let last = length h.0.versions - 1 in
      let there = get-prefix h.0.versions end.versions last of.0 (chain-grows (round + 1) h.0 end rs h.3).versions of.1 in
      let up : k ≤ last = omega (arith, low, prefix-length start.versions h.0.versions h.1.versions) in
      rw of.2.2 (rise-over how.number_of end.versions rising k v last of.0 at there up)
  chain-above round start end (r ∷ rs) k v (suc j) d rising at low h below =
      chain-above (round + 1) h.0 end rs k v j d rising at (omega (arith, low, prefix-length start.versions h.0.versions h.1.versions)) h.3 (omega arith)

  -- the numbers of the rounds don't fall
  pub chain-rising : (round : ℕ) (start end : History V) (rs : List (Round O))
      → Chain how task round start end rs → NumbersRise how.number_of end.versions → IsNonDecreasingBy (λ r. r.number) rs
  chain-rising round start end [] h rising i j d up below = elim below [ ]
  chain-rising round start end (r ∷ rs) h rising zero zero d up below = omega arith
  chain-rising round start end (r ∷ rs) h rising zero (suc j) d up below =
      let of = h.2 in
      let last = length h.0.versions - 1 in
      let there = get-prefix h.0.versions end.versions last of.0 (chain-grows (round + 1) h.0 end rs h.3).versions of.1 in
      let over = chain-above (round + 1) h.0 end rs last of.0 j d rising there (omega arith) h.3 (omega arith) in
      rw of.2.2 over
  chain-rising round start end (r ∷ rs) h rising (suc i) zero d up below = absurd (omega arith)
  chain-rising round start end (r ∷ rs) h rising (suc i) (suc j) d up below = chain-rising (round + 1) h.0 end rs h.3 rising i j d (omega arith) (omega arith)
