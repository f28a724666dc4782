-- What a block of eight lanes writes where a row is marked.
use Rattle.std.proofs.Common.{◌≡◌, ℕ, ◌+◌, ◌-◌, ◌^◌, ◌<◌, ◌≤◌, ◌≢◌, set, Bool, false, List, map, length, replicate, get_or, if◌then◌else◌, inl, inr, take, drop, refl, ap, sym, subst, ◌∙◌, arith, cond}
use Rattle.std.proofs.lemmas.Simd.{tops_compared, length-zip2, get_or-zip2, get_or-sel_l, length-sel_l, get_or-replicate, length-chunk, get_or-chunk, get_or-put_chunk_at, get_or-put_chunk_above}
use Rattle.std.proofs.lemmas.Bool.{cases_lt, lt-ltb, le-ltb, eq-eqb, ne_eqb}
use Rattle.std.proofs.lemmas.List.{get_or-set_same, get_or-set_other}
use lib.Dec.{eqb}
use lib.Lanes.{zip2, sel_l, top, put_chunk}
use mir.Syntax.{w64}
use Rattle.sr_lanes.specs.Marks.{AreMarked}
use Rattle.sr_lanes.specs.Passes.{AreCells, is_tight, marked}
use Rattle.sr_lanes.proofs.LaneLemmas.{sums_of, length-sums_of, get_or-sums_of}

abbrev pub written_of : ℕ → List ℕ → List ℕ → List ℕ → List ℕ
written_of cost us bs hs = sel_l (map (top 63) (zip2 (λ a b. cond (eqb a b) (2 ^ 64 - 1) 0) (sums_of cost bs) us)) (replicate 8 1) hs

module _ (cost : ℕ) (us bs hs : List ℕ) (u8 : length us ≡ 8) (b8 : length bs ≡ 8) (h8 : length hs ≡ 8) where
  sums8 : length (sums_of cost bs) ≡ 8
  sums8 = length-sums_of cost bs b8

  tests : map (top 63) (zip2 (λ a b. cond (eqb a b) (2 ^ 64 - 1) 0) (sums_of cost bs) us) ≡ zip2 eqb (sums_of cost bs) us
  tests = tops_compared w64 eqb (sums_of cost bs) us

  tests8 : length (zip2 eqb (sums_of cost bs) us) ≡ 8
  tests8 = length-zip2 eqb (sums_of cost bs) us (sums8 ∙ sym u8) ∙ sums8

  pub length-written : length (written_of cost us bs hs) ≡ 8
  length-written = length-sel_l _ (replicate 8 1) hs (ap length tests ∙ tests8) (ap length tests ∙ (tests8 ∙ sym h8)) ∙ (ap length tests ∙ tests8)

  pub get_or-written : (k : ℕ) → k < 8 → cost + get_or bs k 0 < 2 ^ 64 → get_or (written_of cost us bs hs) k 0 ≡ cond (eqb (cost + get_or bs k 0) (get_or us k 0)) 1 (get_or hs k 0)
  get_or-written k lt small =
      let picked = ap (λ (ms : List Bool). get_or (sel_l ms (replicate 8 1) hs) k 0) tests ∙ get_or-sel_l (zip2 eqb (sums_of cost bs) us) (replicate 8 1) hs k 0 (omega (arith, tests8)) lt (omega (arith, h8)) in
      let test = get_or-zip2 eqb (sums_of cost bs) us k 0 0 false (omega (arith, sums8)) (omega (arith, u8)) in
      let sum = get_or-sums_of cost bs k b8 lt small in
      let one : get_or (replicate 8 1) k 0 ≡ 1 = get_or-replicate {A = ℕ} 8 k 1 0 lt in
      picked ∙ rw (test, sum, one) refl

module _ (row : List ℕ) (cost : ℕ) (base hits : List ℕ) (at : ℕ) (lengths : (length row ≡ length hits) × (length base ≡ length hits)) (room : at + 8 ≤ length hits) (low : cost ≤ 2 ^ 62) (cells : AreCells base) where
  abbrev block : List ℕ
  block = written_of cost (take 8 (drop at row)) (take 8 (drop at base)) (take 8 (drop at hits))

  row8 : length (take 8 (drop at row)) ≡ 8
  row8 = length-chunk at 8 row (let same = lengths.0 in omega (arith, same, room))

  base8 : length (take 8 (drop at base)) ≡ 8
  base8 = length-chunk at 8 base (let same = lengths.1 in omega (arith, same, room))

  hits8 : length (take 8 (drop at hits)) ≡ 8
  hits8 = length-chunk at 8 hits room

  block8 : length block ≡ 8
  block8 = length-written cost (take 8 (drop at row)) (take 8 (drop at base)) (take 8 (drop at hits)) row8 base8 hits8

  -- the cell of a place in the row
  of_test : (v : ℕ) → v < length row → cond (eqb (cost + get_or base v 0) (get_or row v 0)) 1 (get_or hits v 0) ≡ marked row cost base hits v
  of_test v lt = rw (lt-ltb v (length row) lt) refl

  at-block : (k : ℕ) → k < 8 → get_or (put_chunk at hits block) (at + k) 0 ≡ marked row cost base hits (at + k)
  at-block k lt =
      let same = lengths.0 in
      let cell : get_or (take 8 (drop at base)) k 0 ≡ get_or base (at + k) 0 = get_or-chunk at 8 base k 0 lt in
      let small = cells (at + k) in
      let sum : cost + get_or (take 8 (drop at base)) k 0 < 2 ^ 64 = omega (arith, cell, small, low) in
      let put = get_or-put_chunk_at at hits block k 0 (omega (arith, block8)) (omega (arith, block8, room)) in
      let lane = get_or-written cost (take 8 (drop at row)) (take 8 (drop at base)) (take 8 (drop at hits)) row8 base8 hits8 k lt sum in
      let told = of_test (at + k) (omega (arith, same, room, lt)) in
      put ∙ (lane ∙ rw (cell, get_or-chunk at 8 row k 0 lt, get_or-chunk at 8 hits k 0 lt) told)

  pub inside-block : (v : ℕ) → at ≤ v → v < at + 8 → get_or (put_chunk at hits block) v 0 ≡ marked row cost base hits v
  inside-block v ge below =
      let place : at + (v - at) ≡ v = omega (arith, ge) in
      subst (λ (n : ℕ). get_or (put_chunk at hits block) n 0 ≡ marked row cost base hits n) place (at-block (v - at) (omega (arith, ge, below)))

  pub above-block : (v : ℕ) → at + 8 ≤ v → get_or (put_chunk at hits block) v 0 ≡ get_or hits v 0
  above-block v le = get_or-put_chunk_above at hits block v 0 (omega (arith, block8, le))

-- the marks of a block more
pub marked-more : (row : List ℕ) (cost : ℕ) (base before during after : List ℕ) (at end : ℕ) → at ≤ end → AreMarked row cost base before at during
    → ((v : ℕ) → at ≤ v → v < end → get_or after v 0 ≡ marked row cost base during v)
    → ((v : ℕ) → v < at → get_or after v 0 ≡ get_or during v 0)
    → ((v : ℕ) → end ≤ v → get_or after v 0 ≡ get_or during v 0)
    → AreMarked row cost base before end after
marked-more row cost base before during after at end le so_far inside below above = record {
  done = λ v lt. elim (cases_lt v at) [
    | inl less ↦ below v less ∙ so_far.done v less
    | inr more ↦ inside v more lt ∙ ap (λ (old : ℕ). if is_tight row cost base v then 1 else old) (so_far.rest v more)
  ];
  rest = λ v ge. above v ge ∙ so_far.rest v (omega (arith, le, ge));
}

-- where all cells are marked, none is left as it was
pub marked-whole : (row : List ℕ) (cost : ℕ) (base before after : List ℕ) (end : ℕ) → length row ≤ end → AreMarked row cost base before end after → (v : ℕ) → get_or after v 0 ≡ marked row cost base before v
marked-whole row cost base before after end le all v = elim (cases_lt v end) [
  | inl less ↦ all.done v less
  | inr more ↦ all.rest v more ∙ rw (le-ltb v (length row) (omega (arith, le, more))) refl
]

-- the mark of a cell more
module _ (row : List ℕ) (cost : ℕ) (base before during : List ℕ) (at : ℕ) (lt : at < length row) (so_far : AreMarked row cost base before at during) where
  only : (v : ℕ) → at ≤ v → v < at + 1 → v ≡ at
  only v ge below = omega (arith, ge, below)

  hit : cost + get_or base at 0 ≡ get_or row at 0 → marked row cost base during at ≡ 1
  hit same = rw (lt-ltb at (length row) lt, eq-eqb (cost + get_or base at 0) (get_or row at 0) same) refl

  miss : cost + get_or base at 0 ≢ get_or row at 0 → marked row cost base during at ≡ get_or during at 0
  miss other = rw (ne_eqb (cost + get_or base at 0) (get_or row at 0) other, lt-ltb at (length row) lt) refl

  pub marked-hit : (after : List ℕ) → after ≡ set during at 1 → at < length during → cost + get_or base at 0 ≡ get_or row at 0 → AreMarked row cost base before (at + 1) after
  marked-hit after is inside same = rw is (marked-more row cost base before during (set during at 1) at (at + 1) (omega arith) so_far
      (λ v ge below. subst (λ (n : ℕ). get_or (set during at 1) n 0 ≡ marked row cost base during n) (sym (only v ge below)) (get_or-set_same during at 1 0 inside ∙ sym (hit same)))
      (λ v below. get_or-set_other during at v 1 0 (omega (arith, below)))
      (λ v above. get_or-set_other during at v 1 0 (omega (arith, above))))

  pub marked-miss : (after : List ℕ) → after ≡ during → cost + get_or base at 0 ≢ get_or row at 0 → AreMarked row cost base before (at + 1) after
  marked-miss after is other = rw is (marked-more row cost base before during during at (at + 1) (omega arith) so_far
      (λ v ge below. subst (λ (n : ℕ). get_or during n 0 ≡ marked row cost base during n) (sym (only v ge below)) (sym (miss other)))
      (λ v below. refl)
      (λ v above. refl))
