-- Tallies of batches: more batches, in another order, and all of them.
use Rattle.std.proofs.Common.{◌≡◌, ◌⊎◌, ⊎_elim, inl, inr, ℕ, zero, suc, ◌+◌, ◌-◌, ◌*◌, ◌^◌, ◌%◌, ◌<◌, ◌≤◌, ◌==◌, Bool, true, false, cond, List, [], ◌∷◌, ◌++◌, length, take, drop, Some, slice_index, get_or, refl, sym, ap, ◌∙◌, subst, append-nil, arith}
use Rattle.std.proofs.Math.Seq.{take-add}
use Rattle.std.specs.List.{AllZip, range_with_len, flat_map, sum_by}
use Rattle.std.proofs.lemmas.Bool.{eqb-true}
use Rattle.std.proofs.lemmas.List.{take_all, get_or-take, get_or-drop, length-take, length-drop}
use Rattle.std.proofs.lemmas.List.Concat.{flat_map-append}
use Rattle.std.proofs.lemmas.List.Sums.{sum_by-cons}
use Rattle.std.proofs.lemmas.Option.{slice_get-get_or, slice_get_within, get_or_from_slice_get}
use Rattle.sr_model.specs.Label.{Net}
use Rattle.sr_loads.specs.declared.batch.TheConstants.{BATCH_PAIRS}
use Rattle.sr_loads.specs.declared.packet.Packet.{Packet}
use Rattle.sr_loads.specs.declared.packet.Pair.{Pair}
use Rattle.sr_loads.specs.declared.queue.Hand.{Hand}
use Rattle.sr_loads.specs.Loads.{all_crossings}
use Rattle.sr_loads.specs.Packets.{packets_of}
use Rattle.sr_loads.specs.Queue.{all_parts, KnowsAll}
use Rattle.sr_loads.specs.Tally.{Traffic, GoBetweenPeers, IsShortRun, AddsPackets, IsTally, AddsCounts, batch_pairs, batch_packets, IsTallyOf, IsTallyOfAll}
use Rattle.sr_loads.proofs.ListLemmas.{range-push, zip_append, zip_parted}
use Rattle.sr_loads.proofs.TallyLemmas.{mark, mark-same, zeros, all_crossings-append, adds-join, tally-add}

-- ---- the pairs of a batch
-- they are pairs of the traffic
pub batch-near : (net : Net) (pairs : List Pair) (b : ℕ) → GoBetweenPeers net pairs → GoBetweenPeers net (batch_pairs pairs b)
batch-near net pairs b all i q e =
    let from : ℕ = b * BATCH_PAIRS in
    let n : ℕ = from + BATCH_PAIRS - from in
    let rest : List Pair = drop from pairs in
    let within : i < length (take n rest) = slice_get_within (take n rest) i q e in
    let long = length-take n rest in
    let left = length-drop from pairs in
    let item : get_or pairs (from + i) q ≡ q = sym (get_or-drop from pairs i q) ∙ (sym (get_or-take n rest i q (omega (arith, within, long))) ∙ get_or_from_slice_get (take n rest) i q q e) in
    all (from + i) q (slice_get-get_or pairs (from + i) q (omega (arith, within, long, left)) ∙ ap (λ (p : Pair). Some p) item)

-- ---- more batches
-- the batches of both
pub tally-both : (t : Traffic) (bs cs counts other after : List ℕ) → IsTallyOf t bs counts → IsTallyOf t cs other → AddsCounts other counts after → IsTallyOf t (bs ++ cs) after
tally-both t bs cs counts other after one two adds =
    let packets = batch_packets t in
    subst (λ (ps : List Packet). IsTally t.net ps after) (sym (flat_map-append packets bs cs))
    (tally-add t.net (flat_map packets bs) (flat_map packets cs) counts other after one two adds)

-- one batch more
pub tally-batch : (t : Traffic) (bs : List ℕ) (b : ℕ) (counts after : List ℕ) → IsTallyOf t bs counts → AddsPackets t.net (batch_packets t b) counts after → IsTallyOf t (bs ++ b ∷ []) after
tally-batch t bs b counts after one two =
    let packets = batch_packets t in
    subst (λ (ps : List Packet). IsTally t.net ps after) (sym (flat_map-append packets bs (b ∷ []) ∙ ap (λ (ps : List Packet). flat_map packets bs ++ ps) (append-nil (packets b))))
    (adds-join t.net (flat_map packets bs) (packets b) _ counts after one two)

-- ---- in another order
-- of the runs of the packets of these batches, those of batch y, and those of the others
record Picked (t : Traffic) (y : ℕ) (xs : List ℕ) (runs : List (List ℕ)) : Type 0 where
  pub own : List (List ℕ)
  pub others : List ℕ
  pub rest : List (List ℕ)
  pub are : AllZip (IsShortRun t.net) (batch_packets t y) own
  pub each : AllZip (IsShortRun t.net) (flat_map (batch_packets t) others) rest
  pub weigh : (h : ℕ → ℕ) → sum_by h xs ≡ h y + sum_by h others
  pub cross : (l : ℕ) → all_crossings l runs ≡ all_crossings l own + all_crossings l rest

picked-first : (t : Traffic) (y x : ℕ) (xs : List ℕ) (own runs all : List (List ℕ)) → x ≡ y → all ≡ own ++ runs → AllZip (IsShortRun t.net) (batch_packets t x) own → AllZip (IsShortRun t.net) (flat_map (batch_packets t) xs) runs → Picked t y (x ∷ xs) all
picked-first t y x xs own runs all same joined is zip = record {
  own = own;
  others = xs;
  rest = runs;
  are = subst (λ (k : ℕ). AllZip (IsShortRun t.net) (batch_packets t k) own) same is;
  each = zip;
  weigh = λ h. sum_by-cons h x xs ∙ ap (λ (k : ℕ). h k + sum_by h xs) same;
  cross = λ l. ap (all_crossings l) joined ∙ all_crossings-append l own runs;
}

picked-later : (t : Traffic) (y x : ℕ) (xs : List ℕ) (front runs all : List (List ℕ)) → all ≡ front ++ runs → AllZip (IsShortRun t.net) (batch_packets t x) front → Picked t y xs runs → Picked t y (x ∷ xs) all
picked-later t y x xs front runs all joined is p = record {
  own = p.own;
  others = x ∷ p.others;
  rest = front ++ p.rest;
  are = p.are;
  each = zip_append (IsShortRun t.net) (batch_packets t x) (flat_map (batch_packets t) p.others) front p.rest is p.each;
  weigh = λ h. omega (arith, sum_by-cons h x xs, sum_by-cons h x p.others, p.weigh h);
  cross = λ l.
      let whole = ap (all_crossings l) joined in
      omega (arith, whole, all_crossings-append l front runs, all_crossings-append l front p.rest, p.cross l);
}

first-or-later : (y x : ℕ) → (x ≡ y) ⊎ (mark y x ≡ 0)
first-or-later y x = by (x == y) refl
  where
    by : (b : Bool) → (x == y) ≡ b → (x ≡ y) ⊎ (mark y x ≡ 0)
    by true e = inl (eqb-true x y e)
    by false e = inr (ap (λ (b : Bool). cond b 1 0) e)

pick : (t : Traffic) (y : ℕ) (xs : List ℕ) (runs : List (List ℕ)) → AllZip (IsShortRun t.net) (flat_map (batch_packets t) xs) runs → 0 < sum_by (mark y) xs → Picked t y xs runs
pick t y [] runs zip some = absurd (omega arith)
pick t y (x ∷ xs) runs zip some =
    let parts = zip_parted (IsShortRun t.net) (batch_packets t x) (flat_map (batch_packets t) xs) runs zip in
    ⊎_elim
    (λ (same : x ≡ y). picked-first t y x xs parts.first parts.second runs same parts.joined parts.one parts.two)
    (λ (none : mark y x ≡ 0). picked-later t y x xs parts.first parts.second runs parts.joined parts.one (pick t y xs parts.second parts.two (omega (arith, some, none, sum_by-cons (mark y) x xs))))
    (first-or-later y x)

-- the runs in the order of other batches, which are as often
reordered : (t : Traffic) (xs ys : List ℕ) (runs : List (List ℕ)) → AllZip (IsShortRun t.net) (flat_map (batch_packets t) xs) runs → ((h : ℕ → ℕ) → sum_by h xs ≡ sum_by h ys) → (others : List (List ℕ)) × AllZip (IsShortRun t.net) (flat_map (batch_packets t) ys) others × ((l : ℕ) → all_crossings l runs ≡ all_crossings l others)
reordered t [] [] [] zip same = ([], tt, λ l. refl)
reordered t [] [] (r ∷ runs) zip same = absurd zip
reordered t (x ∷ xs) [] runs zip same = let h = same (λ k. 1) in absurd (omega (arith, sum_by-cons (λ (k : ℕ). 1) x xs))
reordered t xs (y ∷ ys) runs zip same =
    let one = mark-same y in
    let p = pick t y xs runs zip (let h = same (mark y) in omega (arith, one, sum_by-cons (mark y) y ys)) in
    let more = reordered t p.others ys p.rest p.each (λ h. let k = same h in omega (arith, k, p.weigh h, sum_by-cons h y ys)) in (
      p.own ++ more.0,
      zip_append (IsShortRun t.net) (batch_packets t y) (flat_map (batch_packets t) ys) p.own more.0 p.are more.1,
      λ l. omega (arith, p.cross l, more.2 l, all_crossings-append l p.own more.0),
    )

pub tally-reordered : (t : Traffic) (bs cs counts : List ℕ) → ((h : ℕ → ℕ) → sum_by h bs ≡ sum_by h cs) → IsTallyOf t bs counts → IsTallyOf t cs counts
tally-reordered t bs cs counts same is =
    let r = reordered t bs cs is.runs is.are same in record {
      runs = r.0;
      are = r.1;
      long = is.long;
      each = λ l lt fits. is.each l lt fits ∙ ap (λ (n : ℕ). (slice_index (zeros t.net) l + n) % 2 ^ 64) (r.2 l);
    }

-- ---- all batches
batches-to : (t : Traffic) (b : ℕ) → flat_map (batch_packets t) (range_with_len 0 b) ≡ packets_of t.choices (take (b * BATCH_PAIRS) t.pairs)
batches-to t zero = refl
batches-to t (suc b) =
    let packets = batch_packets t in
    let from : ℕ = b * BATCH_PAIRS in
    let so_far : List Packet = packets_of t.choices (take from t.pairs) in
    let size : BATCH_PAIRS ≡ from + BATCH_PAIRS - from = omega arith in
    let next : from + BATCH_PAIRS ≡ suc b * BATCH_PAIRS = omega arith in
    let last : packets_of t.choices (take BATCH_PAIRS (drop from t.pairs)) ≡ packets b = ap (λ (n : ℕ). packets_of t.choices (take n (drop from t.pairs))) size in
    let joined : packets_of t.choices (take (suc b * BATCH_PAIRS) t.pairs) ≡ so_far ++ packets b =
    ap (λ (n : ℕ). packets_of t.choices (take n t.pairs)) (sym next) ∙ (ap (packets_of t.choices) (take-add from BATCH_PAIRS t.pairs)
    ∙ (flat_map-append _ (take from t.pairs) (take BATCH_PAIRS (drop from t.pairs)) ∙ ap (λ (ps : List Packet). so_far ++ ps) last)) in
    ap (flat_map packets) (range-push 0 b b (omega arith)) ∙ (flat_map-append packets (range_with_len 0 b) (b ∷ [])
    ∙ (ap (λ (ps : List Packet). ps ++ (packets b ++ [])) (batches-to t b)
    ∙ (ap (λ (ps : List Packet). so_far ++ ps) (append-nil (packets b)) ∙ sym joined)))

-- the pass with all parts took each batch as often as it was pushed, so the counts are those of all packets
pub tally-whole : (t : Traffic) (v : Hand) (batches : ℕ) (counts : List ℕ) → IsTallyOf t v.taken counts → KnowsAll v [] → v.parts ≡ all_parts → v.pushed ≡ range_with_len 0 batches → length t.pairs ≤ batches * BATCH_PAIRS → IsTallyOfAll t counts
tally-whole t v batches counts is knows parts pushed enough =
    let all : flat_map (batch_packets t) (range_with_len 0 batches) ≡ packets_of t.choices t.pairs = batches-to t batches ∙ ap (packets_of t.choices) (take_all (batches * BATCH_PAIRS) t.pairs enough) in
    subst (λ (ps : List Packet). IsTally t.net ps counts) all
    (tally-reordered t v.taken (range_with_len 0 batches) counts
    (λ h.
    let k = knows parts h in
    let none : sum_by h [] ≡ 0 = refl in
    omega (arith, k, none) ∙ ap (sum_by h) pushed)
    is)
