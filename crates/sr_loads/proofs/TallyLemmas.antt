-- Counts that wrap, and packets that are added to them.
use Rattle.std.proofs.Common.{◌≡◌, ◌⊎◌, ⊎_elim, set, ℕ, ◌+◌, ◌%◌, ◌^◌, ◌<◌, ◌≤◌, ◌==◌, Bool, true, false, cond, List, [], ◌∷◌, ◌++◌, length, take, get_or, replicate, slice_index, refl, sym, ap, ◌∙◌, subst, arith}
use Rattle.std.proofs.Math.Nat.{mod-add-mod, add-mod-mod, mod-eq_of_lt, mod-lt}
use Rattle.std.proofs.lemmas.Bool.{eqb-true, eqb-false, cases_order}
use Rattle.std.proofs.lemmas.List.{take_more, length-replicate, length-set, get_or-replicate, get_or-set_same, get_or-set_other}
use Rattle.std.proofs.lemmas.List.FromFn.{map-range_with_len_more}
use Rattle.sr_model.specs.Graph.{link_count}
use Rattle.sr_model.specs.Label.{Net}
use Rattle.sr_loads.specs.declared.packet.Packet.{Packet}
use Rattle.sr_loads.specs.declared.packet.Pair.{Pair}
use Rattle.sr_loads.specs.Packets.{packet, packets_between, packets_of}
use Rattle.sr_loads.specs.Loads.{crossings, all_crossings}
use Rattle.sr_loads.specs.Tally.{IsShortRun, AddsRun, AddsPacket, AddsPackets, IsTally, AddsCounts}
use Rattle.sr_loads.proofs.ListLemmas.{zip_append}
use Rattle.sr_loads.proofs.PacketOrder.{packets-push}

pub crossings-append : (l : ℕ) (xs ys : List ℕ) → crossings l (xs ++ ys) ≡ crossings l xs + crossings l ys
crossings-append l [] ys = omega arith
crossings-append l (x ∷ xs) ys = omega (arith, crossings-append l xs ys)

pub all_crossings-append : (l : ℕ) (rs ss : List (List ℕ)) → all_crossings l (rs ++ ss) ≡ all_crossings l rs + all_crossings l ss
all_crossings-append l [] ss = omega arith
all_crossings-append l (r ∷ rs) ss = omega (arith, all_crossings-append l rs ss)

-- two additions that wrap are one
pub wraps-twice : (s a b t u : ℕ) → t ≡ (s + a) % 2 ^ 64 → u ≡ (t + b) % 2 ^ 64 → u ≡ (s + (a + b)) % 2 ^ 64
wraps-twice s a b t u one two =
    let sum : (s + a) + b ≡ s + (a + b) = omega arith in
    two ∙ (ap (λ (n : ℕ). (n + b) % 2 ^ 64) one ∙ (mod-add-mod (s + a) (2 ^ 64) b ∙ ap (λ (n : ℕ). n % 2 ^ 64) sum))

pub wraps-below : (s t : ℕ) → t ≡ s % 2 ^ 64 → t < 2 ^ 64
wraps-below s t is = subst (λ (k : ℕ). k < 2 ^ 64) (sym is) (mod-lt s (omega arith))

-- no link crossed, nothing added
pub adds-nothing : (counts : List ℕ) → AddsRun [] counts counts
adds-nothing counts = record {
  long = refl;
  each = λ l lt fits. let sum : slice_index counts l + 0 ≡ slice_index counts l = omega arith in sym (ap (λ (n : ℕ). n % 2 ^ 64) sum ∙ mod-eq_of_lt fits);
}

pub adds-more : (xs ys before mid after : List ℕ) → AddsRun xs before mid → AddsRun ys mid after → AddsRun (xs ++ ys) before after
adds-more xs ys before mid after one two = record {
  long = two.long ∙ one.long;
  each = λ l lt fits.
      let first : slice_index mid l ≡ (slice_index before l + crossings l xs) % 2 ^ 64 = one.each l lt fits in
      let next : slice_index after l ≡ (slice_index mid l + crossings l ys) % 2 ^ 64 = two.each l (omega (arith, lt, one.long)) (wraps-below _ _ first) in
      wraps-twice (slice_index before l) (crossings l xs) (crossings l ys) (slice_index mid l) (slice_index after l) first next
      ∙ ap (λ (n : ℕ). (slice_index before l + n) % 2 ^ 64) (sym (crossings-append l xs ys));
}

-- no packet, nothing added
pub adds-none : (net : Net) (counts : List ℕ) → AddsPackets net [] counts counts
adds-none net counts = record { runs = []; are = tt; long = refl; each = (adds-nothing counts).each }

-- packets behind others
pub adds-join : (net : Net) (ps qs : List Packet) (before mid after : List ℕ) → AddsPackets net ps before mid → AddsPackets net qs mid after → AddsPackets net (ps ++ qs) before after
adds-join net ps qs before mid after one two = record {
  runs = one.runs ++ two.runs;
  are = zip_append (IsShortRun net) ps qs one.runs two.runs one.are two.are;
  long = two.long ∙ one.long;
  each = λ l lt fits.
      let first : slice_index mid l ≡ (slice_index before l + all_crossings l one.runs) % 2 ^ 64 = one.each l lt fits in
      let next : slice_index after l ≡ (slice_index mid l + all_crossings l two.runs) % 2 ^ 64 = two.each l (omega (arith, lt, one.long)) (wraps-below _ _ first) in
      wraps-twice (slice_index before l) (all_crossings l one.runs) (all_crossings l two.runs) (slice_index mid l) (slice_index after l) first next
      ∙ ap (λ (n : ℕ). (slice_index before l + n) % 2 ^ 64) (sym (all_crossings-append l one.runs two.runs));
}

adds-one : (net : Net) (p : Packet) (before after : List ℕ) → AddsPacket net p before after → AddsPackets net (p ∷ []) before after
adds-one net p before after adds = record {
  runs = adds.0 ∷ [];
  are = (adds.1, tt);
  long = adds.2.long;
  each = λ l lt fits.
      let sum : crossings l adds.0 ≡ all_crossings l (adds.0 ∷ []) = omega arith in
      adds.2.each l lt fits ∙ ap (λ (n : ℕ). (slice_index before l + n) % 2 ^ 64) sum;
}

-- one packet more of a pair
pub adds-choice : (net : Net) (q : Pair) (k : ℕ) (before mid after : List ℕ) → AddsPackets net (packets_between k q) before mid → AddsPacket net (packet q.from.0 q.to.0 k) mid after → AddsPackets net (packets_between (k + 1) q) before after
adds-choice net q k before mid after one two =
    subst (λ (ps : List Packet). AddsPackets net ps before after) (sym (map-range_with_len_more (packet q.from.0 q.to.0) 0 k k (omega arith)))
    (adds-join net (packets_between k q) (packet q.from.0 q.to.0 k ∷ []) before mid after one (adds-one net (packet q.from.0 q.to.0 k) mid after two))

-- one pair more
pub adds-pair : (net : Net) (choices : ℕ) (pairs : List Pair) (i : ℕ) (d : Pair) (before mid after : List ℕ) → i < length pairs → AddsPackets net (packets_of choices (take i pairs)) before mid → AddsPackets net (packets_between choices (get_or pairs i d)) mid after → AddsPackets net (packets_of choices (take (i + 1) pairs)) before after
adds-pair net choices pairs i d before mid after lt one two =
    let q : Pair = get_or pairs i d in
    subst (λ (ps : List Packet). AddsPackets net ps before after) (sym (ap (packets_of choices) (take_more pairs i d lt) ∙ packets-push choices (take i pairs) q))
    (adds-join net (packets_of choices (take i pairs)) (packets_between choices q) before mid after one two)

-- nothing counted
abbrev pub zeros : Net → List ℕ
zeros net = replicate (link_count net.graph) 0

zeros-at : (net : Net) (l : ℕ) → l < link_count net.graph → slice_index (zeros net) l ≡ 0
zeros-at net l lt = get_or-replicate (link_count net.graph) l 0 0 lt

zeros-long : (net : Net) → length (zeros net) ≡ link_count net.graph
zeros-long net = length-replicate (link_count net.graph) 0

pub tally-long : (net : Net) (packets : List Packet) (counts : List ℕ) → IsTally net packets counts → length counts ≡ link_count net.graph
tally-long net packets counts tally = tally.long ∙ zeros-long net

from-none : (n : ℕ) → 0 + n ≡ n
from-none n = omega arith

pub tally-at : (net : Net) (packets : List Packet) (counts : List ℕ) (tally : IsTally net packets counts) (l : ℕ) → l < link_count net.graph → slice_index counts l ≡ all_crossings l tally.runs % 2 ^ 64
tally-at net packets counts tally l lt =
    let none = zeros-at net l lt in
    tally.each l (omega (arith, lt, zeros-long net)) (omega (arith, none))
    ∙ (ap (λ (n : ℕ). (n + all_crossings l tally.runs) % 2 ^ 64) none ∙ ap (λ (n : ℕ). n % 2 ^ 64) (from-none (all_crossings l tally.runs)))

-- two tallies together
pub tally-add : (net : Net) (packets more : List Packet) (counts other after : List ℕ) → IsTally net packets counts → IsTally net more other → AddsCounts other counts after → IsTally net (packets ++ more) after
tally-add net packets more counts other after one two adds = record {
  runs = one.runs ++ two.runs;
  are = zip_append (IsShortRun net) packets more one.runs two.runs one.are two.are;
  long = adds.long ∙ one.long;
  each = λ l lt fits.
      let within : l < link_count net.graph = omega (arith, lt, zeros-long net) in
      let a = tally-at net packets counts one l within in
      let b = tally-at net more other two l within in
      let none = zeros-at net l within in
      let long = tally-long net packets counts one in
      let now : slice_index after l ≡ (slice_index counts l + slice_index other l) % 2 ^ 64 = adds.each l (omega (arith, within, long)) in
      now ∙ (ap (λ (n : ℕ). (n + slice_index other l) % 2 ^ 64) a
      ∙ (mod-add-mod (all_crossings l one.runs) (2 ^ 64) (slice_index other l)
      ∙ (ap (λ (n : ℕ). (all_crossings l one.runs + n) % 2 ^ 64) b
      ∙ (add-mod-mod (all_crossings l one.runs) (all_crossings l two.runs) (2 ^ 64)
      ∙ (ap (λ (n : ℕ). n % 2 ^ 64) (sym (all_crossings-append l one.runs two.runs))
      ∙ (ap (λ (n : ℕ). n % 2 ^ 64) (sym (from-none (all_crossings l (one.runs ++ two.runs))))
      ∙ ap (λ (n : ℕ). (n + all_crossings l (one.runs ++ two.runs)) % 2 ^ 64) (sym none)))))));
}

-- whether y is x
abbrev pub mark : ℕ → ℕ → ℕ
mark x y = cond (y == x) 1 0

pub mark-same : (x : ℕ) → mark x x ≡ 1
mark-same x = by (x == x) refl
  where
    by : (b : Bool) → (x == x) ≡ b → mark x x ≡ 1
    by true e = ap (λ (b : Bool). cond b 1 0) e
    by false e = absurd (eqb-false x x e refl)

-- of the other counts those of the links below n are added
pub record IsAddedBelow (other before after : List ℕ) (n : ℕ) : Type 0 where
  pub long : length after ≡ length before
  pub added : (l : ℕ) → l < n → slice_index after l ≡ (slice_index before l + slice_index other l) % 2 ^ 64
  pub kept : (l : ℕ) → n ≤ l → slice_index after l ≡ slice_index before l

pub added-none : (other before : List ℕ) → IsAddedBelow other before before 0
added-none other before = record { long = refl; added = λ l lt. absurd (omega arith); kept = λ l le. refl }

-- one link more
pub added-more : (other before counts : List ℕ) (n x : ℕ) → IsAddedBelow other before counts n → n < length counts → x ≡ (slice_index counts n + slice_index other n) % 2 ^ 64 → IsAddedBelow other before (set counts n x) (n + 1)
added-more other before counts n x is lt at = record {
  long = length-set counts n x ∙ is.long;
  added = λ l below. ⊎_elim
      (λ (here : l ≡ n). subst (λ (k : ℕ). slice_index (set counts n x) k ≡ (slice_index before k + slice_index other k) % 2 ^ 64) (sym here)
      (get_or-set_same counts n x 0 lt ∙ at ∙ ap (λ (k : ℕ). (k + slice_index other n) % 2 ^ 64) (is.kept n (omega arith))))
      (λ (o : (l < n) ⊎ (n < l)). ⊎_elim
      (λ (less : l < n). get_or-set_other counts n l x 0 (omega arith) ∙ is.added l less)
      (λ (more : n < l). absurd (omega arith))
      o)
      (cases_order l n);
  kept = λ l le. get_or-set_other counts n l x 0 (omega arith) ∙ is.kept l (omega arith);
}

pub added-all : (other before after : List ℕ) (n : ℕ) → n ≡ length before → IsAddedBelow other before after n → AddsCounts other before after
added-all other before after n all is = record { long = is.long; each = λ l lt. is.added l (omega arith) }

-- one link crossed
pub adds-crossing : (before : List ℕ) (k x : ℕ) → k < length before → x ≡ (slice_index before k + 1) % 2 ^ 64 → AddsRun (k ∷ []) before (set before k x)
adds-crossing before k x lt at = record {
  long = length-set before k x;
  each = λ l within fits. ⊎_elim
      (λ (here : l ≡ k).
      let m : mark k k ≡ 1 = mark-same k in
      let n : mark l k ≡ mark k k = ap (λ (j : ℕ). mark j k) here in
      let one : crossings l (k ∷ []) ≡ 1 = omega (arith, m, n) in
      ap (λ (j : ℕ). slice_index (set before k x) j) here ∙ get_or-set_same before k x 0 lt ∙ at
      ∙ ap (λ (j : ℕ). (slice_index before j + 1) % 2 ^ 64) (sym here) ∙ ap (λ (j : ℕ). (slice_index before l + j) % 2 ^ 64) (sym one))
      (λ (o : (l < k) ⊎ (k < l)).
      let none : crossings l (k ∷ []) ≡ 0 = let m : mark l k ≡ 0 = mark-other l k (⊎_elim (λ (a : l < k). λ (e : k ≡ l). omega arith) (λ (b : k < l). λ (e : k ≡ l). omega arith) o) in omega arith in
      let sum : slice_index before l ≡ slice_index before l + crossings l (k ∷ []) = omega arith in
      get_or-set_other before k l x 0 (⊎_elim (λ (a : l < k). omega arith) (λ (b : k < l). omega arith) o) ∙ sym (mod-eq_of_lt fits) ∙ ap (λ (j : ℕ). j % 2 ^ 64) sum)
      (cases_order l k);
} where
  mark-other : (l k : ℕ) → (k ≡ l → ⊥) → mark l k ≡ 0
  mark-other l k apart = by (k == l) refl
    where
      by : (b : Bool) → (k == l) ≡ b → mark l k ≡ 0
      by true e = absurd (apart (eqb-true k l e))
      by false e = ap (λ (b : Bool). cond b 1 0) e
