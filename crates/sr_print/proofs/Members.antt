-- The nodes of a set, and lines of numbers, one by one.
use Rattle.std.proofs.Common.{◌≡◌, ℕ, zero, suc, ◌+◌, Bool, true, false, cond, List, [], ◌∷◌, ◌++◌, refl, arith, ap, sym, ◌∙◌, append-nil}
use Rattle.std.specs.List.{filter, flat_map, range_with_len}
use Rattle.std.proofs.lemmas.List.Elements.{filter-append}
use Rattle.std.proofs.lemmas.Grind.{flat_map-append}
use Rattle.sr_model.specs.Graph.{Graph, system_at, has}
use Rattle.sr_print.specs.Printed.{node_word}
use Rattle.sr_print.specs.Spaces.{node_words}

range-more : (a n : ℕ) → range_with_len a (suc n) ≡ range_with_len a n ++ (a + n) ∷ []
range-more a zero = ap (λ k. k ∷ []) (omega arith)
range-more a (suc n) =
    let next : a + 1 + n ≡ a + suc n = omega arith in
    ap (λ ks. a ∷ ks) (range-more (a + 1) n ∙ ap (λ k. range_with_len (a + 1) n ++ k ∷ []) next)

range-next : (n : ℕ) → range_with_len 0 (n + 1) ≡ range_with_len 0 n ++ n ∷ []
range-next n =
    let next : n + 1 ≡ suc n = omega arith in
    let same : 0 + n ≡ n = omega arith in
    ap (range_with_len 0) next ∙ range-more 0 n ∙ ap (λ k. range_with_len 0 n ++ k ∷ []) same

-- a word for one node
words-one : (g : Graph) (b : Bool) (v : ℕ) → node_words g (cond b (v ∷ []) []) ≡ cond b (node_word (system_at g v)) []
words-one g true v = append-nil (node_word (system_at g v))
words-one g false v = refl

pub members-more : (g : Graph) (set : List Bool) (v : ℕ) → node_words g (filter (has set) (range_with_len 0 v)) ++ cond (has set v) (node_word (system_at g v)) [] ≡ node_words g (filter (has set) (range_with_len 0 (v + 1)))
members-more g set v =
    let word = λ (u : ℕ). node_word (system_at g u) in
    let before = filter (has set) (range_with_len 0 v) in
    let more : filter (has set) (range_with_len 0 (v + 1)) ≡ before ++ cond (has set v) (v ∷ []) [] = ap (filter (has set)) (range-next v) ∙ filter-append (has set) (range_with_len 0 v) (v ∷ []) in
    sym (ap (flat_map word) more ∙ flat_map-append word before (cond (has set v) (v ∷ []) []) ∙ ap (λ t. flat_map word before ++ t) (words-one g (has set v) v))

-- one number more has one line more
pub lines-more : (line : ℕ → List ℕ) (k : ℕ) → flat_map line (range_with_len 0 k) ++ line k ≡ flat_map line (range_with_len 0 (k + 1))
lines-more line k =
    let before = flat_map line (range_with_len 0 k) in
    sym (ap (flat_map line) (range-next k) ∙ flat_map-append line (range_with_len 0 k) (k ∷ []) ∙ ap (λ t. before ++ t) (append-nil (line k)))
