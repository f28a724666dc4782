-- How many searches are made: at most those that what stays allows.
use Rattle.std.proofs.Common.{◌≡◌, ℕ, zero, suc, ◌+◌, ◌<◌, ◌≤◌, ◌-◌, Bool, true, false, not, cond, List, [], ◌∷◌, map, length, replicate, get_or, refl, arith, ap, sym, ◌∙◌, Option, Some, ⊎_elim}
use Rattle.std.proofs.lemmas.Bool.{cases_lt}
use Rattle.std.proofs.lemmas.List.{get_or-map, length-map, length-replicate, get_or-replicate, get_or_past}
use Rattle.std.proofs.lemmas.List.Sums.{sum_by-cons}
use Rattle.sr_model.specs.declared.case.Case.{Case}
use Rattle.sr_model.specs.Audit.{rank_of}
use Rattle.sr_model.specs.Graph.{Graph, node_count, has, is_overloaded}
use Rattle.sr_model.specs.Case.{IsCase}
use Rattle.sr_model.specs.Label.{Net}
use Rattle.sr_model.specs.Stay.{HaveSameNodes}
use Rattle.sr_laws.specs.Listed.{HaveSameLists}
use Rattle.sr_spf.specs.Renewed.{fallen}
use Rattle.sr_delta.specs.KeptTrees.{AreKeptTrees}
use Rattle.sr_repair.specs.declared.passes.Passed.{Passed}
use Rattle.sr_repair.specs.declared.passes.Passed.TheVariants.{Nothing, AsLink, Stays, Told, Listed}
use Rattle.sr_repair.specs.Answers.{case_count, slot_of, AreAllPassed, IsPassed, searches_of, pass_searches}
use Rattle.sr_repair.specs.Spared.{Passage, IsSpared}
use Rattle.sr_repair.specs.Work.{how_many, IsWithinTrees, IsWithinCases, IsWithinWork}
use Rattle.sr_repair.proofs.KeptLemmas.{rank-small}

many-cons : (b : Bool) (tests : List Bool) → how_many (b ∷ tests) ≡ cond b 1 0 + how_many tests
many-cons b tests = sum_by-cons (λ (x : Bool). cond x 1 0) b tests

cond-most : (b : Bool) → cond b 1 0 ≤ 1
cond-most true = omega arith
cond-most false = omega arith

many-most : (tests : List Bool) → how_many tests ≤ length tests
many-most [] = omega arith
many-most (b ∷ tests) = let first = cond-most b in let rest = many-most tests in omega (arith, first, rest, many-cons b tests)

many-all : (k : ℕ) → how_many (replicate k true) ≡ k
many-all zero = refl
many-all (suc k) = let rest = many-all k in many-cons true (replicate k true) ∙ omega (arith, rest)

-- a test that holds is one of the list
has-within : (tests : List Bool) (i : ℕ) → has tests i ≡ true → i < length tests
has-within tests i is =
    ⊎_elim (λ lt. lt)
    (λ ge. absurd (let bad : false ≡ true = sym (get_or_past tests i false ge) ∙ is in cc))
    (cases_lt i (length tests))

-- the pass made a search
abbrev is_listed : Passed → Bool
is_listed Nothing = false
is_listed AsLink = false
is_listed (Stays known) = false
is_listed (Told solved) = false
is_listed (Listed solved search) = true

listed-one : (one : Passed) → searches_of one ≡ cond (is_listed one) 1 0
listed-one Nothing = refl
listed-one AsLink = refl
listed-one (Stays known) = refl
listed-one (Told solved) = refl
listed-one (Listed solved search) = refl

searches-are : (passed : List Passed) → pass_searches passed ≡ how_many (map is_listed passed)
searches-are [] = refl
searches-are (one ∷ rest) = omega (arith, listed-one one, searches-are rest, many-cons (is_listed one) (map is_listed rest))

listed-searched : (former : Option Passage) (n : Net) (case : Case) (one : Passed) → IsPassed former n case one → is_listed one ≡ true → IsSpared former case → ⊥
listed-searched former n case Nothing is listed spared = absurd (let bad : false ≡ true = listed in cc)
listed-searched former n case AsLink is listed spared = absurd (let bad : false ≡ true = listed in cc)
listed-searched former n case (Stays known) is listed spared = absurd (let bad : false ≡ true = listed in cc)
listed-searched former n case (Told solved) is listed spared = absurd (let bad : false ≡ true = listed in cc)
listed-searched former n case (Listed solved search) is listed spared = is.1 spared

slot-within : (n : Net) (case : Case) → IsCase n.graph case → slot_of case < case_count n.graph
slot-within n case within = let small : rank_of case.kind < 3 = rank-small case.kind in omega (arith, small, within)

-- the passes over all cases make searches for cases alone that aren't spared
pub within-passed : (former : Option Passage) (n : Net) (passed : List Passed) (w : ℕ) → AreAllPassed former n (case_count n.graph) passed → w ≤ pass_searches passed → IsWithinCases former n w
within-passed former n passed w r most = record {
  cases = map is_listed passed;
  long = length-map passed is_listed ∙ r.long;
  each = λ case within is.
      listed-searched former n case (get_or passed (slot_of case) Nothing) (r.each case within (slot-within n case within))
      (sym (get_or-map is_listed passed (slot_of case) Nothing false (let lt = slot-within n case within in omega (arith, lt, r.long))) ∙ is);
  most = omega (arith, most, searches-are passed);
}

-- no search is within any bound
pub within-none : (former : Option Passage) (n : Net) → IsWithinCases former n 0
within-none former n = record {
  cases = replicate (case_count n.graph) false;
  long = length-replicate (case_count n.graph) false;
  each = λ case within is spared.
      absurd (let bad : false ≡ true = sym (get_or-replicate (case_count n.graph) (slot_of case) false false (slot-within n case within)) ∙ is in cc);
  most = omega arith;
}

-- at most one search is made for each case
pub within-most : (former : Option Passage) (n : Net) (w : ℕ) → IsWithinCases former n w → w ≤ case_count n.graph
within-most former n w r = omega (arith, r.most, many-most r.cases, r.long)

fallen-are : (kept : List Bool) → fallen kept ≡ how_many (map not kept)
fallen-are [] = refl
fallen-are (b ∷ kept) = omega (arith, sum_by-cons (λ (x : Bool). cond (not x) 1 0) b kept, fallen-are kept, many-cons (not b) (map not kept))

not-true : (b : Bool) → not b ≡ true → b ≡ true → ⊥
not-true true is kept = absurd (let bad : false ≡ true = is in cc)
not-true false is kept = absurd (let bad : false ≡ true = kept in cc)

-- the searches for the trees that don't stay are within the bound
pub within-trees : (n m : Net) (kept : List Bool) (w : ℕ) → node_count m.graph ≡ node_count n.graph → AreKeptTrees n m kept → w ≤ fallen kept → IsWithinTrees n m w
within-trees n m kept w nodes r most = record {
  nodes = map not kept;
  long = length-map kept not ∙ r.long ∙ sym nodes;
  each = λ u is stays.
      let inside : u < length (map not kept) = has-within (map not kept) u is in
      let lt : u < length kept = omega (arith, inside, length-map kept not) in
      not-true (has kept u) (sym (get_or-map not kept u false false lt) ∙ is) ((r.each u (omega (arith, lt, r.long))).1 stays);
  most = omega (arith, most, fallen-are kept);
}

all-trees : (n m : Net) → (HaveSameNodes n.graph m.graph → ⊥) → (w : ℕ) → w ≤ node_count m.graph → IsWithinTrees n m w
all-trees n m differ w most = record {
  nodes = replicate (node_count m.graph) true;
  long = length-replicate (node_count m.graph) true;
  each = λ u is stays. differ stays.nodes;
  most = omega (arith, most, many-all (node_count m.graph));
}

all-cases : (n m : Net) → (HaveSameNodes n.graph m.graph → ⊥) → (w : ℕ) → w ≤ case_count m.graph → IsWithinCases (Some (record { old = n; new = m })) m w
all-cases n m differ w most = record {
  cases = replicate (case_count m.graph) true;
  long = length-replicate (case_count m.graph) true;
  each = λ case within is spared. differ spared.steady.nodes;
  most = omega (arith, most, many-all (case_count m.graph));
}

-- where the same is listed in both nets, they have the same nodes
listed-nodes : (n m : Net) → HaveSameLists n m → HaveSameNodes n.graph m.graph
listed-nodes n m lists = record {
  systems = ap (λ (g : Graph). g.systems) lists.graph;
  overloaded = λ v lt. ap (λ (g : Graph). is_overloaded g v) (sym lists.graph);
}

-- where the nodes differ, a search for each node and each case is within the bound
pub within-anew : (n m : Net) → (HaveSameNodes n.graph m.graph → ⊥) → (w : ℕ) → w ≤ node_count m.graph + case_count m.graph → IsWithinWork n m w
within-anew n m differ w most =
    ⊎_elim
    (λ few. record {
      trees = w;
      cases = 0;
      sum = omega arith;
      nodes = all-trees n m differ w (omega arith);
      slots = all-cases n m differ 0 (omega arith);
      same = λ lists. absurd (differ (listed-nodes n m lists));
    })
    (λ many. record {
      trees = node_count m.graph;
      cases = w - node_count m.graph;
      sum = omega arith;
      nodes = all-trees n m differ (node_count m.graph) (omega arith);
      slots = all-cases n m differ (w - node_count m.graph) (omega arith);
      same = λ lists. absurd (differ (listed-nodes n m lists));
    })
    (cases_lt w (node_count m.graph))

trees-none : (n m : Net) → IsWithinTrees n m 0
trees-none n m = record {
  nodes = replicate (node_count m.graph) false;
  long = length-replicate (node_count m.graph) false;
  each = λ u is stays.
      let inside : u < length (replicate (node_count m.graph) false) = has-within (replicate (node_count m.graph) false) u is in
      let lt : u < node_count m.graph = omega (arith, inside, length-replicate (node_count m.graph) false) in
      absurd (let bad : false ≡ true = sym (get_or-replicate (node_count m.graph) u false false lt) ∙ is in cc);
  most = omega arith;
}

-- what is within the bounds for trees and for cases is together within the bound, where not the same is listed
pub work-of : (n m : Net) → (HaveSameLists n m → ⊥) → (w t k : ℕ) → w ≡ t + k → IsWithinTrees n m t → IsWithinCases (Some (record { old = n; new = m })) m k → IsWithinWork n m w
work-of n m differ w t k sum trees cases = record {
  trees = t;
  cases = k;
  sum = sum;
  nodes = trees;
  slots = cases;
  same = λ lists. absurd (differ lists);
}

-- no search is within the bound
pub work-none : (n m : Net) → IsWithinWork n m 0
work-none n m = record {
  trees = 0;
  cases = 0;
  sum = omega arith;
  nodes = trees-none n m;
  slots = within-none (Some (record { old = n; new = m })) m;
  same = λ lists. refl;
}
