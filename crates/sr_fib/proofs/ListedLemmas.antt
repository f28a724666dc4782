-- Lists of those of a run of numbers that have something.
use Rattle.std.proofs.Common.{◌≡◌, ◌≢◌, ℕ, ◌+◌, ◌<◌, ◌≤◌, ⊎_elim, List, [], ◌∷◌, ◌++◌, length, get_or, refl, arith, ap, sym, ◌∙◌, subst, Option, Some, None}
use Rattle.std.proofs.lemmas.Bool.{cases_eq}
use Rattle.std.proofs.lemmas.List.{length_push, get_or_push, get_or_append_left}
use Rattle.std.specs.List.Sorted.{IsPermutation}
use Rattle.std.proofs.lemmas.List.Sorted.{IsPermutation-sym}
use Rattle.sr_model.specs.Graph.{node_count, link_count, tail}
use Rattle.sr_model.specs.Label.{Net, labels_at, adj_at}
use Rattle.sr_model.specs.Rule.{IsNet}
use Rattle.sr_graph.specs.Ranges.{HoldsLinks}
use Rattle.sr_labels.proofs.Places.{stands-moved}
use Rattle.sr_fib.specs.declared.sorted.IndexedNode.{IndexedNode}
use Rattle.sr_fib.specs.declared.sorted.LabelledLink.{LabelledLink}
use Rattle.sr_fib.specs.Sorted.{node_entry, link_entry, HaveOwnIndices, HaveOwnLabels}
use Rattle.sr_fib.specs.Tables.{AreIndices, AreAdjacencies}

-- the list has the numbers from `first` to below m that have a value, with it, ascending
pub record AreListed {X : Type 0} (default : X) (number value : X → ℕ) (has : ℕ → Option ℕ) (list : List X) (first m : ℕ) : Type 0 where
  pub each : (i : ℕ) → i < length list → (first ≤ number (get_or list i default)) × (number (get_or list i default) < m) × (has (number (get_or list i default)) ≡ Some (value (get_or list i default)))
  pub ascending : (i j : ℕ) → i < j → j < length list → number (get_or list i default) < number (get_or list j default)
  pub all : (v t : ℕ) → first ≤ v → v < m → has v ≡ Some t → (i : ℕ) × (i < length list) × (number (get_or list i default) ≡ v)

module _ {X : Type 0} (default : X) (number value : X → ℕ) (has : ℕ → Option ℕ) where
  pub listed-none : (first : ℕ) → AreListed default number value has [] first first
  listed-none first = record {
    each = λ i lt. absurd (omega arith);
    ascending = λ i j lt within. absurd (omega arith);
    all = λ v t from below is. absurd (omega arith);
  }

  -- number m has no value
  pub listed-skip : (list : List X) (first m : ℕ) → has m ≡ None → AreListed default number value has list first m → AreListed default number value has list first (m + 1)
  listed-skip list first m none h = record {
    each = λ i lt. let e = h.each i lt in (e.0, (let b : number (get_or list i default) < m = e.1 in omega arith), e.2);
    ascending = h.ascending;
    all = λ v t from below is. ⊎_elim
        (λ (same : v ≡ m). absurd {0} (let bad : None ≡ Some t = sym none ∙ sym (ap has same) ∙ is in cc))
        (λ (ne : v ≢ m). h.all v t from (omega arith) is)
        (cases_eq v m);
  }

  -- number m has one
  pub listed-push : (list : List X) (first m : ℕ) (x : X) → first ≤ m → number x ≡ m → has m ≡ Some (value x) → AreListed default number value has list first m → AreListed default number value has (list ++ x ∷ []) first (m + 1)
  listed-push list first m x from is some h =
      let long : length (list ++ x ∷ []) ≡ length list + 1 = length_push list x in
      let new : get_or (list ++ x ∷ []) (length list) default ≡ x = get_or_push list x default (length list) refl in
      let Each : X → Type 0 = λ a. (first ≤ number a) × (number a < m + 1) × (has (number a) ≡ Some (value a)) in
      record {
        each = λ i lt. ⊎_elim
            (λ (last : i ≡ length list).
            let here : Each x = (omega (arith, is), omega (arith, is), ap has is ∙ some) in
            subst Each (sym (ap (λ k. get_or (list ++ x ∷ []) k default) last ∙ new)) here)
            (λ (ne : i ≢ length list).
            let old : i < length list = omega arith in
            let e = h.each i old in
            let b : number (get_or list i default) < m = e.1 in
            subst Each (sym (get_or_append_left list (x ∷ []) default i old)) (e.0, omega arith, e.2))
            (cases_eq i (length list));
        ascending = λ i j lt within.
            let oi : i < length list = omega arith in
            let ei : number (get_or (list ++ x ∷ []) i default) ≡ number (get_or list i default) = ap number (get_or_append_left list (x ∷ []) default i oi) in
            ⊎_elim
            (λ (last : j ≡ length list).
            let ej : number (get_or (list ++ x ∷ []) j default) ≡ m = ap (λ k. number (get_or (list ++ x ∷ []) k default)) last ∙ ap number new ∙ is in
            let low : number (get_or list i default) < m = (h.each i oi).1 in
            omega arith)
            (λ (ne : j ≢ length list).
            let oj : j < length list = omega arith in
            let ej : number (get_or (list ++ x ∷ []) j default) ≡ number (get_or list j default) = ap number (get_or_append_left list (x ∷ []) default j oj) in
            let low : number (get_or list i default) < number (get_or list j default) = h.ascending i j lt oj in
            omega arith)
            (cases_eq j (length list));
        all = λ v t le below is'. ⊎_elim
            (λ (same : v ≡ m). (length list, omega arith, ap number new ∙ is ∙ sym same))
            (λ (ne : v ≢ m).
            let at = h.all v t le (omega arith) is' in
            let w : at.0 < length list = at.1 in
            (at.0, omega arith, ap number (get_or_append_left list (x ∷ []) default at.0 w) ∙ at.2))
            (cases_eq v m);
      }

  -- numbers with one value are one, so no two entries have one value
  pub listed-own : (list : List X) (first m : ℕ) → AreListed default number value has list first m → ((v w t : ℕ) → first ≤ v → v < m → first ≤ w → w < m → has v ≡ Some t → has w ≡ Some t → v ≡ w) → (i j : ℕ) → i < j → j < length list → value (get_or list i default) ≢ value (get_or list j default)
  listed-own list first m h one i j lt within same =
      let a = h.each i (omega arith) in
      let b = h.each j within in
      let up : number (get_or list i default) < number (get_or list j default) = h.ascending i j lt within in
      let e : number (get_or list i default) ≡ number (get_or list j default) = one (number (get_or list i default)) (number (get_or list j default)) (value (get_or list j default)) a.0 a.1 b.0 b.1 (a.2 ∙ ap (λ k. Some k) same) b.2 in
      omega arith

-- ---- nodes with an index
abbrev pub number_of : IndexedNode → ℕ
number_of entry = entry.node.0

abbrev pub index_of : IndexedNode → ℕ
index_of entry = entry.index

-- the list has the nodes below m that have an index, in order of node
abbrev pub AreIndexed : Net → List IndexedNode → ℕ → Type 0
AreIndexed n list m = AreListed (node_entry [] 0) number_of index_of (λ v. (labels_at n v).index) list 0 m

pub indices-listed : (n : Net) (list : List IndexedNode) (m : ℕ) → m ≡ node_count n.graph → AreIndexed n list m → AreIndices n list
indices-listed n list m end h = record {
  each = λ i lt. let e = h.each i lt in ((let b : (node_entry list i).node.0 < m = e.1 in omega arith), e.2);
  all = λ v index at is. h.all v index (omega arith) (omega arith) is;
}

pub indices-own : (n : Net) → IsNet n → (list : List IndexedNode) (m : ℕ) → m ≡ node_count n.graph → AreIndexed n list m → HaveOwnIndices list
indices-own n r list m end h = listed-own (node_entry [] 0) number_of index_of (λ v. (labels_at n v).index) list 0 m h (λ v w t fv bv fw bw ev ew. r.own_index v w t (omega arith) (omega arith) ev ew)

-- in another order they are the same nodes
pub indices-moved : (n : Net) (xs ys : List IndexedNode) → IsPermutation xs ys → AreIndices n xs → AreIndices n ys
indices-moved n xs ys p h =
    let P : IndexedNode → Type 0 = λ e. (e.node.0 < node_count n.graph) × ((labels_at n e.node.0).index ≡ Some e.index) in
    record {
      each = λ i lt. let m = stands-moved (node_entry [] 0) ys xs (IsPermutation-sym xs ys p) i lt in subst P m.2 (h.each m.0 m.1);
      all = λ v index at is.
          let a = h.all v index at is in
          let m = stands-moved (node_entry [] 0) xs ys p a.0 a.1 in
          (m.0, m.1, ap number_of m.2 ∙ a.2);
    }

-- ---- links with an adjacency label
abbrev pub link_number : LabelledLink → ℕ
link_number entry = entry.link.0

abbrev pub label_of_link : LabelledLink → ℕ
label_of_link entry = entry.label

-- the list has the links from `first` to below m that have a label, in order of link
abbrev pub AreLabelled : Net → List LabelledLink → ℕ → ℕ → Type 0
AreLabelled n list first m = AreListed (link_entry [] 0) link_number label_of_link (adj_at n) list first m

pub adjacencies-listed : (n : Net) (u first end m : ℕ) (list : List LabelledLink) → HoldsLinks n.graph u first end → m ≡ end → AreLabelled n list first m → AreAdjacencies n u list
adjacencies-listed n u first end m list holds is h = record {
  each = λ i lt.
      let e = h.each i lt in
      let b : (link_entry list i).link.0 < m = e.1 in
      let inside : end ≤ link_count n.graph = holds.inside in
      (omega arith, holds.from (link_entry list i).link.0 e.0 (omega arith), e.2);
  all = λ l label within begins has. let at = holds.to l within begins in h.all l label at.0 (let b : l < end = at.1 in omega arith) has;
}

pub adjacencies-own : (n : Net) → IsNet n → (u first end m : ℕ) (list : List LabelledLink) → HoldsLinks n.graph u first end → m ≡ end → AreLabelled n list first m → HaveOwnLabels list
adjacencies-own n r u first end m list holds is h =
    let inside : end ≤ link_count n.graph = holds.inside in
    listed-own (link_entry [] 0) link_number label_of_link (adj_at n) list first m h (λ v w t fv bv fw bw ev ew. r.adj_one v w t (omega arith) (omega arith) (holds.from v fv (omega arith) ∙ sym (holds.from w fw (omega arith))) ev ew)

-- in another order they are the same links
pub adjacencies-moved : (n : Net) (u : ℕ) (xs ys : List LabelledLink) → IsPermutation xs ys → AreAdjacencies n u xs → AreAdjacencies n u ys
adjacencies-moved n u xs ys p h =
    let P : LabelledLink → Type 0 = λ e. (e.link.0 < link_count n.graph) × (tail n.graph e.link.0 ≡ u) × (adj_at n e.link.0 ≡ Some e.label) in
    record {
      each = λ i lt. let m = stands-moved (link_entry [] 0) ys xs (IsPermutation-sym xs ys p) i lt in subst P m.2 (h.each m.0 m.1);
      all = λ l label at begins is.
          let a = h.all l label at begins is in
          let m = stands-moved (link_entry [] 0) xs ys p a.0 a.1 in
          (m.0, m.1, ap link_number m.2 ∙ a.2);
    }
