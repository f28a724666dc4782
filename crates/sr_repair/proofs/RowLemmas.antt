-- How the distances that a case leaves are kept, and read again.
use Rattle.std.proofs.Common.{◌≡◌, ◌≢◌, ℕ, ◌+◌, ◌-◌, ◌*◌, ◌<◌, ◌≤◌, ⊎_elim, inl, inr, Bool, true, false, not, ◌==◌, List, [], ◌∷◌, ◌++◌, length, refl, arith, ap, sym, suc, take, ◌∙◌, subst}
use Rattle.std.specs.Prelude.{if◌then◌else◌, nat_lt, slice_index, slice_set, slice_index_or}
use Rattle.std.proofs.lemmas.Bool.{cases_eq, cases_lt, cases_Bool, eqb-true, lt-ltb, ltb-true, and_parts, and_from, true≢false}
use Rattle.std.proofs.lemmas.List.{length-set, get_or-set_same, get_or-set_other, ext_get_or}
use Rattle.std.proofs.Math.Seq.{take-suc}
use Rattle.std.proofs.lemmas.List.Elements.{All-nil, All-append, All-cons}
use Rattle.sr_lanes.specs.declared.words.NodeBits.{NodeBits}
use Rattle.sr_lanes.specs.Bits.{is_in, IsWithout}
use Rattle.sr_lanes.specs.Passes.{differs}
use Rattle.sr_lanes.proofs.SizeLemmas.{apart_test, without-inside, without-other}
use Rattle.sr_model.specs.declared.link.TheConstants.{FAR, MOST_METRIC, MOST_NODES}
use Rattle.sr_model.specs.Graph.{Graph, IsGraph, node_count}
use Rattle.sr_model.specs.Walk.{IsCell, IsRow}
use Rattle.sr_walks.proofs.Distinct.{distance-small}
use Rattle.sr_repair.specs.declared.row.TheConstants.{NO_WALK}
use Rattle.sr_repair.specs.declared.row.ChangedCell.{ChangedCell}
use Rattle.sr_repair.specs.Rows.{LieInRow, AreNarrowCells, IsNarrowCell, narrowed, widened, overwritten}

-- what stands in 32 bits is read as it was
pub widened-narrowed : (cell : ℕ) → IsNarrowCell cell → widened (narrowed cell) ≡ cell
widened-narrowed cell narrow =
    ⊎_elim
    (λ (small : cell < NO_WALK).
    let near : nat_lt cell FAR ≡ true = lt-ltb cell FAR (omega (arith, small)) in
    let apart : (cell == NO_WALK) ≡ false = apart_test cell NO_WALK (λ same. absurd (omega (arith, small, same))) in
    ap (λ (b : Bool). widened (if b then cell else NO_WALK)) near ∙ ap (λ (b : Bool). if b then FAR else cell) apart)
    (λ (far : cell ≡ FAR). ap (λ c. widened (narrowed c)) far ∙ sym far)
    narrow

-- one changed cell more is written over the others
pub overwritten-push : (row : List ℕ) (changed : List ChangedCell) (last : ChangedCell)
    → overwritten row (changed ++ last ∷ []) ≡ slice_set (overwritten row changed) last.node.0 (widened last.cost)
unfolding overwritten
overwritten-push row [] last = refl
overwritten-push row (first ∷ more) last = overwritten-push (slice_set row first.node.0 (widened first.cost)) more last

-- no cell is added
pub length-overwritten : (row : List ℕ) (changed : List ChangedCell) → length (overwritten row changed) ≡ length row
unfolding overwritten
length-overwritten row [] = refl
length-overwritten row (first ∷ more) =
    length-overwritten (slice_set row first.node.0 (widened first.cost)) more ∙ length-set row first.node.0 (widened first.cost)

-- but for the nodes that are left, the base with the changed cells so far written over it gives the cells
pub record IsWriting (base cells : List ℕ) (left : NodeBits) (changed : List ChangedCell) : Type 0 where
  pub long : length cells ≡ length base
  pub within : (v : ℕ) → is_in left v ≡ true → v < length base
  pub inside : LieInRow base changed
  pub same : (v : ℕ) → v < length base → is_in left v ≡ false
      → slice_index (overwritten base changed) v ≡ slice_index cells v

-- at first those are left at which the two differ
pub writing-start : (base cells : List ℕ) (left : NodeBits) → length cells ≡ length base
    → ((v : ℕ) → is_in left v ≡ differs base cells v) → IsWriting base cells left []
unfolding overwritten
writing-start base cells left long these = record {
  long = long;
  within = λ v yes. ltb-true v (length base) (and_parts (nat_lt v (length base)) (not (slice_index base v == slice_index cells v)) (sym (these v) ∙ yes)).0;
  inside = All-nil _;
  same = λ v lt no. ⊎_elim
      (λ (equal : (slice_index base v == slice_index cells v) ≡ true). eqb-true (slice_index base v) (slice_index cells v) equal)
      (λ apart. absurd (true≢false (sym (these v ∙ and_from (nat_lt v (length base)) (not (slice_index base v == slice_index cells v)) (lt-ltb v (length base) lt) (ap not apart)) ∙ no)))
      (cases_Bool (slice_index base v == slice_index cells v));
}

-- one is left less, once its cell is changed
pub writing-next : (base cells : List ℕ) (left less : NodeBits) (changed : List ChangedCell) (last : ChangedCell)
    → IsWriting base cells left changed → is_in left last.node.0 ≡ true → IsWithout left less last.node.0
    → widened last.cost ≡ slice_index cells last.node.0 → IsWriting base cells less (changed ++ last ∷ [])
writing-next base cells left less changed last r one without is = record {
  long = r.long;
  within = λ v yes. r.within v (without-inside left less last.node.0 v without yes).1;
  inside = All-append (λ (c : ChangedCell). c.node.0 < length base) changed (last ∷ []) r.inside (All-cons (λ (c : ChangedCell). c.node.0 < length base) last [] (r.within last.node.0 one) (All-nil (λ (c : ChangedCell). c.node.0 < length base)));
  same = λ v lt no. ap (λ row. slice_index row v) (overwritten-push base changed last) ∙ ⊎_elim
      (λ (here : v ≡ last.node.0).
      let short : v < length (overwritten base changed) = omega (arith, length-overwritten base changed) in
      subst (λ k. slice_index (slice_set (overwritten base changed) k (widened last.cost)) v ≡ slice_index cells v) here
      (get_or-set_same (overwritten base changed) v (widened last.cost) 0 short ∙ is ∙ ap (slice_index cells) (sym here)))
      (λ (ne : v ≢ last.node.0).
      get_or-set_other (overwritten base changed) last.node.0 v (widened last.cost) 0 ne
      ∙ r.same v lt (sym (without-other left less last.node.0 v without ne) ∙ no))
      (cases_eq v last.node.0);
}

-- where none is left, they give the cells
pub writing-end : (base cells : List ℕ) (left : NodeBits) (changed : List ChangedCell) → IsWriting base cells left changed
    → ((v : ℕ) → is_in left v ≡ false) → overwritten base changed ≡ cells
writing-end base cells left changed r none =
    ext_get_or 0 (overwritten base changed) cells (length-overwritten base changed ∙ sym r.long)
    (λ v lt. r.same v (omega (arith, length-overwritten base changed)) (none v))

-- one changed cell more of the list is written over the others
pub overwritten-one : (row : List ℕ) (changed : List ChangedCell) (at : ℕ) (none : ChangedCell) → at < length changed
    → slice_set (overwritten row (take at changed)) (slice_index_or changed at none).node.0 (widened (slice_index_or changed at none).cost)
    ≡ overwritten row (take (at + 1) changed)
overwritten-one row changed at none lt =
    let next : at + 1 ≡ suc at = omega arith in
    sym (ap (λ k. overwritten row (take k changed)) next ∙ ap (overwritten row) (take-suc changed at none lt) ∙ overwritten-push row (take at changed) (slice_index_or changed at none))

-- the distances from a node have places among 32 bits
pub row-narrow : (g : Graph) (x : List Bool) (u : ℕ) (cells : List ℕ) → IsGraph g → u < node_count g → IsRow g x u cells
    → AreNarrowCells cells
row-narrow g x u cells graph within row v lt =
    let cell : IsCell g x u v (slice_index cells v) = row.each v (omega (arith, lt, row.long)) in
    ⊎_elim
    (λ (near : slice_index cells v < FAR).
    let small : slice_index cells v ≤ (MOST_NODES - 1) * MOST_METRIC = distance-small g graph x u v (slice_index cells v) within (cell.near near) in
    inl (omega (arith, small)))
    (λ (far : FAR ≤ slice_index cells v). inr (omega (arith, far, cell.top)))
    (cases_lt (slice_index cells v) FAR)
