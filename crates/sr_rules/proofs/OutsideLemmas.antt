-- The least index outside the ranges of a node: the fewest labels, and the least index that is at least so much.
use Rattle.std.proofs.Common.{◌≡◌, ℕ, ◌+◌, ◌-◌, ◌^◌, ◌<◌, ◌≤◌, inl, inr, ⊎_elim, List, map, length, get_or, refl, arith, ap, sym, ◌∙◌, subst, Option, Some, None}
use Rattle.std.specs.Prelude.{slice_get, min}
use Rattle.std.proofs.lemmas.Bool.{cases_lt}
use Rattle.std.proofs.lemmas.Bool.Decides.{nat_tests}
use Rattle.std.proofs.lemmas.List.{length-map}
use Rattle.std.proofs.lemmas.Option.{same_Some, slice_get-get_or}
use Rattle.sr_model.specs.declared.label.Range.{Range}
use Rattle.sr_model.specs.declared.rule.DomainRule.TheVariants.{IndexOutside}
use Rattle.sr_model.specs.Label.{Labels, label_of, sizes}
use Rattle.sr_model.specs.Rule.{node_at, IsIndexOutside, IsLeastOutside, NoOutside}
use Rattle.sr_laws.proofs.Ranges.{label-none}
use Rattle.sr_labels.proofs.IndexLists.{labelled}
use Rattle.sr_labels.specs.Indices.{IsFirstWithout}
use Rattle.sr_lsdb.specs.declared.facts.Facts.{Facts}
use Rattle.sr_lsdb.specs.Announcement.{lesser}
use Rattle.sr_domain.specs.Nodes.{labels_of, nodes_of, all_labels, ranges_of}
use Rattle.sr_rules.specs.Broken.{IsFinding}
use Rattle.sr_rules.specs.RuleSurvey.{with_ranges, nodes_with}
use Rattle.sr_rules.specs.Indices.{IsLeastTotal, IsLeastFrom, chosen}
use Rattle.sr_rules.proofs.BrokenLemmas.{verdict-none}
use Rattle.sr_rules.proofs.NodesLemmas.{HaveSameRanges, same-ranges}

-- ---- the fewest labels
-- the same of the first `count` nodes
pub record IsLeastBelow (nodes : List Labels) (count least : ℕ) : Type 0 where
  pub each : (v : ℕ) → v < count → least ≤ sizes (node_at nodes v).srgb
  pub reached : least < 2 ^ 64 - 1 → (v : ℕ) × (v < count) × (sizes (node_at nodes v).srgb ≡ least)

pub least-start : (nodes : List Labels) → IsLeastBelow nodes 0 (2 ^ 64 - 1)
least-start nodes = record { each = λ v lt. absurd (omega arith); reached = λ lt. absurd (omega arith) }

pub least-more : (nodes : List Labels) (count least total next : ℕ) → IsLeastBelow nodes count least → total ≡ min (sizes (node_at nodes count).srgb) (2 ^ 64 - 1) → next ≡ min least total → IsLeastBelow nodes (count + 1) next
least-more nodes count least total next before is now = record {
  each = λ v lt. ⊎_elim
      (λ (low : v < count). let old : least ≤ sizes (node_at nodes v).srgb = before.each v low in omega arith)
      (λ (high : count ≤ v).
      let same : count ≡ v = omega arith in
      let P : ℕ → Type 0 = λ w. next ≤ sizes (node_at nodes w).srgb in
      subst P same (omega arith))
      (cases_lt v count);
  reached = λ lt. ⊎_elim
      (λ (low : least ≤ total).
      let old : next ≡ least = omega arith in
      let r = before.reached (omega arith) in
      let size : sizes (node_at nodes r.0).srgb ≡ least = r.2 in
      (r.0, (let w : r.0 < count = r.1 in omega arith), omega arith))
      (λ (high : total < least). (count, omega arith, omega arith))
      (⊎_elim (λ lt. inr lt) (λ ge. inl ge) (cases_lt total least));
}

pub least-end : (ranges : List (List Range)) (count least : ℕ) → length ranges ≤ count → count ≤ length ranges → IsLeastBelow (nodes_with ranges) count least → IsLeastTotal (nodes_with ranges) least
least-end ranges count least le ge below =
    let long : length (nodes_with ranges) ≡ length ranges = length-map ranges with_ranges in
    record {
      each = λ v lt. below.each v (omega arith);
      reached = λ lt. (let r = below.reached lt in (r.0, (let w : r.0 < count = r.1 in omega arith), r.2));
    }

-- ---- the least index from a number on
pub from-start : (nodes : List Labels) (least : ℕ) → IsLeastFrom nodes least 0 None
from-start nodes least = λ v i lt is. absurd (omega arith)

module _ (nodes : List Labels) (least count : ℕ) where
  none-skip : (node_at nodes count).index ≡ None → IsLeastFrom nodes least count None → IsLeastFrom nodes least (count + 1) None
  none-skip is before = λ v i lt its. ⊎_elim
      (λ (low : v < count). before v i low its)
      (λ (high : count ≤ v).
      let same : v ≡ count = omega arith in
      let bad : None ≡ Some i = sym is ∙ ap (λ w. (node_at nodes w).index) (sym same) ∙ its in
      absurd {0} (cc))
      (cases_lt v count)

  none-low : (index : ℕ) → (node_at nodes count).index ≡ Some index → index < least → IsLeastFrom nodes least count None → IsLeastFrom nodes least (count + 1) None
  none-low index is low' before = λ v i lt its. ⊎_elim
      (λ (low : v < count). before v i low its)
      (λ (high : count ≤ v).
      let same : v ≡ count = omega arith in
      let at : index ≡ i = same_Some index i (sym is ∙ ap (λ w. (node_at nodes w).index) (sym same) ∙ its) in
      omega arith)
      (cases_lt v count)

  -- the index that is the least of the first, with a node that has it
  some-more : (best : ℕ) → ((v : ℕ) × (v < count + 1) × ((node_at nodes v).index ≡ Some best)) → least ≤ best → ((v i : ℕ) → v < count → (node_at nodes v).index ≡ Some i → least ≤ i → best ≤ i) → ((i : ℕ) → (node_at nodes count).index ≡ Some i → least ≤ i → best ≤ i) → IsLeastFrom nodes least (count + 1) (Some best)
  some-more best has high before here = (
    has,
    high,
    λ v i lt its le. ⊎_elim
        (λ (low : v < count). before v i low its le)
        (λ (up : count ≤ v). let same : v ≡ count = omega arith in here i (ap (λ w. (node_at nodes w).index) (sym same) ∙ its) le)
        (cases_lt v count),
  )

  earlier : (best : ℕ) → ((v : ℕ) × (v < count) × ((node_at nodes v).index ≡ Some best)) → (v : ℕ) × (v < count + 1) × ((node_at nodes v).index ≡ Some best)
  earlier best has = (has.0, (let lt : has.0 < count = has.1 in omega arith), has.2)

  chosen-low : (found : Option ℕ) (index : ℕ) → index < least → chosen least found (Some index) ≡ found
  chosen-low found index lt = grind (arith, nat_tests)

  chosen-high : (found : Option ℕ) (index : ℕ) → least ≤ index → chosen least found (Some index) ≡ lesser found index
  chosen-high found index ge = grind (arith, nat_tests)

  pub from-more : (found index : Option ℕ) → (node_at nodes count).index ≡ index → IsLeastFrom nodes least count found → IsLeastFrom nodes least (count + 1) (chosen least found index)
  from-more None None is before = none-skip is before
  from-more (Some best) None is before =
      some-more best (earlier best before.0) before.1 before.2 (λ i its le. let bad : None ≡ Some i = sym is ∙ its in absurd {0} (cc))
  from-more None (Some index) is before = ⊎_elim
      (λ (low : index < least). subst (λ o. IsLeastFrom nodes least (count + 1) o) (sym (chosen-low None index low)) (none-low index is low before))
      (λ (high : least ≤ index). subst (λ o. IsLeastFrom nodes least (count + 1) o) (sym (chosen-high None index high))
      (some-more index (count, omega arith, is) high
      (λ v i lt its le. absurd (let low : i < least = before v i lt its in omega arith))
      (λ i its le. let e : index ≡ i = same_Some index i (sym is ∙ its) in omega arith)))
      (cases_lt index least)
  from-more (Some best) (Some index) is before = ⊎_elim
      (λ (low : index < least). subst (λ o. IsLeastFrom nodes least (count + 1) o) (sym (chosen-low (Some best) index low))
      (some-more best (earlier best before.0) before.1 before.2 (λ i its le. absurd (let e : index ≡ i = same_Some index i (sym is ∙ its) in omega arith))))
      (λ (high : least ≤ index). subst (λ o. IsLeastFrom nodes least (count + 1) o) (sym (chosen-high (Some best) index high)) (⊎_elim
      (λ (less : index < best).
      let e : min best index ≡ index = omega arith in
      subst (λ m. IsLeastFrom nodes least (count + 1) (Some m)) (sym e)
      (some-more index (count, omega arith, is) high
      (λ v i lt its le. let old : best ≤ i = before.2 v i lt its le in omega arith)
      (λ i its le. let same : index ≡ i = same_Some index i (sym is ∙ its) in omega arith)))
      (λ (more : best ≤ index).
      let e : min best index ≡ best = omega arith in
      subst (λ m. IsLeastFrom nodes least (count + 1) (Some m)) (sym e)
      (some-more best (earlier best before.0) before.1 before.2 (λ i its le. let same : index ≡ i = same_Some index i (sym is ∙ its) in omega arith)))
      (cases_lt index best)))
      (cases_lt index least)

-- ---- the two together

outside-sizes : (rs : List Range) (i : ℕ) → label_of rs i ≡ None → sizes rs ≤ i
outside-sizes rs i none = ⊎_elim (λ (lt : i < sizes rs). absurd (labelled rs i lt none)) (λ ge. ge) (cases_lt i (sizes rs))

module _ (facts : Facts) (nodes : List ℕ) (ranges : List (List Range)) (least : ℕ) (are : nodes ≡ nodes_of facts) (theirs : ranges ≡ map (ranges_of facts) (nodes_of facts)) (total : IsLeastTotal (nodes_with ranges) least) where
  same : HaveSameRanges (nodes_with ranges) (all_labels facts)
  same = same-ranges facts (nodes_of facts) ranges theirs

  long : length (nodes_with ranges) ≡ length (all_labels facts)
  long = length-map ranges with_ranges ∙ ap length theirs ∙ length-map (nodes_of facts) (ranges_of facts) ∙ sym (length-map (nodes_of facts) (labels_of facts))

  here : (count : ℕ) (found : Option ℕ) → count ≡ length nodes → IsLeastFrom (map (labels_of facts) nodes) least count found → IsLeastFrom (all_labels facts) least (length (all_labels facts)) found
  here count found e from =
      let end : count ≡ length (all_labels facts) = e ∙ ap length are ∙ sym (length-map (nodes_of facts) (labels_of facts)) in
      subst (λ n. IsLeastFrom (all_labels facts) least n found) end (subst (λ (l : List ℕ). IsLeastFrom (map (labels_of facts) l) least count found) are from)

  -- a node outside whose ranges an index lies has no more labels
  few : (v i : ℕ) → IsIndexOutside (all_labels facts) i v → least ≤ i
  few v i o =
      let w : v < length (all_labels facts) = o.within in
      let size : least ≤ sizes (node_at (nodes_with ranges) v).srgb = total.each v (omega (arith, long)) in
      let e : sizes (node_at (nodes_with ranges) v).srgb ≡ sizes (node_at (all_labels facts) v).srgb = ap sizes (same v) in
      let le : sizes (node_at (all_labels facts) v).srgb ≤ i = outside-sizes (node_at (all_labels facts) v).srgb i o.outside in
      omega arith

  all-low : IsLeastFrom (all_labels facts) least (length (all_labels facts)) None → NoOutside (all_labels facts)
  all-low low i v o =
      let le : least ≤ i = few v i o in
      let lt : i < least = low o.announced.0 i o.announced.1 o.announced.2 in
      omega arith

  least-outside : (index place : ℕ) → IsLeastFrom (all_labels facts) least (length (all_labels facts)) (Some index) → IsFirstWithout (nodes_with ranges) index (Some place) → IsLeastOutside (all_labels facts) index place
  least-outside index place from first = record {
    outside = record {
      announced = from.0;
      within = let w : place < length (nodes_with ranges) = first.0 in omega (arith, long);
      outside = ap (λ r. label_of r index) (sym (same place)) ∙ first.1;
    };
    least = λ j w o. (
      from.2 o.announced.0 j o.announced.1 o.announced.2 (few w j o),
      λ e. ⊎_elim
          (λ (early : w < place). absurd (first.2 w early (ap (λ r. label_of r index) (same w) ∙ ap (label_of (node_at (all_labels facts) w).srgb) e ∙ o.outside)))
          (λ ge. ge)
          (cases_lt w place),
    );
  }

  pub outside-none : IsLeastFrom (map (labels_of facts) nodes) least (length nodes) None → IsFinding facts 3 None
  outside-none from = verdict-none facts 3 (IndexOutside 0 0) refl (all-low (here (length nodes) None refl from))

  pub outside-never : (index : ℕ) → index < 2 ^ 32 → IsLeastFrom (map (labels_of facts) nodes) least (length nodes) (Some index) → IsFirstWithout (nodes_with ranges) index None → ⊥
  outside-never index small from none =
      let le : least ≤ index = from.1 in
      let r = total.reached (omega arith) in
      let size : sizes (node_at (nodes_with ranges) r.0).srgb ≡ least = r.2 in
      none r.0 r.1 (label-none (node_at (nodes_with ranges) r.0).srgb index (omega arith))

  pub outside-within : (index place : ℕ) → IsFirstWithout (nodes_with ranges) index (Some place) → place < length nodes
  outside-within index place first = let w : place < length (nodes_with ranges) = first.0 in omega (arith, long, length-map (nodes_of facts) (labels_of facts), ap length are)

  pub outside-some : (index place node : ℕ) → IsLeastFrom (map (labels_of facts) nodes) least (length nodes) (Some index) → IsFirstWithout (nodes_with ranges) index (Some place) → node ≡ get_or nodes place node → IsFinding facts 3 (Some (IndexOutside index node))
  outside-some index place node from first is = (
    record {
      place = place;
      least = least-outside index place (here (length nodes) (Some index) refl from) first;
      node_is = subst (λ (l : List ℕ). slice_get l place ≡ Some node) are (slice_get-get_or nodes place node (outside-within index place first) ∙ ap Some (sym is));
    },
    refl,
  )
