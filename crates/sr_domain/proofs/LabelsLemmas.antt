-- What the nodes announce, one node after the other.
use Rattle.std.proofs.Common.{◌≡◌, ℕ, zero, suc, ◌+◌, ◌<◌, ◌≤◌, List, [], ◌∷◌, ◌++◌, map, length, get_or, take, drop, refl, arith, ap, sym, ◌∙◌, subst, ⊎_elim, Option, Some, None, add-one}
use Rattle.std.specs.Prelude.{Contains}
use Rattle.std.specs.Option.{unwrap_or}
use Rattle.std.specs.List.Sorted.{IsStrictlyIncreasing}
use Rattle.std.proofs.lemmas.List.{take_more, length-append, take_all, map-append}
use Rattle.std.proofs.lemmas.Option.{same_Some}
use Rattle.sr_model.specs.declared.label.Range.{Range}
use Rattle.sr_model.specs.declared.rule.DomainRule.TheVariants.{NoSrgb, SrgbBad as BadSrgb}
use Rattle.sr_model.specs.Label.{Labels, IsSrgb}
use Rattle.sr_labels.specs.declared.srgb.SrgbBad.{SrgbBad}
use Rattle.sr_labels.specs.declared.srgb.SrgbBad.TheVariants.{Bad}
use Rattle.sr_labels.specs.Ranges.{IsSrgbRefusal}
use Rattle.sr_lsdb.specs.declared.facts.Facts.{Facts}
use Rattle.sr_domain.specs.Nodes.{nodes_of, srgb_of, ranges_of, labels_of, labels_with, node_sid_of, imposition_of}
use Rattle.sr_domain.specs.Rules.{AreKept, IsFirstBrokenRule, LacksSrgb, HasBadSrgb, HoldsNowhere, IsLeastNode}
use Rattle.sr_domain.proofs.LeastLemmas.{NoneBelow, none-yet, none-more, none-all, least-at}
use Rattle.sr_domain.proofs.KeptLemmas.{kept-nothing, kept-more}

-- one more element of a list that maps another
pub mapped-more : {X Y : Type 0} (f : X → Y) (xs : List X) (i : ℕ) (x : X) (y : Y) (out out' : List Y) → i < length xs → x ≡ get_or xs i x → out ≡ map f (take i xs) → y ≡ f x → out' ≡ out ++ y ∷ [] → out' ≡ map f (take (i + 1) xs)
mapped-more f xs i x y out out' within is made here pushed =
    pushed ∙ ap (λ o. o ++ y ∷ []) made ∙ ap (λ z. map f (take i xs) ++ z ∷ []) (here ∙ ap f is)
    ∙ sym (map-append f (take i xs) (get_or xs i x ∷ [])) ∙ ap (map f) (sym (take_more xs i x within))

-- the first of what is left
pub left-first : {X Y : Type 0} (f : X → Y) (xs : List X) (k : ℕ) (d : X) (y : Y) (ys : List Y) → y ∷ ys ≡ map f (drop k xs) → (k < length xs) × (y ≡ f (get_or xs k d)) × (ys ≡ map f (drop (suc k) xs))
left-first f [] zero d y ys e = absurd (cc)
left-first f [] (suc k) d y ys e = absurd (cc)
left-first f (x ∷ xs) zero d y ys e = (omega arith, cc, cc)
left-first f (x ∷ xs) (suc k) d y ys e = let rest = left-first f xs k d y ys e in (let lt : k < length xs = rest.0 in omega arith, rest.1, rest.2)

-- the ranges of the first m nodes, each of which has some
pub record RangesMade (facts : Facts) (nodes : List ℕ) (count : ℕ) (out : List (List Range)) : Type 0 where
  pub made : out ≡ map (ranges_of facts) (take count nodes)
  pub none : NoneBelow nodes (LacksSrgb facts) count

pub ranges-start : (facts : Facts) (nodes : List ℕ) (out : List (List Range)) → out ≡ [] → RangesMade facts nodes 0 out
ranges-start facts nodes out e = record { made = e; none = none-yet nodes (LacksSrgb facts) }

pub ranges-more : (facts : Facts) (nodes : List ℕ) (i node : ℕ) (ranges : List Range) (out out' : List (List Range)) → i < length nodes → node ≡ get_or nodes i node → RangesMade facts nodes i out → Some ranges ≡ srgb_of facts node → out' ≡ out ++ ranges ∷ [] → RangesMade facts nodes (i + 1) out'
ranges-more facts nodes i node ranges out out' within is before found pushed = record {
  made = mapped-more (ranges_of facts) nodes i node ranges out out' within is before.made (ap (λ o. unwrap_or o []) found) pushed;
  none = none-more nodes (LacksSrgb facts) i node within is before.none (λ lacks. let bad : Some ranges ≡ None = found ∙ lacks in cc);
}

pub ranges-kept : (facts : Facts) (nodes : List ℕ) (count : ℕ) (out : List (List Range)) → nodes ≡ nodes_of facts → length nodes ≤ count → RangesMade facts nodes count out → AreKept facts 1
ranges-kept facts nodes count out are all made = kept-more facts 0 (NoSrgb 0) refl (kept-nothing facts) (subst (λ (l : List ℕ). HoldsNowhere l (LacksSrgb facts)) are (none-all nodes (LacksSrgb facts) count all made.none))

pub srgb-lacks : (facts : Facts) (nodes : List ℕ) (i node : ℕ) (out : List (List Range)) → nodes ≡ nodes_of facts → IsStrictlyIncreasing nodes → i < length nodes → node ≡ get_or nodes i node → RangesMade facts nodes i out → None ≡ srgb_of facts node → IsFirstBrokenRule facts (NoSrgb node)
srgb-lacks facts nodes i node out are up within is made lacks = record {
  broken = subst (λ (l : List ℕ). IsLeastNode l (LacksSrgb facts) node) are (least-at nodes (LacksSrgb facts) i node up within is made.none (sym lacks));
  earlier = kept-nothing facts;
}

-- a node that doesn't lack ranges has those that it is given
srgb-some_by : (o : Option (List Range)) (ranges : List Range) → (o ≡ None → ⊥) → ranges ≡ unwrap_or o [] → o ≡ Some ranges
srgb-some_by None ranges not e = absurd (not refl)
srgb-some_by (Some other) ranges not e = ap Some (sym e)

pub not-srgb : (ranges : List Range) (fault : SrgbBad) → IsSrgbRefusal ranges fault → IsSrgb ranges → ⊥
not-srgb ranges (Bad k) refused good = ⊎_elim
    (λ empty. let some : 0 < length ranges = good.some in let none : length ranges ≡ 0 = ap length empty.0 in omega arith)
    (λ bad. bad.2 (good.each k bad.0))
    refused

-- what the first nodes announce, whose ranges are SRGBs; and the ranges of those that are left
pub record LabelsMade (facts : Facts) (nodes : List ℕ) (out : List Labels) (left : List (List Range)) : Type 0 where
  pub made : out ≡ map (labels_of facts) (take (length out) nodes)
  pub left_are : left ≡ map (ranges_of facts) (drop (length out) nodes)
  pub none : NoneBelow nodes (HasBadSrgb facts) (length out)

module _ (facts : Facts) (nodes : List ℕ) (are : nodes ≡ nodes_of facts) (kept : AreKept facts 1) where
  srgb-some : (node : ℕ) (ranges : List Range) → Contains nodes node → ranges ≡ ranges_of facts node → srgb_of facts node ≡ Some ranges
  srgb-some node ranges there e =
      let none : HoldsNowhere nodes (LacksSrgb facts) = subst (λ (l : List ℕ). HoldsNowhere l (LacksSrgb facts)) (sym are) (kept (NoSrgb 0) (omega arith)) in
      srgb-some_by (srgb_of facts node) ranges (λ lacks. none node there lacks) e

  pub labels-bad : (out : List Labels) (node : ℕ) (ranges : List Range) (left : List (List Range)) (fault : SrgbBad) → IsStrictlyIncreasing nodes → LabelsMade facts nodes out (ranges ∷ left) → node ≡ get_or nodes (length out) node → IsSrgbRefusal ranges fault → IsFirstBrokenRule facts (BadSrgb node)
  labels-bad out node ranges left fault up made is refused =
      let here = left-first (ranges_of facts) nodes (length out) node ranges left made.left_are in
      let within : length out < length nodes = here.0 in
      record {
        broken = subst (λ (l : List ℕ). IsLeastNode l (HasBadSrgb facts) node) are (least-at nodes (HasBadSrgb facts) (length out) node up within is made.none
            (ranges, srgb-some node ranges (length out, within, sym is) (here.1 ∙ ap (ranges_of facts) (sym is)), not-srgb ranges fault refused));
        earlier = kept;
      }

  pub labels-more : (out out' : List Labels) (node : ℕ) (ranges srgb : List Range) (left : List (List Range)) → LabelsMade facts nodes out (ranges ∷ left) → node ≡ get_or nodes (length out) node → srgb ≡ ranges → IsSrgb srgb → out' ≡ out ++ labels_with srgb (node_sid_of facts node) (imposition_of facts node) ∷ [] → LabelsMade facts nodes out' left
  labels-more out out' node ranges srgb left made is same good pushed =
      let here = left-first (ranges_of facts) nodes (length out) node ranges left made.left_are in
      let within : length out < length nodes = here.0 in
      let more : length out' ≡ length out + 1 = ap length pushed ∙ length-append out (labels_with srgb (node_sid_of facts node) (imposition_of facts node) ∷ []) in
      let more' : length out' ≡ suc (length out) = more ∙ add-one (length out) in
      let its : srgb ≡ ranges_of facts node = same ∙ here.1 ∙ ap (ranges_of facts) (sym is) in
      record {
        made = mapped-more (labels_of facts) nodes (length out) node (labels_with srgb (node_sid_of facts node) (imposition_of facts node)) out out' within is made.made (ap (λ r. labels_with r (node_sid_of facts node) (imposition_of facts node)) its) pushed ∙ ap (λ n. map (labels_of facts) (take n nodes)) (sym more);
        left_are = here.2 ∙ ap (λ n. map (ranges_of facts) (drop n nodes)) (sym more');
        none = subst (λ n. NoneBelow nodes (HasBadSrgb facts) n) (sym more) (none-more nodes (HasBadSrgb facts) (length out) node within is made.none
            (λ bad. bad.2 (subst (λ (r : List Range). IsSrgb r) (same_Some srgb bad.0 (sym (srgb-some node srgb (length out, within, sym is) its) ∙ bad.1)) good)));
      }

  pub labels-kept : (out : List Labels) (left : List (List Range)) → LabelsMade facts nodes out left → length left ≡ 0 → (out ≡ map (labels_of facts) nodes) × AreKept facts 2
  labels-kept out left made empty =
      let all : length nodes ≤ length out = none_left nodes (length out) (sym (no_length left empty) ∙ made.left_are) in
      (made.made ∙ ap (map (labels_of facts)) (take_all (length out) nodes all), kept-more facts 1 (BadSrgb 0) refl kept (subst (λ (l : List ℕ). HoldsNowhere l (HasBadSrgb facts)) are (none-all nodes (HasBadSrgb facts) (length out) all made.none)))
    where
      no_length : (l : List (List Range)) → length l ≡ 0 → l ≡ []
      no_length [] e = refl
      no_length (x ∷ l) e = absurd (omega arith)

      none_left : (xs : List ℕ) (k : ℕ) → [] ≡ map (ranges_of facts) (drop k xs) → length xs ≤ k
      none_left [] k e = omega arith
      none_left (x ∷ xs) zero e = absurd (cc)
      none_left (x ∷ xs) (suc k) e = let le : length xs ≤ k = none_left xs k e in omega arith

pub labels-start : (facts : Facts) (nodes : List ℕ) (out : List Labels) (left : List (List Range)) → out ≡ [] → left ≡ map (ranges_of facts) nodes → LabelsMade facts nodes out left
labels-start facts nodes out left e f = subst (λ (o : List Labels). LabelsMade facts nodes o left) (sym e) (record {
  made = refl;
  left_are = f;
  none = none-yet nodes (HasBadSrgb facts);
})
