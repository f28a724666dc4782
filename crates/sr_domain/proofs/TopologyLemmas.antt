-- From the links of the facts to their graph.
use Rattle.std.proofs.Common.{◌≡◌, ◌≢◌, ℕ, ◌+◌, ◌<◌, ◌≤◌, cond, List, [], ◌∷◌, map, length, refl, arith, ap, sym, ◌∙◌, subst}
use Rattle.std.specs.Prelude.{Contains, All, count_by}
use Rattle.std.specs.List.Sorted.{IsPermutation, IsStrictlyIncreasing}
use Rattle.std.proofs.lemmas.List.{length-map}
use Rattle.std.proofs.lemmas.List.Elements.{All-map, All-contains}
use Rattle.std.proofs.lemmas.List.Sums.{sum_by-cons}
use Rattle.std.proofs.lemmas.List.Sorted.{IsPermutation-sym, Contains-permutation, sum_by-IsPermutation, length_permutation}
use Rattle.sr_model.specs.declared.name.LinkKey.{LinkKey}
use Rattle.sr_model.specs.Key.{pair_of}
use Rattle.sr_model.specs.KeyOrder.{same_key}
use Rattle.sr_laws.proofs.PairKeys.{same-pair}
use Rattle.sr_graph.specs.declared.draft.DraftLink.{DraftLink}
use Rattle.sr_graph.specs.Draft.{IsDraft, AreLeast, HasZero, IsTwice}
use Rattle.sr_domain.specs.declared.links.FoundLink.{FoundLink}
use Rattle.sr_model.specs.declared.name.PairKey.{PairKey}
use Rattle.sr_domain.specs.GroupTables.{draft_link}
use Rattle.sr_domain.specs.Links.{JoinsNodes}
use Rattle.sr_domain.specs.Rules.{HasZeroMetric, IsKeyRepeated}
use Rattle.sr_domain.specs.Steps.{IsBelowMaximum}
use Rattle.sr_domain.proofs.MemberLemmas.{mapped-from, mapped-to}

-- what a graph is built from
pub draft-fits : (m : PairKey → List ℕ) (nodes : List ℕ) (links : List FoundLink) (drafts : List DraftLink) → IsStrictlyIncreasing nodes → All (JoinsNodes nodes) links → All IsBelowMaximum links → drafts ≡ map (draft_link m) links → All (λ (d : DraftLink). IsStrictlyIncreasing d.groups) drafts → IsDraft (record { nodes = nodes; links = drafts })
draft-fits m nodes links drafts up ends metrics are groups = record {
  nodes = up;
  ends = subst (λ (ds : List DraftLink). All (λ (d : DraftLink). Contains nodes d.key.from × Contains nodes d.key.to × (d.key.from ≢ d.key.to)) ds) (sym are) (All-map (λ (d : DraftLink). Contains nodes d.key.from × Contains nodes d.key.to × (d.key.from ≢ d.key.to)) (draft_link m) links ends);
  metrics = subst (λ (ds : List DraftLink). All (λ (d : DraftLink). d.metric < 16777215) ds) (sym are) (All-map (λ (d : DraftLink). d.metric < 16777215) (draft_link m) links metrics);
  groups = groups;
  pairs = λ a b in_a in_b same.
      let x = mapped-from (draft_link m) links a (subst (λ (ds : List DraftLink). Contains ds a) are in_a) in
      let y = mapped-from (draft_link m) links b (subst (λ (ds : List DraftLink). Contains ds b) are in_b) in
      let differ : b.key.from ≢ b.key.to = subst (λ (d : DraftLink). d.key.from ≢ d.key.to) y.2 (All-contains (JoinsNodes nodes) links y.0 ends y.1).2 in
      ap (λ (d : DraftLink). d.groups) (sym x.2)
      ∙ ap (λ (k : LinkKey). m (pair_of k)) (ap (λ (d : DraftLink). d.key) x.2)
      ∙ ap (λ p. m p) (same-pair a.key b.key differ same)
      ∙ ap (λ (k : LinkKey). m (pair_of k)) (sym (ap (λ (d : DraftLink). d.key) y.2))
      ∙ ap (λ (d : DraftLink). d.groups) y.2;
}

pub few-links : (m : PairKey → List ℕ) (links : List FoundLink) (drafts : List DraftLink) → drafts ≡ map (draft_link m) links → length drafts ≤ 2048 → length links ≤ 2048
few-links m links drafts are few = omega (arith, ap length are, length-map links (draft_link m))

-- facts on keys carry over
pub least-moved : (P Q : LinkKey → Type 0) → ((k : LinkKey) → P k → Q k) → ((k : LinkKey) → Q k → P k) → (from to : ℕ) → AreLeast P from to → AreLeast Q from to
least-moved P Q forth back from to a = record {
  key = a.key;
  begins = a.begins;
  ends = a.ends;
  is = record { holds = forth a.key a.is.holds; least = λ other q. a.is.least other (back other q) };
}

module _ (m : PairKey → List ℕ) (found links : List FoundLink) (drafts : List DraftLink) (moved : IsPermutation found links) (are : drafts ≡ map (draft_link m) links) where
  pub zero-to : (k : LinkKey) → HasZero drafts k → HasZeroMetric found k
  zero-to k z =
      let x = mapped-from (draft_link m) links z.0 (subst (λ (ds : List DraftLink). Contains ds z.0) are z.1) in
      (x.0, Contains-permutation links found x.0 (IsPermutation-sym found links moved) x.1, ap (λ (d : DraftLink). d.key) x.2 ∙ z.2, ap (λ (d : DraftLink). d.metric) x.2 ∙ z.3)

  pub zero-from : (k : LinkKey) → HasZeroMetric found k → HasZero drafts k
  zero-from k z = (draft_link m z.0, subst (λ (ds : List DraftLink). Contains ds (draft_link m z.0)) (sym are) (mapped-to (draft_link m) links z.0 (Contains-permutation found links z.0 moved z.1)), z.2, z.3)

  count-map : (k : LinkKey) (ls : List FoundLink) → count_by (λ (d : DraftLink). same_key k d.key) (map (draft_link m) ls) ≡ count_by (λ (l : FoundLink). same_key k l.key) ls
  count-map k [] = refl
  count-map k (l ∷ ls) =
      sum_by-cons (λ (d : DraftLink). cond (same_key k d.key) 1 0) (draft_link m l) (map (draft_link m) ls)
      ∙ ap (λ n. cond (same_key k l.key) 1 0 + n) (count-map k ls)
      ∙ sym (sum_by-cons (λ (l : FoundLink). cond (same_key k l.key) 1 0) l ls)

  count-same : (k : LinkKey) → count_by (λ (d : DraftLink). same_key k d.key) drafts ≡ count_by (λ (l : FoundLink). same_key k l.key) found
  count-same k = ap (count_by (λ (d : DraftLink). same_key k d.key)) are ∙ count-map k links ∙ sum_by-IsPermutation (λ (l : FoundLink). cond (same_key k l.key) 1 0) found links moved

  pub twice-to : (k : LinkKey) → IsTwice drafts k → IsKeyRepeated found k
  twice-to k t = subst (λ n. 2 ≤ n) (count-same k) t

  pub twice-from : (k : LinkKey) → IsKeyRepeated found k → IsTwice drafts k
  twice-from k t = subst (λ n. 2 ≤ n) (sym (count-same k)) t

  pub length-same : length drafts ≡ length found
  length-same = ap length are ∙ length-map links (draft_link m) ∙ length_permutation found links moved
