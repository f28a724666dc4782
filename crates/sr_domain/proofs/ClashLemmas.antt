-- The first broken rule on labels, in the words of the facts.
use Rattle.std.proofs.Common.{◌≡◌, ℕ, ◌<◌, List, length, refl, arith, sym, subst, Option, Some, None}
use Rattle.std.specs.Prelude.{slice_get}
use Rattle.sr_model.specs.declared.label.AdjLabel.{AdjLabel}
use Rattle.sr_model.specs.declared.label.LabelRule.{LabelRule}
use Rattle.sr_model.specs.declared.label.LabelRule.TheVariants.{DuplicateIndex, IndexOutside, AdjLabelClash}
use Rattle.sr_model.specs.declared.rule.DomainRule.{DomainRule}
use Rattle.sr_model.specs.declared.rule.DomainRule.TheVariants.{DuplicateIndex as SharedIndex, IndexOutside as FarIndex, AdjLabelClash as Clash}
use Rattle.sr_model.specs.Label.{Labels}
use Rattle.sr_model.specs.Rule.{IsFirstBroken as IsFirstClash}
use Rattle.sr_labels.specs.Rules.{AreOfNodes}
use Rattle.sr_lsdb.specs.declared.facts.Facts.{Facts}
use Rattle.sr_domain.specs.Nodes.{nodes_of, all_labels}
use Rattle.sr_domain.specs.Links.{found_adj_labels}
use Rattle.sr_domain.specs.Rules.{AreKept, IsFirstBrokenRule}
use Rattle.sr_domain.specs.Named.{ArePlacesWithin, Names}
use Rattle.sr_domain.proofs.KeptLemmas.{kept-more}

-- places of nodes
pub clash-within : (nodes : List Labels) (adj : List AdjLabel) (rule : LabelRule) (count : ℕ) → length nodes ≡ count → AreOfNodes count adj → IsFirstClash nodes adj (Some rule) → ArePlacesWithin count rule
clash-within nodes adj (DuplicateIndex index low high) count e of first =
    let high_in : high < length nodes = first.duplicate.within in
    let order : low < high = first.duplicate.order in
    (omega arith, omega arith)
clash-within nodes adj (IndexOutside index node) count e of first = let in' : node < length nodes = first.1.outside.within in omega arith
clash-within nodes adj (AdjLabelClash label node) count e of first =
    let at = first.2.clash in
    subst (λ (a : AdjLabel). a.node < count) at.2 (of at.0 at.1.within)

module _ (facts : Facts) (nodes : List ℕ) (labels : List Labels) (adj : List AdjLabel) (are : nodes ≡ nodes_of facts) (its : labels ≡ all_labels facts) (theirs : adj ≡ found_adj_labels facts) (kept : AreKept facts 2) where
  moved : (o : Option LabelRule) → IsFirstClash labels adj o → IsFirstClash (all_labels facts) (found_adj_labels facts) o
  moved o first = subst (λ (a : List AdjLabel). IsFirstClash (all_labels facts) a o) theirs (subst (λ (l : List Labels). IsFirstClash l adj o) its first)

  pub clash-none : IsFirstClash labels adj None → AreKept facts 5
  clash-none first = let f = moved None first in kept-more facts 4 (Clash 0 0) refl (kept-more facts 3 (FarIndex 0 0) refl (kept-more facts 2 (SharedIndex 0 0 0) refl kept f.0) f.1) f.2

  at : (place node : ℕ) → slice_get nodes place ≡ Some node → slice_get (nodes_of facts) place ≡ Some node
  at place node e = subst (λ (l : List ℕ). slice_get l place ≡ Some node) are e

  pub clash-some : (rule : LabelRule) (named : DomainRule) → IsFirstClash labels adj (Some rule) → Names nodes rule named → IsFirstBrokenRule facts named
  clash-some (DuplicateIndex index low high) named first is =
      let f = moved (Some (DuplicateIndex index low high)) first in
      subst (λ (r : DomainRule). IsFirstBrokenRule facts r) (sym is.2) (record {
        broken = record { low_place = low; high_place = high; least = f; low_is = at low is.0 is.3; high_is = at high is.1 is.4 };
        earlier = kept;
      })
  clash-some (IndexOutside index node) named first is =
      let f = moved (Some (IndexOutside index node)) first in
      subst (λ (r : DomainRule). IsFirstBrokenRule facts r) (sym is.1) (record {
        broken = record { place = node; least = f.1; node_is = at node is.0 is.2 };
        earlier = kept-more facts 2 (SharedIndex 0 0 0) refl kept f.0;
      })
  clash-some (AdjLabelClash label node) named first is =
      let f = moved (Some (AdjLabelClash label node)) first in
      subst (λ (r : DomainRule). IsFirstBrokenRule facts r) (sym is.1) (record {
        broken = record { place = node; least = f.2; node_is = at node is.0 is.2 };
        earlier = kept-more facts 3 (FarIndex 0 0) refl (kept-more facts 2 (SharedIndex 0 0 0) refl kept f.0) f.1;
      })
