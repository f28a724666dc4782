-- Why a graph is refused, and that it is accepted, in the words of the facts.
use Rattle.std.proofs.Common.{◌≡◌, ℕ, ◌≤◌, List, map, length, refl, ap, ◌∙◌, subst}
use Rattle.std.specs.List.Sorted.{IsPermutation}
use Rattle.sr_graph.specs.declared.draft.DraftLink.{DraftLink}
use Rattle.sr_graph.specs.declared.fault.GraphFault.{GraphFault}
use Rattle.sr_model.specs.declared.rule.DomainRule.TheVariants.{ZeroMetric as Zero, DuplicateLink as Twice, TooManyNodes as ManyNodes, TooManyLinks as ManyLinks}
use Rattle.sr_graph.specs.declared.fault.GraphFault.TheVariants.{ZeroMetric, DuplicateLink, TooManyNodes, TooManyLinks, Memory}
use Rattle.sr_graph.specs.Draft.{HasZero, IsTwice, NoZero, NoneTwice, IsAcceptedDraft, IsRefusal}
use Rattle.sr_lsdb.specs.declared.facts.Facts.{Facts}
use Rattle.sr_domain.specs.declared.links.FoundLink.{FoundLink}
use Rattle.sr_model.specs.declared.name.PairKey.{PairKey}
use Rattle.sr_domain.specs.GroupTables.{draft_link}
use Rattle.sr_domain.specs.Links.{links_of}
use Rattle.sr_domain.specs.Nodes.{nodes_of}
use Rattle.sr_domain.specs.Named.{domain_fault}
use Rattle.sr_domain.specs.Rules.{AreKept, IsDomainFault, HasZeroMetric, IsKeyRepeated}
use Rattle.sr_domain.proofs.KeptLemmas.{kept-more}
use Rattle.sr_domain.proofs.TopologyLemmas.{least-moved, zero-to, zero-from, twice-to, twice-from, length-same}

module _ (facts : Facts) (m : PairKey → List ℕ) (nodes : List ℕ) (links : List FoundLink) (drafts : List DraftLink) (its : nodes ≡ nodes_of facts) (moved : IsPermutation (links_of facts) links) (are : drafts ≡ map (draft_link m) links) (kept : AreKept facts 5) where
  no-zero : NoZero drafts → AreKept facts 6
  no-zero none = kept-more facts 5 (Zero 0 0) refl kept (λ k z. none k (zero-from m (links_of facts) links drafts moved are k z))

  none-twice : NoZero drafts → NoneTwice drafts → AreKept facts 7
  none-twice none once = kept-more facts 6 (Twice 0 0) refl (no-zero none) (λ k t. once k (twice-from m (links_of facts) links drafts moved are k t))

  few : NoZero drafts → NoneTwice drafts → length nodes ≤ 256 → AreKept facts 8
  few none once le = kept-more facts 7 (ManyNodes 0) refl (none-twice none once) (subst (λ (l : List ℕ). length l ≤ 256) its le)

  pub accepted : IsAcceptedDraft nodes drafts → AreKept facts 9
  accepted a = kept-more facts 8 (ManyLinks 0) refl (few a.metrics a.keys a.few_nodes) (subst (λ n. n ≤ 2048) (length-same m (links_of facts) links drafts moved are) a.few_links)

  pub refused : (fault : GraphFault) → IsRefusal nodes drafts fault → IsDomainFault facts (domain_fault fault)
  refused (ZeroMetric from to) r = record {
    broken = least-moved (HasZero drafts) (HasZeroMetric (links_of facts)) (zero-to m (links_of facts) links drafts moved are) (zero-from m (links_of facts) links drafts moved are) from to r;
    earlier = kept;
  }
  refused (DuplicateLink from to) r = record {
    broken = least-moved (IsTwice drafts) (IsKeyRepeated (links_of facts)) (twice-to m (links_of facts) links drafts moved are) (twice-from m (links_of facts) links drafts moved are) from to r.1;
    earlier = no-zero r.0;
  }
  refused (TooManyNodes count) r = record {
    broken = (r.2, r.3 ∙ ap length its);
    earlier = none-twice r.0 r.1;
  }
  refused (TooManyLinks count) r = record {
    broken = (r.3, r.4 ∙ length-same m (links_of facts) links drafts moved are);
    earlier = few r.0 r.1 r.2;
  }
  refused (Memory fault) r = tt
