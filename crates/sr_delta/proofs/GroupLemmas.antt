-- What fails in an SRLG case where nothing changed at its source.
use Rattle.std.proofs.Common.{◌≡◌, ℕ, ⊎_elim, inl, inr, List, refl, sym, ◌∙◌, subst}
use Rattle.std.specs.Prelude.{Contains}
use Rattle.sr_model.specs.declared.case.Case.{Case}
use Rattle.sr_model.specs.declared.case.Kind.TheVariants.{Risk as RiskKind}
use Rattle.sr_model.specs.Key.{IsSamePair}
use Rattle.sr_model.specs.Graph.{Graph, tail, groups_at, IsGraph, IsNamed}
use Rattle.sr_model.specs.Case.{key_at, FailsWith, Touches, ShareGroup}
use Rattle.sr_model.specs.Stay.{HaveSameNodes, HaveSameName}
use Rattle.sr_laws.proofs.Keys.{key-one, name-ends, nodes-sym}
use Rattle.sr_delta.specs.Grouped.{IsGroupedAlike, HaveGroupsIn, HaveSameGroupsAt}
use Rattle.sr_delta.specs.Pairs.{HavePairsIn, HaveSameFailures}
use Rattle.sr_delta.proofs.FailureLemmas.{own-pair, name-sym, touches-across}

-- links in the same groups share one with links in the same groups
shares-across : (g h : Graph) (l p k q : ℕ) → groups_at g l ≡ groups_at h k → groups_at g p ≡ groups_at h q → ShareGroup g l p → ShareGroup h k q
shares-across g h l p k q one two share =
    (share.0, subst (λ (list : List ℕ). Contains list share.0) one share.1, subst (λ (list : List ℕ). Contains list share.0) two share.2)

-- what fails in the one graph has a partner that fails in the other
grouped-in : (g h : Graph) → IsGraph g → IsGraph h → IsNamed g → IsNamed h → HaveSameNodes g h → (a b : Case) → a.kind ≡ RiskKind → b.kind ≡ RiskKind → HaveSameName g h a.link.0 b.link.0 → tail h b.link.0 ≡ tail g a.link.0 → HaveGroupsIn g h (tail g a.link.0) → HavePairsIn g a h b
grouped-in g h gg gh ng nh same a b ka kb name at groups l lt fails =
    ⊎_elim
    (λ own. own-pair g h b a.link.0 l name (subst (λ k. FailsWith h k b.link.0 b.link.0) (sym kb) (inl (inl refl))) own)
    (λ near.
    let one : IsGroupedAlike g h l = groups l lt near.0 in
    let two : IsGroupedAlike g h a.link.0 = groups a.link.0 name.0 (inl refl) in
    let q : two.0 ≡ b.link.0 = key-one h nh two.0 b.link.0 two.1.1 name.1 (two.1.2 ∙ sym name.2) in
    let protected : groups_at g a.link.0 ≡ groups_at h b.link.0 = subst (λ k. groups_at g a.link.0 ≡ groups_at h k) q two.2 in
    let pair : IsSamePair (key_at h one.0) (key_at g l) = inl one.1.2 in
    let touch : Touches h one.0 (tail h b.link.0) = subst (λ v. Touches h one.0 v) (sym at) (touches-across g h gg gh ng nh same l one.0 (tail g a.link.0) lt one.1.1 pair near.0) in
    let there : FailsWith h RiskKind b.link.0 one.0 = inr (touch, shares-across g h l a.link.0 one.0 b.link.0 one.2 protected near.1) in
    (one.0, one.1.1, subst (λ k. FailsWith h k b.link.0 one.0) (sym kb) there, pair))
    (subst (λ k. FailsWith g k a.link.0 l) ka fails)

-- where the links at the source are the same, in the same groups, those of the same pairs fail
pub grouped-same : (g h : Graph) → IsGraph g → IsGraph h → IsNamed g → IsNamed h → HaveSameNodes g h → (a b : Case) → a.kind ≡ RiskKind → b.kind ≡ RiskKind → HaveSameName g h a.link.0 b.link.0 → HaveSameGroupsAt g h (tail g a.link.0) → HaveSameFailures g a h b
grouped-same g h gg gh ng nh same a b ka kb name groups =
    let at : tail h b.link.0 ≡ tail g a.link.0 = (name-ends g h gg gh ng nh same a.link.0 b.link.0 name).0 in
    record {
      there = grouped-in g h gg gh ng nh same a b ka kb name at groups.there;
      back = grouped-in h g gh gg nh ng (nodes-sym g h same) b a kb ka (name-sym g h a.link.0 b.link.0 name) (sym at) (subst (λ v. HaveGroupsIn h g v) (sym at) groups.back);
    }
