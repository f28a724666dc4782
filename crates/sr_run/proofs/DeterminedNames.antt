-- What a line names of a net is one thing, or is missing: what follows from two equal refusals, and from two facts of one thing, follows from two tellings.
use Rattle.std.proofs.Common.{◌≡◌, ℕ, ◌⊎◌, inl, inr, true, sym, subst, ◌∙◌, Some, None}
use Rattle.std.specs.Prelude.{is_some}
use Rattle.std.proofs.lemmas.Option.{same_Some}
use Rattle.sr_model.specs.declared.case.Case.{Case}
use Rattle.sr_model.specs.declared.link.LinkNo.{LinkNo}
use Rattle.sr_model.specs.declared.name.LinkKey.{LinkKey}
use Rattle.sr_model.specs.Case.{IsAffected, key_at}
use Rattle.sr_model.specs.Graph.{Graph, IsNamed}
use Rattle.sr_model.specs.Label.{Net, labels_at}
use Rattle.sr_laws.proofs.Keys.{key-one, system-one}
use Rattle.sr_laws.proofs.Parts.{link_is}
use Rattle.sr_script.specs.declared.name.EndNames.{EndNames}
use Rattle.sr_script.specs.declared.name.LinkName.{LinkName}
use Rattle.sr_script.specs.declared.name.RepairName.{RepairName}
use Rattle.sr_print.specs.declared.refusal.Refusal.{Refusal}
use Rattle.sr_print.specs.declared.refusal.Refusal.TheVariants.{NoNode, NoDestination, NotAffected}
use Rattle.sr_run.specs.Names.{IsLinkOf, OfNode, OfEnds, OfAnnounced, OfLink, OfNamedLink, OfFailure, OfAffected, ends_named, key_meant, missing_link}
use Rattle.sr_seq.proofs.ListLemmas.{none-not_some}

-- a name means one link
pub link-one : (net : Net) → IsNamed net.graph → (name : LinkName) (a b : LinkNo) → IsLinkOf net name a → IsLinkOf net name b → a ≡ b
link-one net named name a b p q =
    link_is a b (key-one net.graph named a.0 b.0 p.within q.within (same_Some (key_at net.graph a.0) (key_at net.graph b.0) (sym p.named ∙ q.named)))

-- nor is a key both
not_both : (net : Net) (name : LinkName) (key : LinkKey) → key_meant net name ≡ None → key_meant net name ≡ Some key → ⊥
not_both net name key none some = let e : Some key ≡ None = sym some ∙ none in absurd (cc)

module _ (R : Type 0) (P Q : Refusal → Type 0) (refused : (reason : Refusal) → P reason → Q reason → R) where
  -- two tellings of a node
  pub of-node : (g : Graph) → IsNamed g → (system : ℕ) (A B : ℕ → Type 0) → ((v : ℕ) → A v → B v → R) → OfNode P g system A → OfNode Q g system B → R
  of-node g named system A B held (inl none) (inl also) = refused (NoNode system) none.1 also.1
  of-node g named system A B held (inl none) (inr there) = absurd (none.0 (there.0, there.1))
  of-node g named system A B held (inr there) (inl none) = absurd (none.0 (there.0, there.1))
  of-node g named system A B held (inr a) (inr b) =
      let same : b.0 ≡ a.0 = system-one g named b.0 a.0 b.1.0 a.1.0 (b.1.1 ∙ sym a.1.1) in
      held a.0 a.2 (subst B same b.2)

  -- of two nodes
  pub of-ends : (g : Graph) → IsNamed g → (ends : EndNames) (A B : ℕ → ℕ → Type 0) → ((u v : ℕ) → A u v → B u v → R) → OfEnds P g ends A → OfEnds Q g ends B → R
  of-ends g named ends A B held =
      of-node g named ends.from (λ u. OfNode P g ends.to (λ v. A u v)) (λ u. OfNode Q g ends.to (λ v. B u v))
      (λ u. of-node g named ends.to (λ v. A u v) (λ v. B u v) (held u))

  -- of a link of the net
  pub of-link : (net : Net) → IsNamed net.graph → (name : LinkName) (A B : LinkNo → Type 0) → ((l : LinkNo) → A l → B l → R) → OfLink P net name A → OfLink Q net name B → R
  of-link net named name A B held (inl none) (inl also) = refused (missing_link name) none.1 also.1
  of-link net named name A B held (inl none) (inr there) = absurd (none.0 there.0 there.1)
  of-link net named name A B held (inr there) (inl none) = absurd (none.0 there.0 there.1)
  of-link net named name A B held (inr a) (inr b) =
      let same : b.0 ≡ a.0 = link-one net named name b.0 a.0 b.1 a.1 in
      held a.0 a.2 (subst B same b.2)

  -- and of one whose ends are named
  pub of-named_link : (net : Net) → IsNamed net.graph → (name : LinkName) (A B : LinkNo → Type 0) → ((l : LinkNo) → A l → B l → R) → OfNamedLink P net name A → OfNamedLink Q net name B → R
  of-named_link net named name A B held = of-ends net.graph named (ends_named name) _ _ (λ u v. of-link net named name A B held)

  -- of a case and a destination
  pub of-failure : (net : Net) → IsNamed net.graph → (repair : RepairName) (A B : Case → ℕ → Type 0) → ((c : Case) (d : ℕ) → A c d → B c d → R) → OfFailure P net repair A → OfFailure Q net repair B → R
  of-failure net named repair A B held =
      of-ends net.graph named (ends_named repair.link) _ _ (λ u v. of-node net.graph named repair.dest _ _ (λ d. of-link net named repair.link _ _ (λ l. held (record { kind = repair.kind; link = l }) d)))

  affected : (net : Net) (dest : ℕ) (case : Case) (d : ℕ) (A B : Type 0) → (A → B → R)
      → (((labels_at net d).index ≡ None) × P (NoDestination dest)) ⊎ (((is_some (labels_at net d).index ≡ true) × ¬ IsAffected net case d × P (NotAffected dest)) ⊎ (IsAffected net case d × A))
      → (((labels_at net d).index ≡ None) × Q (NoDestination dest)) ⊎ (((is_some (labels_at net d).index ≡ true) × ¬ IsAffected net case d × Q (NotAffected dest)) ⊎ (IsAffected net case d × B))
      → R
  affected net dest case d A B held (inl none) (inl also) = refused (NoDestination dest) none.1 also.1
  affected net dest case d A B held (inl none) (inr (inl far)) = absurd (none-not_some (labels_at net d).index none.0 far.0)
  affected net dest case d A B held (inl none) (inr (inr near)) = absurd (none-not_some (labels_at net d).index none.0 near.0.index)
  affected net dest case d A B held (inr (inl far)) (inl none) = absurd (none-not_some (labels_at net d).index none.0 far.0)
  affected net dest case d A B held (inr (inl far)) (inr (inl also)) = refused (NotAffected dest) far.2 also.2
  affected net dest case d A B held (inr (inl far)) (inr (inr near)) = absurd (far.1 near.0)
  affected net dest case d A B held (inr (inr near)) (inl none) = absurd (none-not_some (labels_at net d).index none.0 near.0.index)
  affected net dest case d A B held (inr (inr near)) (inr (inl far)) = absurd (far.1 near.0)
  affected net dest case d A B held (inr (inr a)) (inr (inr b)) = held a.1 b.1

  -- of a destination that the case affects
  pub of-affected : (net : Net) → IsNamed net.graph → (repair : RepairName) (A B : Case → ℕ → Type 0) → ((c : Case) (d : ℕ) → A c d → B c d → R) → OfAffected P net repair A → OfAffected Q net repair B → R
  of-affected net named repair A B held = of-failure net named repair _ _ (λ c d. affected net repair.dest c d (A c d) (B c d) (held c d))

  announced : (net : Net) (name : LinkName) (A B : LinkKey → Type 0) → ((key : LinkKey) → A key → B key → R)
      → ((key_meant net name ≡ None) × P (missing_link name)) ⊎ ((key : LinkKey) × (key_meant net name ≡ Some key) × A key)
      → ((key_meant net name ≡ None) × Q (missing_link name)) ⊎ ((key : LinkKey) × (key_meant net name ≡ Some key) × B key)
      → R
  announced net name A B held (inl none) (inl also) = refused (missing_link name) none.1 also.1
  announced net name A B held (inl none) (inr there) = absurd (not_both net name there.0 none.0 there.1)
  announced net name A B held (inr there) (inl none) = absurd (not_both net name there.0 none.0 there.1)
  announced net name A B held (inr a) (inr b) =
      let same : b.0 ≡ a.0 = same_Some b.0 a.0 (sym b.1 ∙ a.1) in
      held a.0 a.2 (subst B same b.2)

  -- of an announced link
  pub of-announced : (net : Net) → IsNamed net.graph → (name : LinkName) (A B : LinkKey → Type 0) → ((key : LinkKey) → A key → B key → R) → OfAnnounced P net name A → OfAnnounced Q net name B → R
  of-announced net named name A B held = of-ends net.graph named (ends_named name) _ _ (λ u v. announced net name A B held)
