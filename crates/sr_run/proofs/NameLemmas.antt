-- What is missing of a name, and what is there, in the words of what is told.
use Rattle.std.proofs.Common.{◌≡◌, ℕ, ◌⊎◌, true, Some, None, is_some, inl, inr, refl, subst, ap}
use Rattle.sr_model.specs.declared.case.Case.{Case}
use Rattle.sr_model.specs.declared.case.Kind.{Kind}
use Rattle.sr_model.specs.declared.name.LinkKey.{LinkKey}
use Rattle.sr_model.specs.Graph.{Graph}
use Rattle.sr_model.specs.declared.link.LinkNo.{LinkNo}
use Rattle.sr_model.specs.Case.{IsAffected}
use Rattle.sr_model.specs.Label.{Net, labels_at}
use Rattle.sr_script.specs.declared.name.EndNames.{EndNames}
use Rattle.sr_script.specs.declared.name.LinkName.{LinkName}
use Rattle.sr_script.specs.declared.name.RepairName.{RepairName}
use Rattle.sr_print.specs.declared.refusal.Refusal.{Refusal}
use Rattle.sr_print.specs.declared.refusal.Refusal.TheVariants.{NoNode, NoDestination, NotAffected}
use Rattle.sr_run.specs.Names.{NamesNode, IsNamedNode, NoLinkOf, OfNode, OfEnds, OfAnnounced, OfLink, OfNamedLink, OfFailure, OfAffected, ends_named, key_meant, missing_link}
use Rattle.sr_run.specs.Handlers.{AreEnds, IsAnnounced, IsNamedLink, IsFailureOf, IsAffectedOf, LacksEnd, LacksAnnounced, LacksLink, LacksFailure, LacksAffected}

-- what is said of a refusal and of what is there may be said more weakly
node-weaker : (P Q : Refusal → Type 0) (g : Graph) (system : ℕ) (A B : ℕ → Type 0) → ((r : Refusal) → P r → Q r) → ((v : ℕ) → A v → B v) → OfNode P g system A → OfNode Q g system B
node-weaker P Q g system A B refuses holds (inl none) = inl (none.0, refuses _ none.1)
node-weaker P Q g system A B refuses holds (inr there) = inr (there.0, there.1, holds there.0 there.2)

ends-weaker : (P Q : Refusal → Type 0) (g : Graph) (ends : EndNames) (A B : ℕ → ℕ → Type 0) → ((r : Refusal) → P r → Q r) → ((u v : ℕ) → A u v → B u v) → OfEnds P g ends A → OfEnds Q g ends B
ends-weaker P Q g ends A B refuses holds =
    node-weaker P Q g ends.from (λ u. OfNode P g ends.to (λ v. A u v)) (λ u. OfNode Q g ends.to (λ v. B u v)) refuses
    (λ u. node-weaker P Q g ends.to (λ v. A u v) (λ v. B u v) refuses (holds u))

key-weaker : (P Q : Refusal → Type 0) (net : Net) (name : LinkName) (A B : LinkKey → Type 0) → ((r : Refusal) → P r → Q r) → ((k : LinkKey) → A k → B k)
    → ((key_meant net name ≡ None) × P (missing_link name)) ⊎ ((key : LinkKey) × (key_meant net name ≡ Some key) × A key)
    → ((key_meant net name ≡ None) × Q (missing_link name)) ⊎ ((key : LinkKey) × (key_meant net name ≡ Some key) × B key)
key-weaker P Q net name A B refuses holds (inl none) = inl (none.0, refuses _ none.1)
key-weaker P Q net name A B refuses holds (inr there) = inr (there.0, there.1, holds there.0 there.2)

pub announced-weaker : (P Q : Refusal → Type 0) (net : Net) (name : LinkName) (A B : LinkKey → Type 0) → ((r : Refusal) → P r → Q r) → ((k : LinkKey) → A k → B k) → OfAnnounced P net name A → OfAnnounced Q net name B
announced-weaker P Q net name A B refuses holds = ends-weaker P Q net.graph (ends_named name) _ _ refuses (λ u v. key-weaker P Q net name A B refuses holds)

link-weaker : (P Q : Refusal → Type 0) (net : Net) (name : LinkName) (A B : LinkNo → Type 0) → ((r : Refusal) → P r → Q r) → ((l : LinkNo) → A l → B l) → OfLink P net name A → OfLink Q net name B
link-weaker P Q net name A B refuses holds (inl none) = inl (none.0, refuses _ none.1)
link-weaker P Q net name A B refuses holds (inr there) = inr (there.0, there.1, holds there.0 there.2)

named_link-weaker : (P Q : Refusal → Type 0) (net : Net) (name : LinkName) (A B : LinkNo → Type 0) → ((r : Refusal) → P r → Q r) → ((l : LinkNo) → A l → B l) → OfNamedLink P net name A → OfNamedLink Q net name B
named_link-weaker P Q net name A B refuses holds = ends-weaker P Q net.graph (ends_named name) _ _ refuses (λ u v. link-weaker P Q net name A B refuses holds)

failure-weaker : (P Q : Refusal → Type 0) (net : Net) (repair : RepairName) (A B : Case → ℕ → Type 0) → ((r : Refusal) → P r → Q r) → ((c : Case) (d : ℕ) → A c d → B c d) → OfFailure P net repair A → OfFailure Q net repair B
failure-weaker P Q net repair A B refuses holds = ends-weaker P Q net.graph (ends_named repair.link) _ _ refuses (λ u v.
    node-weaker P Q net.graph repair.dest _ _ refuses (λ d.
    link-weaker P Q net repair.link (λ link. A (record { kind = repair.kind; link = link }) d) (λ link. B (record { kind = repair.kind; link = link }) d) refuses (λ link. holds (record { kind = repair.kind; link = link }) d)))

-- what is said of a destination of a case
abbrev AffectedHere : (Refusal → Type 0) → Net → RepairName → (Case → ℕ → Type 0) → Case → ℕ → Type 0
AffectedHere P net repair A c d =
    (((labels_at net d).index ≡ None) × P (NoDestination repair.dest))
    ⊎ (((is_some (labels_at net d).index ≡ true) × ¬ IsAffected net c d × P (NotAffected repair.dest))
    ⊎ (IsAffected net c d × A c d))

here-weaker : (P Q : Refusal → Type 0) (net : Net) (repair : RepairName) (A B : Case → ℕ → Type 0) → ((r : Refusal) → P r → Q r) → ((c : Case) (d : ℕ) → A c d → B c d) → (c : Case) (d : ℕ) → AffectedHere P net repair A c d → AffectedHere Q net repair B c d
here-weaker P Q net repair A B refuses holds c d (inl none) = inl (none.0, refuses _ none.1)
here-weaker P Q net repair A B refuses holds c d (inr (inl far)) = inr (inl (far.0, far.1, refuses _ far.2))
here-weaker P Q net repair A B refuses holds c d (inr (inr there)) = inr (inr (there.0, holds c d there.1))

affected-weaker : (P Q : Refusal → Type 0) (net : Net) (repair : RepairName) (A B : Case → ℕ → Type 0) → ((r : Refusal) → P r → Q r) → ((c : Case) (d : ℕ) → A c d → B c d) → OfAffected P net repair A → OfAffected Q net repair B
affected-weaker P Q net repair A B refuses holds = failure-weaker P Q net repair (AffectedHere P net repair A) (AffectedHere Q net repair B) refuses (here-weaker P Q net repair A B refuses holds)

module _ (refuses : Refusal → Type 0) (reason : Refusal) (is : refuses reason) where
  told : (missing : Refusal) → reason ≡ missing → refuses missing
  told missing same = subst refuses same is

  -- a refusal that names what is missing is told
  pub lacks-end : (net : Net) (ends : EndNames) (holds : ℕ → ℕ → Type 0) → LacksEnd net ends reason → OfEnds refuses net.graph ends holds
  lacks-end net ends holds = ends-weaker (λ missing. reason ≡ missing) refuses net.graph ends (λ u v. ⊥) holds told (λ u v no. absurd no)

  pub lacks-announced : (net : Net) (name : LinkName) (holds : LinkKey → Type 0) → LacksAnnounced net name reason → OfAnnounced refuses net name holds
  lacks-announced net name holds = announced-weaker (λ missing. reason ≡ missing) refuses net name (λ k. ⊥) holds told (λ k no. absurd no)

  pub lacks-named_link : (net : Net) (name : LinkName) (holds : LinkNo → Type 0) → LacksLink net name reason → OfNamedLink refuses net name holds
  lacks-named_link net name holds = named_link-weaker (λ missing. reason ≡ missing) refuses net name (λ l. ⊥) holds told (λ l no. absurd no)

  pub lacks-failure : (net : Net) (repair : RepairName) (holds : Case → ℕ → Type 0) → LacksFailure net repair reason → OfFailure refuses net repair holds
  lacks-failure net repair holds = failure-weaker (λ missing. reason ≡ missing) refuses net repair (λ c d. ⊥) holds told (λ c d no. absurd no)

  pub lacks-affected : (net : Net) (repair : RepairName) (holds : Case → ℕ → Type 0) → LacksAffected net repair reason → OfAffected refuses net repair holds
  lacks-affected net repair holds = affected-weaker (λ missing. reason ≡ missing) refuses net repair (λ c d. ⊥) holds told (λ c d no. absurd no)

-- what holds of what is there is told
pub has-ends : (refuses : Refusal → Type 0) (net : Net) (ends : EndNames) (from to : ℕ) (holds : ℕ → ℕ → Type 0) → AreEnds net ends from to → holds from to → OfEnds refuses net.graph ends holds
has-ends refuses net ends from to holds are is = inr (from, are.0, inr (to, are.1, is))

pub has-announced : (refuses : Refusal → Type 0) (net : Net) (name : LinkName) (key : LinkKey) (holds : LinkKey → Type 0) → IsAnnounced net name key → holds key → OfAnnounced refuses net name holds
has-announced refuses net name key holds a is = inr (a.from.0, a.from.1, inr (a.to.0, a.to.1, inr (key, a.key_is, is)))

pub has-named_link : (refuses : Refusal → Type 0) (net : Net) (name : LinkName) (link : LinkNo) (holds : LinkNo → Type 0) → IsNamedLink net name link → holds link → OfNamedLink refuses net name holds
has-named_link refuses net name link holds a is = inr (a.from.0, a.from.1, inr (a.to.0, a.to.1, inr (link, a.link_is, is)))

pub has-failure : (refuses : Refusal → Type 0) (net : Net) (repair : RepairName) (case : Case) (d : ℕ) (holds : Case → ℕ → Type 0) → IsFailureOf net repair case d → holds case d → OfFailure refuses net repair holds
has-failure refuses net repair case d holds f is =
    let same : case ≡ record { kind = repair.kind; link = case.link } = ap (λ (k : Kind). record { kind = k; link = case.link }) f.kind in
    inr (f.from.0, f.from.1, inr (f.to.0, f.to.1, inr (d, f.dest, inr (case.link, f.link, subst (λ (c : Case). holds c d) same is))))

pub has-affected : (refuses : Refusal → Type 0) (net : Net) (repair : RepairName) (case : Case) (d : ℕ) (holds : Case → ℕ → Type 0) → IsAffectedOf net repair case d → holds case d → OfAffected refuses net repair holds
has-affected refuses net repair case d holds a is = has-failure refuses net repair case d (AffectedHere refuses net repair holds) a.failure (inr (inr (a.affected, is)))

-- a destination without an index, or that the case doesn't affect, is refused
no-index : (refuses : Refusal → Type 0) (net : Net) (repair : RepairName) (case : Case) (d : ℕ) (holds : Case → ℕ → Type 0) → IsFailureOf net repair case d → (labels_at net d).index ≡ None → refuses (NoDestination repair.dest) → OfAffected refuses net repair holds
no-index refuses net repair case d holds f none is = has-failure refuses net repair case d (AffectedHere refuses net repair holds) f (inl (none, is))

not-affected : (refuses : Refusal → Type 0) (net : Net) (repair : RepairName) (case : Case) (d : ℕ) (holds : Case → ℕ → Type 0) → IsFailureOf net repair case d → is_some (labels_at net d).index ≡ true → ¬ IsAffected net case d → refuses (NotAffected repair.dest) → OfAffected refuses net repair holds
not-affected refuses net repair case d holds f some far is = has-failure refuses net repair case d (AffectedHere refuses net repair holds) f (inr (inl (some, far, is)))

-- what follows from each refusal and from what is there follows
node-then : (R : Type 0) (P : Refusal → Type 0) (g : Graph) (system : ℕ) (A : ℕ → Type 0) → ((r : Refusal) → P r → R) → ((v : ℕ) → A v → R) → OfNode P g system A → R
node-then R P g system A refused held (inl none) = refused _ none.1
node-then R P g system A refused held (inr there) = held there.0 there.2

key-then : (R : Type 0) (P : Refusal → Type 0) (net : Net) (name : LinkName) (A : LinkKey → Type 0) → ((r : Refusal) → P r → R) → ((k : LinkKey) → A k → R)
    → ((key_meant net name ≡ None) × P (missing_link name)) ⊎ ((key : LinkKey) × (key_meant net name ≡ Some key) × A key) → R
key-then R P net name A refused held (inl none) = refused _ none.1
key-then R P net name A refused held (inr there) = held there.0 there.2

pub announced-then : (R : Type 0) (P : Refusal → Type 0) (net : Net) (name : LinkName) (A : LinkKey → Type 0) → ((r : Refusal) → P r → R) → ((k : LinkKey) → A k → R) → OfAnnounced P net name A → R
announced-then R P net name A refused held =
    node-then R P net.graph name.from _ refused (λ u. node-then R P net.graph name.to _ refused (λ v. key-then R P net name A refused held))

-- a link that the net lacks, and a destination that is no node, are missing
pub lacks-named : (net : Net) (name : LinkName) (from to : ℕ) (reason : Refusal) → AreEnds net (ends_named name) from to → NoLinkOf net name → reason ≡ missing_link name → LacksLink net name reason
lacks-named net name from to reason are none is = inr (from, are.0, inr (to, are.1, inl (none, is)))

pub lacks-dest : (net : Net) (repair : RepairName) (from to : ℕ) (reason : Refusal) → AreEnds net (ends_named repair.link) from to → (NamesNode net.graph repair.dest → ⊥) → reason ≡ NoNode repair.dest → LacksFailure net repair reason
lacks-dest net repair from to reason are none is = inr (from, are.0, inr (to, are.1, inl (none, is)))

pub lacks-link : (net : Net) (repair : RepairName) (from to d : ℕ) (reason : Refusal) → AreEnds net (ends_named repair.link) from to → IsNamedNode net.graph repair.dest d → NoLinkOf net repair.link → reason ≡ missing_link repair.link → LacksFailure net repair reason
lacks-link net repair from to d reason are dest none is = inr (from, are.0, inr (to, are.1, inr (d, dest, inl (none, is))))

-- what is missing of a failure is missing of one that affects the destination; and so is an index, and that it affects it
pub fails-affected : (net : Net) (repair : RepairName) (reason : Refusal) → LacksFailure net repair reason → LacksAffected net repair reason
fails-affected net repair reason lacks =
    lacks-failure (λ missing. reason ≡ missing) reason refl net repair (AffectedHere (λ missing. reason ≡ missing) net repair (λ case d. ⊥)) lacks

pub lacks-index : (net : Net) (repair : RepairName) (case : Case) (d : ℕ) → IsFailureOf net repair case d → (labels_at net d).index ≡ None → LacksAffected net repair (NoDestination repair.dest)
lacks-index net repair case d f none = no-index (λ missing. NoDestination repair.dest ≡ missing) net repair case d (λ c e. ⊥) f none refl

pub lacks-effect : (net : Net) (repair : RepairName) (case : Case) (d : ℕ) → IsFailureOf net repair case d → is_some (labels_at net d).index ≡ true → ¬ IsAffected net case d → LacksAffected net repair (NotAffected repair.dest)
lacks-effect net repair case d f some far = not-affected (λ missing. NotAffected repair.dest ≡ missing) net repair case d (λ c e. ⊥) f some far refl
