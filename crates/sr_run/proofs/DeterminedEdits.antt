-- Edits, `drop` and `commit` are told alike, and leave one state.
use Rattle.std.proofs.Common.{◌≡◌, ℕ, ◌+◌, List, length, refl, sym, ap, subst, ◌∙◌, arith, inl, inr, Option, Some, None}
use Rattle.sr_model.specs.declared.name.LinkKey.{LinkKey}
use Rattle.sr_model.specs.declared.rule.DomainRule.{DomainRule}
use Rattle.sr_model.specs.Graph.{IsNamed}
use Rattle.sr_model.specs.Label.{Net}
use Rattle.sr_wire.specs.declared.fault.Malformed.{Malformed}
use Rattle.sr_lsp.specs.declared.lsp.Lsp.{Lsp}
use Rattle.sr_lsp.proofs.LspLemmas.{not_broken, same_fault, same_lsp}
use Rattle.sr_lsdb.specs.declared.facts.Stored.{Stored}
use Rattle.sr_lsdb.specs.Edit.{Edit}
use Rattle.sr_lsdb.specs.Edit.Edit.{Announce}
use Rattle.sr_lsdb.specs.Facts.{IsTaken, stored_under}
use Rattle.sr_lsdb.specs.Staging.{IsStale}
use Rattle.sr_domain.proofs.DeterminedNets.{net-one}
use Rattle.sr_domain.proofs.DeterminedRules.{fault-one, broken-no_net}
use Rattle.sr_script.specs.declared.name.LinkName.{LinkName}
use Rattle.sr_print.specs.declared.refusal.Refusal.TheVariants.{Stale, StagedFull, VersionsFull, Rule}
use Rattle.sr_print.specs.Told.{Told}
use Rattle.sr_print.specs.Told.Told.{Staged, Dropped, Version, Refused}
use Rattle.sr_repair.specs.Version.{NumberedNet, version_of}
use Rattle.sr_run.specs.Domain.{Domain, with_staged, with_dropped, with_net}
use Rattle.sr_run.specs.Edits.{Refuses, StagesEdit, StagesPdu, Announces, EditsNamed, DropsStaged, Commits, malformed_pdu}
use Rattle.sr_run.proofs.DeterminedTold.{AreOne, alike, one-refused}
use Rattle.sr_run.proofs.DeterminedNames.{of-announced}

-- a PDU is stale in one way, and isn't taken
stale-one : (stored : Option Stored) (lsp : Lsp) (number own more other : ℕ) → IsStale stored lsp number own → IsStale stored lsp more other → (number ≡ more) × (own ≡ other)
stale-one None lsp number own more other p q = absurd p
stale-one (Some stored) lsp number own more other p q = (p.1 ∙ sym q.1, p.2 ∙ sym q.2)

stale-not_taken : (stored : Option Stored) (lsp : Lsp) (number own : ℕ) → IsStale stored lsp number own → IsTaken stored lsp → ⊥
stale-not_taken None lsp number own p q = p
stale-not_taken (Some stored) lsp number own p q = p.0 q

module _ (old : Domain) (a b : Told) (new next : Domain) where
  -- both are told the same of one state
  same : (told : Told) (state : Domain) → a ≡ told → b ≡ told → new ≡ state → next ≡ state → AreOne a b new next
  same told state p q r s = record { told = alike a b told told p q refl; state = r ∙ sym s }

  -- an edit is staged, or too many are
  pub staged-one : (edit : Edit) → StagesEdit edit old a new → StagesEdit edit old b next → AreOne a b new next
  staged-one edit (inl p) (inl q) = one-refused old a b new next StagedFull p.1 q.1
  staged-one edit (inl p) (inr q) = absurd (omega (arith, p.0, q.0))
  staged-one edit (inr p) (inl q) = absurd (omega (arith, p.0, q.0))
  staged-one edit (inr p) (inr q) = same (Staged (old.editing.staged + 1)) (with_staged old edit) p.1 q.1 p.2 q.2

  pdu-one : (lsp : Lsp) → StagesPdu lsp old a new → StagesPdu lsp old b next → AreOne a b new next
  pdu-one lsp (inl p) (inl q) =
      let e = stale-one (stored_under old.editing.tentative lsp.id) lsp p.0 p.1 q.0 q.1 p.2 q.2 in
      let reason : Stale q.0 q.1 ≡ Stale p.0 p.1 = ap (λ (n : ℕ). Stale n q.1) (sym e.0) ∙ ap (Stale p.0) (sym e.1) in
      one-refused old a b new next (Stale p.0 p.1) p.3 (subst (Refuses old b next) reason q.3)
  pdu-one lsp (inl p) (inr q) = absurd (stale-not_taken (stored_under old.editing.tentative lsp.id) lsp p.0 p.1 p.2 q.0)
  pdu-one lsp (inr p) (inl q) = absurd (stale-not_taken (stored_under old.editing.tentative lsp.id) lsp q.0 q.1 q.2 p.0)
  pdu-one lsp (inr p) (inr q) = staged-one (Announce lsp) p.1 q.1

  -- octets fail one check, or are one PDU
  pub announces-one : (octets : List ℕ) → Announces octets old a new → Announces octets old b next → AreOne a b new next
  announces-one octets (inl p) (inl q) =
      let e : q.0 ≡ p.0 = same_fault octets q.0 p.0 q.1 p.1 in
      one-refused old a b new next (malformed_pdu p.0) p.2 (subst (λ (m : Malformed). Refuses old b next (malformed_pdu m)) e q.2)
  announces-one octets (inl p) (inr q) = absurd (not_broken octets q.0 p.0 q.1 p.1)
  announces-one octets (inr p) (inl q) = absurd (not_broken octets p.0 q.0 p.1 q.1)
  announces-one octets (inr p) (inr q) =
      let e : q.0 ≡ p.0 = same_lsp octets q.0 p.0 q.1 p.1 in
      pdu-one p.0 p.2 (subst (λ (lsp : Lsp). StagesPdu lsp old b next) e q.2)

  -- a name means one announced link, or what is missing of it is one thing
  pub link-edited-one : (edit : LinkKey → Edit) (link : LinkName) (version : NumberedNet) → IsNamed version.net.graph → EditsNamed edit link (Some version) old a new → EditsNamed edit link (Some version) old b next → AreOne a b new next
  link-edited-one edit link version named =
      of-announced (AreOne a b new next) (Refuses old a new) (Refuses old b next) (one-refused old a b new next) version.net named link _ _ (λ key. staged-one (edit key))

  -- the staged edits are dropped
  pub dropped-one : DropsStaged old a new → DropsStaged old b next → AreOne a b new next
  dropped-one p q = same (Dropped old.editing.staged) (with_dropped old) p.0 q.0 p.1 q.1

  -- a commit is rejected by one rule, or makes one net
  pub commit-one : Commits old a new → Commits old b next → AreOne a b new next
  commit-one (inl p) (inl q) = one-refused old a b new next VersionsFull p.1 q.1
  commit-one (inl p) (inr q) = absurd (omega (arith, p.0, q.0))
  commit-one (inr p) (inl q) = absurd (omega (arith, p.0, q.0))
  commit-one (inr (room, inl p)) (inr (more, inl q)) =
      let e : p.rule ≡ q.rule = fault-one old.editing.tentative p.rule q.rule p.broken q.broken in
      record { told = alike a b (Refused (Rule p.rule)) (Refused (Rule q.rule)) p.told_is q.told_is (ap (λ (r : DomainRule). Refused (Rule r)) e); state = p.dropped ∙ sym q.dropped }
  commit-one (inr (room, inl p)) (inr (more, inr q)) = absurd (broken-no_net old.editing.tentative p.rule q.net p.broken q.is_net)
  commit-one (inr (room, inr p)) (inr (more, inl q)) = absurd (broken-no_net old.editing.tentative q.rule p.net q.broken p.is_net)
  commit-one (inr (room, inr p)) (inr (more, inr q)) =
      let e : p.net ≡ q.net = net-one old.editing.tentative p.net q.net p.is_net q.is_net in
      record {
        told = alike a b (Version (version_of (length old.nets + 1) p.net)) (Version (version_of (length old.nets + 1) q.net)) p.told_is q.told_is (ap (λ (n : Net). Version (version_of (length old.nets + 1) n)) e);
        state = p.accepted ∙ ap (with_net old) e ∙ sym q.accepted;
      }
