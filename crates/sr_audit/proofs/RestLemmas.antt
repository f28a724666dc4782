-- That there are items of all cases, since each case has its answers.
use Rattle.std.proofs.Common.{◌≡◌, ℕ, zero, suc, ◌+◌, ◌-◌, ◌*◌, ◌<◌, ◌≤◌, ⊎_elim, List, [], ◌++◌, refl, arith, subst}
use Rattle.std.proofs.lemmas.Bool.{cases_lt}
use Rattle.sr_model.specs.declared.case.Case.{Case}
use Rattle.sr_model.specs.declared.case.Kind.TheVariants.{Link as LinkKind, Node as NodeKind, Risk as RiskKind}
use Rattle.sr_model.specs.declared.audit.Item.{Item}
use Rattle.sr_model.specs.declared.audit.Counts.{Counts}
use Rattle.sr_model.specs.Audit.{counts_of}
use Rattle.sr_model.specs.Case.{IsCase}
use Rattle.sr_model.specs.Graph.{Graph, link_count}
use Rattle.sr_model.specs.Label.{Net}
use Rattle.sr_model.specs.Rule.{IsNet}
use Rattle.sr_repair.specs.Answers.{place_of, case_count, IsAnswered}
use Rattle.sr_audit.specs.Cases.{AreBetween, IsAuditAt}
use Rattle.sr_audit.specs.Counted.{AreAuditCounts}
use Rattle.sr_audit.proofs.CaseLemmas.{items-audit, items-few, items-there}
use Rattle.sr_audit.proofs.JoinLemmas.{between-more, between-none, between-audit}

-- the case at a place
case-at : (g : Graph) (place : ℕ) → place < case_count g → (case : Case) × IsCase g case × (place_of g case ≡ place)
case-at g place lt =
    ⊎_elim
    (λ (low : place < link_count g). (record { kind = LinkKind; link = record { 0 = place } }, low, omega arith))
    (λ (high : link_count g ≤ place).
    ⊎_elim
    (λ (low : place < 2 * link_count g). (record { kind = NodeKind; link = record { 0 = place - link_count g } }, omega arith, omega arith))
    (λ (higher : 2 * link_count g ≤ place). (record { kind = RiskKind; link = record { 0 = place - 2 * link_count g } }, omega (arith, lt), omega arith))
    (cases_lt place (2 * link_count g)))
    (cases_lt place (link_count g))

-- it has items
pub audit-there : (n : Net) → IsNet n → IsAnswered n → (place : ℕ) → place < case_count n.graph → (items : List Item) × IsAuditAt n place items
audit-there n net answered place lt =
    let at = case-at n.graph place lt in
    let answers = answered at.0 at.1 in
    let items = items-there n at.0 answers.0 net answers.1 in (
      items.0,
      record {
        case = at.0;
        within = at.1;
        place_is = at.2;
        audit = items-audit n at.0 answers.0 items.0 at.1 answers.1 items.1;
        few = items-few n at.0 answers.0 items.0 net answers.1 items.1;
      },
    )

-- and so have the k cases from a place on
between-there : (n : Net) → IsNet n → IsAnswered n → (m k p : ℕ) → m + k ≡ p → p ≤ case_count n.graph → (items : List Item) × AreBetween n m p items
between-there n net answered m zero p e within = let here : m ≡ p = omega (arith, e) in ([], subst (λ q. AreBetween n m q []) here (between-none n m))
between-there n net answered m (suc k) p e within =
    let r = between-there n net answered m k (m + k) refl (omega (arith, e, within)) in
    let at = audit-there n net answered (m + k) (omega (arith, e, within)) in
    let here : m + k + 1 ≡ p = omega (arith, e) in
    (r.0 ++ at.0, subst (λ q. AreBetween n m q (r.0 ++ at.0)) here (between-more n m (m + k) r.0 at.0 (omega arith) r.1 at.1))

-- the items of the cases from a place on
pub rest-there : (n : Net) → IsNet n → IsAnswered n → (m : ℕ) → m ≤ case_count n.graph → (items : List Item) × AreBetween n m (case_count n.graph) items
rest-there n net answered m within = between-there n net answered m (case_count n.graph - m) (case_count n.graph) (omega (arith, within)) (omega arith)

-- and the counts of all
pub counts-there : (n : Net) → IsNet n → IsAnswered n → (counts : Counts) × AreAuditCounts n counts
counts-there n net answered =
    let all = rest-there n net answered 0 (omega arith) in
    (counts_of all.0, record { items = all.0; audit = between-audit n all.0 all.1; counted = refl })
