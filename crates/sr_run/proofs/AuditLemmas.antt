-- Audits that are written case by case.
use Rattle.std.proofs.Common.{◌≡◌, ℕ, ◌+◌, ◌<◌, ◌≤◌, List, [], ◌++◌, Some, sym, ap, subst, ◌∙◌, arith, append-nil}
use Rattle.std.proofs.lemmas.Grind.{flat_map-append}
use Rattle.std.specs.declared.result.Result.{Result}
use Rattle.std.specs.declared.result.Result.TheVariants.{Ok, Err}
use Rattle.std.specs.declared.alloc.AllocError.{AllocError}
use Rattle.sr_base.specs.declared.SinkFault.{SinkFault}
use Rattle.sr_base.specs.declared.SinkFault.TheVariants.{Memory}
use Rattle.sr_model.specs.declared.audit.Item.{Item}
use Rattle.sr_model.specs.Audit.{counts_of}
use Rattle.sr_model.specs.Label.{Net}
use Rattle.sr_model.specs.Rule.{IsNet}
use Rattle.sr_laws.proofs.Audits.{audit-one}
use Rattle.sr_repair.specs.Answers.{case_count, IsAnswered}
use Rattle.sr_repair.specs.Version.{NumberedNet}
use Rattle.sr_audit.specs.Cases.{AreBetween}
use Rattle.sr_audit.proofs.JoinLemmas.{between-none, between-append, between-audit}
use Rattle.sr_audit.proofs.RestLemmas.{rest-there}
use Rattle.sr_print.specs.Repairs.{item_line, item_lines, summary_line}
use Rattle.sr_listing.specs.Listed.{PutsCase}
use Rattle.sr_engine.specs.Written.{Written, Says, Breaks}
use Rattle.sr_engine.proofs.Answering.{says-nothing, says-then, breaks-then, breaks-more, breaks-nothing}
use Rattle.sr_run.specs.Handlers.{WritesAudit, WritesCases, WritesCounts, audit_text}

-- the lines of the cases before place m were written
pub record WroteCases (n : Net) (m : ℕ) (before after : Written) : Type 0 where
  pub items : List Item
  pub between : AreBetween n 0 m items
  pub says : Says before after (item_lines n items)

pub cases-none : (n : Net) (a : Written) → WroteCases n 0 a a
cases-none n a = record { items = []; between = between-none n 0; says = says-nothing a }

-- the lines of two lists, one behind the other, are those of both
lines-both : (n : Net) (xs ys : List Item) → item_lines n xs ++ item_lines n ys ≡ item_lines n (xs ++ ys)
lines-both n xs ys = sym (flat_map-append (item_line n) xs ys)

-- the next case
pub cases-more : (n : Net) (m : ℕ) (before now after : Written) (text : List ℕ) → WroteCases n m before now → PutsCase n m [] text → Says now after text → WroteCases n (m + 1) before after
cases-more n m before now after text r p s = record {
  items = r.items ++ p.items;
  between = between-append n 0 m (m + 1) r.items p.items (omega arith) (omega arith) r.between p.between;
  says = subst (Says before after) (ap (λ (l : List ℕ). item_lines n r.items ++ l) p.lines ∙ lines-both n r.items p.items) (says-then before now after (item_lines n r.items) text r.says s);
}

-- all cases
pub cases-all : (n : Net) (before after : Written) → WroteCases n (case_count n.graph) before after → WritesCases n before after (Ok tt)
cases-all n before after r = (r.items, between-audit n r.items r.between, r.says)

-- a fault behind the lines of some cases: the others have lines, too
broke-between : (n : Net) (m : ℕ) (before after : Written) (fault : SinkFault) → IsNet n → IsAnswered n → m ≤ case_count n.graph → (items : List Item) → AreBetween n 0 m items → Breaks before after (item_lines n items) fault → WritesCases n before after (Err fault)
broke-between n m before after fault net answered within items between b =
    let rest = rest-there n net answered m within in (
      items ++ rest.0,
      between-audit n (items ++ rest.0) (between-append n 0 m (case_count n.graph) items rest.0 (omega arith) within between rest.1),
      subst (λ (l : List ℕ). Breaks before after l fault) (lines-both n items rest.0) (breaks-more before after (item_lines n items) (item_lines n rest.0) fault b),
    )

-- a fault within the lines of the next case
pub cases-broke : (n : Net) (m : ℕ) (before now after : Written) (text : List ℕ) (fault : SinkFault) → IsNet n → IsAnswered n → m < case_count n.graph → WroteCases n m before now → PutsCase n m [] text → Breaks now after text fault → WritesCases n before after (Err fault)
cases-broke n m before now after text fault net answered less r p b =
    broke-between n (m + 1) before after fault net answered (omega (arith, less)) (r.items ++ p.items)
    (between-append n 0 m (m + 1) r.items p.items (omega arith) (omega arith) r.between p.between)
    (subst (λ (l : List ℕ). Breaks before after l fault) (ap (λ (l : List ℕ). item_lines n r.items ++ l) p.lines ∙ lines-both n r.items p.items) (breaks-then before now after (item_lines n r.items) text fault r.says b))

-- memory ran out before them
pub cases-stopped : (n : Net) (m : ℕ) (before now : Written) (error : AllocError) → IsNet n → IsAnswered n → m < case_count n.graph → WroteCases n m before now → WritesCases n before now (Err (Memory error))
cases-stopped n m before now error net answered less r =
    broke-between n m before now (Memory error) net answered (omega (arith, less)) r.items r.between
    (subst (λ (l : List ℕ). Breaks before now l (Memory error)) (append-nil (item_lines n r.items)) (breaks-then before now now (item_lines n r.items) [] (Memory error) r.says (breaks-nothing now error)))

-- behind the lines of all cases the counts: a net has one audit, so they are those of its items
pub audit-written : (version : NumberedNet) (before now after : Written) (result : Result (Unit {0}) SinkFault) → WritesCases version.net before now (Ok tt) → WritesCounts version now after result → WritesAudit (Some version) before after result
audit-written version before now after (Ok done) cases counts =
    let same = audit-one version.net counts.0 cases.0 counts.1 cases.1 in
    let says : Says now after (summary_line version.number (counts_of cases.0)) = subst (λ (items : List Item). Says now after (summary_line version.number (counts_of items))) same counts.2 in
    (cases.0, cases.1, says-then before now after (item_lines version.net cases.0) (summary_line version.number (counts_of cases.0)) cases.2 says)
audit-written version before now after (Err fault) cases counts =
    let same = audit-one version.net counts.0 cases.0 counts.1 cases.1 in
    let breaks : Breaks now after (summary_line version.number (counts_of cases.0)) fault = subst (λ (items : List Item). Breaks now after (summary_line version.number (counts_of items)) fault) same counts.2 in
    (cases.0, cases.1, breaks-then before now after (item_lines version.net cases.0) (summary_line version.number (counts_of cases.0)) fault cases.2 breaks)

pub audit-broke : (version : NumberedNet) (before after : Written) (fault : SinkFault) → WritesCases version.net before after (Err fault) → WritesAudit (Some version) before after (Err fault)
audit-broke version before after fault cases =
    (cases.0, cases.1, breaks-more before after (item_lines version.net cases.0) (summary_line version.number (counts_of cases.0)) fault cases.2)

-- memory ran out before the first case
pub audit-stopped : (version : NumberedNet) (a : Written) (error : AllocError) → IsNet version.net → IsAnswered version.net → WritesAudit (Some version) a a (Err (Memory error))
audit-stopped version a error net answered =
    let all = rest-there version.net net answered 0 (omega arith) in
    (all.0, between-audit version.net all.0 all.1, breaks-more a a [] (audit_text version all.0) (Memory error) (breaks-nothing a error))
