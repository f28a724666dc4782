-- What is told to a line, and how that is spelled.
use Rattle.std.specs.Prelude.{ℕ, Bool, true, false, List, [], ◌++◌, Option, length}
use Rattle.sr_model.specs.declared.link.LinkNo.{LinkNo}
use Rattle.sr_model.specs.declared.entry.Entry.{Entry}
use Rattle.sr_model.specs.declared.case.Case.{Case}
use Rattle.sr_model.specs.declared.rule.DomainRule.{DomainRule}
use Rattle.sr_model.specs.declared.repair.Answer.{Answer}
use Rattle.sr_model.specs.declared.audit.Item.{Item}
use Rattle.sr_model.specs.declared.audit.Counts.{Counts}
use Rattle.sr_model.specs.declared.audit.RoundReport.{RoundReport}
use Rattle.sr_model.specs.Audit.{counts_of}
use Rattle.sr_model.specs.Graph.{Graph, node_count, link_count}
use Rattle.sr_model.specs.Label.{Net}
use Rattle.sr_repair.specs.Version.{NumberedNet}
use Rattle.sr_adjprot.specs.declared.answer.AdjAnswer.{AdjAnswer}
use Rattle.sr_adjprot.specs.declared.answer.BackupLabel.{BackupLabel}
use Rattle.sr_account.specs.declared.aside.Aside.{Aside}
use Rattle.sr_account.specs.declared.sources.LinkSource.{LinkSource}
use Rattle.sr_insight.specs.declared.group.Group.{Group}
use Rattle.sr_insight.specs.declared.grouping.Grouping.{Grouping}
use Rattle.sr_insight.specs.declared.stack_count.StackCount.{StackCount}
use Rattle.sr_cert.specs.declared.certificate.Certificate.{Certificate}
use Rattle.sr_cert.specs.declared.clause.Verdict.{Verdict}
use Rattle.sr_loads.specs.Loads.{LinkLoads}
use Rattle.sr_why.specs.declared.reason.Cause.{Cause}
use Rattle.sr_diff.specs.declared.differences.Diff.{Diff as Differences}
use Rattle.sr_print.specs.declared.refusal.Refusal.{Refusal}
use Rattle.sr_print.specs.Printed.{staged_line, dropped_line, version_line, dist_line, show_line}
use Rattle.sr_print.specs.Forwarding.{next_line, label_line, walk_line}
use Rattle.sr_print.specs.Spaces.{spaces_lines}
use Rattle.sr_print.specs.Repairs.{repair_line, uncovered_walk_line, item_lines, summary_line}
use Rattle.sr_print.specs.Adjacencies.{adjrepair_line, adjbackup_line}
use Rattle.sr_print.specs.Loads.{loads_text}
use Rattle.sr_print.specs.Certificates.{certificate_lines, prove_uncovered_line, proof_line, verdict_line}
use Rattle.sr_print.specs.Account.{nodes_text, links_text, asides_text}
use Rattle.sr_print.specs.Insight.{coverage_lines, stack_lines, repairs_line}
use Rattle.sr_print.specs.Why.{reason_line}
use Rattle.sr_print.specs.Differences.{diff_lines}
use Rattle.sr_print.specs.Refused.{check_lines, refused_line}
use Rattle.sr_print.specs.Work.{hold_line, watch_line, report_lines, joined_line}

-- what is shown of a session: the number of its last version, how many nodes and links that has, the accepted depth,
-- and how many edits are staged
pub record Shown : Type 0 where
  pub version : ℕ
  pub nodes : ℕ
  pub links : ℕ
  pub depth : ℕ
  pub staged : ℕ

-- what is told to a line: nothing; how many edits are staged, or were dropped; the version of a commit; a distance;
-- next hops; what a label does; the links of a packet's walk from a node, where there is one; P, extended P and Q;
-- the answer of a case for a destination, with its labels; what is done with packets under a link's adjacency label;
-- why there is no repair whose packet could be walked; how often packets cross each link; the certificate of a repair;
-- why there is no repair of which there could be one; how many lines of a certificate are kept; what is decided of it;
-- how many answers of each sort the audit of a version has; that audit; the version of a hold; the watchers of a watch,
-- the rounds of each, and the version that it began with; the reports of background work; what is shown; the other
-- label of a link that may be protected, with what is done under it, where there is one; the nodes of a net; its links,
-- with what is announced of each; what isn't used of the facts; how much of the audit of a version is covered, in
-- groups; how many labels its repairs push, with its counts; the answers of a case for all that it affects; why a case
-- has no repair for a destination; what differs between the repairs of a version and those of a net; all rules that are
-- broken; or why the line is refused
pub data Told : Type 0 where
  Nothing : Told
  Staged : ℕ → Told
  Dropped : ℕ → Told
  Version : NumberedNet → Told
  Distance : Option ℕ → Told
  NextHops : Net → List LinkNo → Told
  Lookup : Net → Option Entry → Told
  Walk : Net → ℕ → Option (List LinkNo) → Told
  Spaces : Graph → List Bool → List Bool → List Bool → Told
  Repair : Net → Case → ℕ → Answer → List ℕ → Told
  AdjRepair : Net → LinkNo → AdjAnswer → Told
  Uncovered : Answer → Told
  Loads : Net → LinkLoads → Told
  Proved : Net → Certificate → Told
  Unproved : Answer → Told
  ProofKept : ℕ → Told
  Decided : Verdict → Told
  Summary : ℕ → Counts → Told
  Audit : NumberedNet → List Item → Told
  Hold : ℕ → Told
  Watch : ℕ → ℕ → ℕ → Told
  Joined : List RoundReport → Told
  Show : Shown → Told
  AdjBackup : Net → LinkNo → Option BackupLabel → Told
  Nodes : Net → Told
  Links : Net → List LinkSource → Told
  Asides : List Aside → Told
  Coverage : NumberedNet → Grouping → List Group → Counts → Told
  Stacks : ℕ → List StackCount → Counts → Told
  Repairs : Net → List Item → Told
  Why : Net → Cause → Told
  Diff : NumberedNet → Net → Differences → Told
  Check : List DomainRule → Told
  Refused : Refusal → Told

-- how it is spelled; the number of the line stands in a refusal alone
abbrev pub spelled : ℕ → Told → List ℕ
spelled number Nothing = []
spelled number (Staged count) = staged_line count
spelled number (Dropped count) = dropped_line count
spelled number (Version version) =
    version_line version.number (node_count version.net.graph) (link_count version.net.graph)
spelled number (Distance cost) = dist_line cost
spelled number (NextHops net links) = next_line net links
spelled number (Lookup net found) = label_line net found
spelled number (Walk net start links) = walk_line net start links
spelled number (Spaces graph p extended q) = spaces_lines graph p extended q
spelled number (Repair net case d answer labels) = repair_line net case d answer labels
spelled number (AdjRepair net link answer) = adjrepair_line net link answer
spelled number (Uncovered answer) = uncovered_walk_line answer
spelled number (Loads net loads) = loads_text net loads
spelled number (Proved net certificate) = certificate_lines net certificate
spelled number (Unproved answer) = prove_uncovered_line answer
spelled number (ProofKept kept) = proof_line kept
spelled number (Decided verdict) = verdict_line verdict
spelled number (Summary version counts) = summary_line version counts
spelled number (Audit version items) = item_lines version.net items ++ summary_line version.number (counts_of items)
spelled number (Hold version) = hold_line version
spelled number (Watch watchers rounds version) = watch_line watchers rounds version
spelled number (Joined reports) = report_lines reports ++ joined_line (length reports)
spelled number (Show shown) = show_line shown.version shown.nodes shown.links shown.depth shown.staged
spelled number (AdjBackup net link found) = adjbackup_line net link found
spelled number (Nodes net) = nodes_text net
spelled number (Links net sources) = links_text net sources
spelled number (Asides asides) = asides_text asides
spelled number (Coverage version grouping groups counts) =
    coverage_lines version.net grouping groups ++ summary_line version.number counts
spelled number (Stacks version stacks counts) = stack_lines stacks ++ summary_line version counts
spelled number (Repairs net items) = item_lines net items ++ repairs_line (counts_of items)
spelled number (Why net reason) = reason_line net reason
spelled number (Diff version net differences) = diff_lines version net differences
spelled number (Check rules) = check_lines rules
spelled number (Refused reason) = refused_line number reason

-- whether it is a refusal
abbrev pub is_refusal : Told → Bool
is_refusal Nothing = false
is_refusal (Staged count) = false
is_refusal (Dropped count) = false
is_refusal (Version version) = false
is_refusal (Distance cost) = false
is_refusal (NextHops net links) = false
is_refusal (Lookup net found) = false
is_refusal (Walk net start links) = false
is_refusal (Spaces graph p extended q) = false
is_refusal (Repair net case d answer labels) = false
is_refusal (AdjRepair net link answer) = false
is_refusal (Uncovered answer) = false
is_refusal (Loads net loads) = false
is_refusal (Proved net certificate) = false
is_refusal (Unproved answer) = false
is_refusal (ProofKept kept) = false
is_refusal (Decided verdict) = false
is_refusal (Summary version counts) = false
is_refusal (Audit version items) = false
is_refusal (Hold version) = false
is_refusal (Watch watchers rounds version) = false
is_refusal (Joined reports) = false
is_refusal (Show shown) = false
is_refusal (AdjBackup net link found) = false
is_refusal (Nodes net) = false
is_refusal (Links net sources) = false
is_refusal (Asides asides) = false
is_refusal (Coverage version grouping groups counts) = false
is_refusal (Stacks version stacks counts) = false
is_refusal (Repairs net items) = false
is_refusal (Why net reason) = false
is_refusal (Diff version net differences) = false
is_refusal (Check rules) = false
is_refusal (Refused reason) = true
