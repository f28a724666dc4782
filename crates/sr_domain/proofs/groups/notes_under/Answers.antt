use Rattle.std.proofs.Common.{ap, arith, rules, sym, ◌∙◌}
use Rattle.std.proofs.lemmas.List.{get_or_default}
use Rattle.std.proofs.lemmas.List.Sorted.{IsPartitionPoint-from_clause}
use Rattle.std.specs.Ordering.{is_le}
use Rattle.sr_domain.specs.Groups.{name_cmp}
use Rattle.sr_domain.specs.GroupTables.{comes_before, note_name}
use Rattle.sr_domain.specs.declared.risks.RiskNote.{RiskNote}
use Rattle.sr_domain.proofs.RunsLemmas.{no-run-of, past-is, partitioned-le, partitioned-lt, partitioned-rest, run-of}
use Rattle.sr_domain.proofs.GroupsLemmas.{name_total}
use Rattle.sr_domain.proofs.groups.notes_under.Goals as goal
use Rattle.sr_domain.proofs.groups.notes_under.Goals.{then-start-notes-via-then-start-notes, then-start-notes-via-else-start-notes+then-is_gt}

pub returns-then-start-notes : goal.returns-then-start-notes
returns-then-start-notes c =
    let notes = c.args.notes.now in
    let name = c.args.name.now in
    let low = c.partition_point-start.result in
    no-run-of name_total note_name notes name low c.requires
    (IsPartitionPoint-from_clause (comes_before name) notes low c.partition_point-start.ensures.partitioned (partitioned-lt name_total note_name notes name c.requires) (λ a r f' k. search rules))
    (λ d within. elim c.then-start-notes.branch [
      | then-start-notes-via-then-start-notes w ↦ absurd (omega (arith, within, w.if-start-notes.true))
      | then-start-notes-via-else-start-notes+then-is_gt w ↦
          ap (λ (n : RiskNote). is_le (name_cmp n.name name)) (get_or_default notes low d w.index-notes-start.result within)
          ∙ ap is_le (sym w.cmp.ensures) ∙ past-is w.cmp.result (sym w.is_gt.ensures ∙ w.if-is_gt.true)
    ])

pub returns : goal.returns
returns c =
    let notes = c.args.notes.now in
    let name = c.args.name.now in
    let low = c.partition_point-start.result in
    let isnt_past = λ (n : RiskNote). is_le (name_cmp n.name name) in
    run-of name_total note_name notes name low c.partition_point-count.result
    (IsPartitionPoint-from_clause (comes_before name) notes low c.partition_point-start.ensures.partitioned (partitioned-lt name_total note_name notes name c.requires) (λ a r f' k. search rules))
    (IsPartitionPoint-from_clause isnt_past _ c.partition_point-count.result c.partition_point-count.ensures.partitioned
    (partitioned-rest isnt_past notes low (partitioned-le name_total note_name notes name c.requires)) (λ a r f' k. search rules))
