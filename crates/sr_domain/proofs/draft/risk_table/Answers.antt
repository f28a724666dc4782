use Rattle.std.proofs.Common.{length, ap, sym, ◌∙◌}
use Rattle.std.specs.List.{list_any}
use Rattle.std.proofs.lemmas.Bool.{eqb-true}
use Rattle.std.proofs.lemmas.List.{nil_from_length}
use Rattle.sr_domain.specs.Announced.{announcements_of}
use Rattle.sr_domain.specs.Groups.{notes_of}
use Rattle.sr_domain.specs.GroupTables.{names_from}
use Rattle.sr_domain.proofs.GroupsLemmas.{groups-given, none-given, no-table}
use Rattle.sr_domain.proofs.draft.risk_table.Goals as goal

pub returns-clause-groups : goal.returns-clause-groups
returns-clause-groups c = λ few up.
    groups-given (record { names = c.in_ok-names.names; notes = c.by_name-notes.result }) (announcements_of c.args.facts.now) (notes_of c.args.facts.now)
    (λ test. c.by_name-notes.ensures.same test ∙ ap (list_any test) c.in_ok-said.ensures)
    (λ test. c.in_ok-names.ensures.same test ∙ ap (λ anns. list_any test (names_from anns)) c.requires)

pub returns-then-are_refused-clause-order : goal.returns-then-are_refused-clause-order
returns-then-are_refused-clause-order c = no-table c.no_table.result c.no_table.ensures.names c.no_table.ensures.notes

pub returns-then-is_empty-clause-order : goal.returns-then-is_empty-clause-order
returns-then-is_empty-clause-order c = no-table c.no_table-then-is_empty.result c.no_table-then-is_empty.ensures.names c.no_table-then-is_empty.ensures.notes

pub returns-then-is_empty-clause-groups : goal.returns-then-is_empty-clause-groups
returns-then-is_empty-clause-groups c = λ few up.
    let none = nil_from_length c.as_slice.result.now (eqb-true (length c.as_slice.result.now) 0 (sym c.is_empty.ensures ∙ c.if-is_empty.true)) in
    none-given c.no_table-then-is_empty.result (announcements_of c.args.facts.now) (notes_of c.args.facts.now) c.no_table-then-is_empty.ensures.names
    (sym c.in_ok-said.ensures ∙ sym c.as_slice.ensures.value ∙ none)
