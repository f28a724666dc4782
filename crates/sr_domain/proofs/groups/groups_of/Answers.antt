use Rattle.std.proofs.Common.{ℕ, List, ap, filter, subst, sym, ◌∙◌}
use Rattle.std.specs.Cmp.{unsigned_tied}
use Rattle.std.specs.List.Sorted.{IsStrictlyIncreasing}
use Rattle.std.proofs.lemmas.List.Filters.{dedup_is}
use Rattle.sr_domain.specs.declared.names.PairName.{PairName}
use Rattle.sr_domain.specs.declared.risks.RiskNote.{RiskNote}
use Rattle.sr_domain.specs.GroupTables.{NamesAscend, ascending, groups_said, is_of}
use Rattle.sr_domain.proofs.GroupsLemmas.{groups-ascend, ascending-is}
use Rattle.sr_domain.proofs.TakenLemmas.{names-apart}
use Rattle.sr_domain.proofs.groups.groups_of.Goals as goal

made : goal.returns-clause-groups
made c =
    dedup_is _ _ _ c.dedup.ensures.filtered
    ∙ ascending-is _ (λ a b. sym (unsigned_tied a b)) c.in_ok-groups.groups.items c.sort_unstable.new.self.items c.sort_unstable.ensures.permutation c.sort_unstable.ensures.sorted
    ∙ ap ascending (c.in_ok-groups.ensures.groups
    ∙ ap (λ (names : List PairName). groups_said names c.deref-2.result.now) (c.names_with-names.ensures ∙ ap (filter (is_of c.args.pair.now)) c.deref.ensures.value)
    ∙ ap (λ (notes : List RiskNote). groups_said (filter (is_of c.args.pair.now) c.args.table.now.names.items) notes) c.deref-2.ensures.value)

pub returns-clause-groups : goal.returns-clause-groups
returns-clause-groups c = made c

pub returns-clause-ascending : goal.returns-clause-ascending
returns-clause-ascending c = subst (λ (l : List ℕ). IsStrictlyIncreasing l) (sym (made c)) (groups-ascend c.args.table.now c.args.pair.now)

pub groups_said-requires-clause-apart : goal.groups_said-requires-clause-apart
groups_said-requires-clause-apart c = subst NamesAscend (sym (c.names_with-names.ensures ∙ ap (filter (is_of c.args.pair.now)) c.deref.ensures.value)) (names-apart c.args.pair.now c.args.table.now.names.items c.requires.names)
