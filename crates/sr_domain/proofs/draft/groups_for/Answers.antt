use Rattle.std.proofs.Common.{List, ℕ, ◌≡◌, ◌∙◌, sym, subst}
use Rattle.std.specs.List.Sorted.{IsStrictlyIncreasing}
use Rattle.std.proofs.lemmas.Result.{IfOk-weaker}
use Rattle.sr_model.specs.Key.{pair_of}
use Rattle.sr_domain.specs.GroupTables.{groups_in}
use Rattle.sr_domain.proofs.GroupsLemmas.{groups-ascend}
use Rattle.sr_domain.proofs.draft.groups_for.Goals as goal

pub returns-in-Some-clause-ascending : goal.returns-in-Some-clause-ascending
returns-in-Some-clause-ascending c =
    let given : c.in-Some.groups.now ≡ groups_in c.args.table.now (pair_of c.args.key.now) = c.in-Some.ensures (groups_in c.args.table.now) c.requires.drafted in
    IfOk-weaker c.from_slice.result _ _
    (λ made same. subst (λ (l : List ℕ). IsStrictlyIncreasing l) (sym (same ∙ given)) (groups-ascend c.args.table.now (pair_of c.args.key.now)))
    c.from_slice.ensures.items
