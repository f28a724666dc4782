use Rattle.std.proofs.Common.{◌≡◌, ap, sym, subst, ◌∙◌}
use Rattle.std.specs.Arc.{arc_value}
use Rattle.sr_laws.specs.Listed.{HaveSameLists}
use Rattle.sr_model.specs.Label.{Net}
use Rattle.sr_spf.specs.Trees.{AreTrees}
use Rattle.sr_fib.specs.Tables.{AreSids}
use Rattle.sr_encode.specs.Placed.{listed_from}
use Rattle.sr_repair.specs.declared.computed.SharedWork.{SharedWork}
use Rattle.sr_repair.specs.Answers.{AreAllFound, case_count}
use Rattle.sr_repair.proofs.ShareLemmas.{all-shared, sids-shared}
use Rattle.sr_repair.proofs.computed.Computed.relabelled.Goals as goal

pub invariant_of-result : goal.invariant_of-result
invariant_of-result c =
    let n : Net = c.self.inside.net in
    let m : Net = c.args.net in
    let was : SharedWork = arc_value c.self.inside.shared in
    let is : arc_value c.in_ok-shared.shared ≡ was = c.in_ok-shared.ensures in
    let same : HaveSameLists n m = subst (λ (k : Net). HaveSameLists k m) (sym c.self.view_is) c.requires in (
      subst (λ (s : SharedWork). AreTrees m.graph s.trees) (sym is) (subst (λ g. AreTrees g was.trees) (sym same.graph) c.self.invariant.0),
      subst (λ (s : SharedWork). AreSids m s.sids) (sym is) (sids-shared n m same _ c.self.invariant.1),
      subst (λ (s : SharedWork). AreAllFound m (case_count m.graph) s.found.items) (sym is) (all-shared n m same was.found.items c.self.invariant.2),
      λ start. ap (λ (s : SharedWork). listed_from start s.none) is ∙ c.self.invariant.3 start,
    )
