use Rattle.std.proofs.Common.{◌≡◌, ap, sym, ◌∙◌, subst}
use Rattle.std.proofs.lemmas.Result.{IfOk-weaker}
use Rattle.sr_model.specs.Graph.{link_count}
use Rattle.sr_repair.specs.declared.passes.Passed.TheVariants.{Nothing}
use Rattle.sr_repair.specs.Answers.{case_count, IsPassed, StandInSlots}
use Rattle.sr_repair.specs.Former.{Setting}
use Rattle.sr_repair.proofs.PlaceLemmas.{stand-in_slots}
use Rattle.sr_repair.proofs.passes.all_passed.Goals as goal

pub returns : goal.returns
returns g c =
    let s = c.args.setting.now in
    let count : c.link_count.result ≡ link_count s.net.graph = c.link_count.ensures.count ∙ ap link_count (c.graph.ensures.value ∙ ap (λ (k : Setting). k.net.graph) c.setting.view_is) in
    IfOk-weaker c.in_slots.result _ _
    (λ passed same. subst (λ items. StandInSlots Nothing s.net.graph (IsPassed s.former s.net) (case_count s.net.graph) items) (sym same)
    (stand-in_slots s.former s.net c.link_count.result c.in_ok-all.all.items c.in_ok-all.ensures count))
    c.in_slots.ensures
