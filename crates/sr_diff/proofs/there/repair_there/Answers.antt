use Rattle.std.proofs.Common.{◌≡◌, Option, ap, ◌∙◌, subst}
use Rattle.std.proofs.lemmas.Result.{IfOk-weaker}
use Rattle.sr_model.specs.declared.audit.Item.{Item}
use Rattle.sr_model.specs.Graph.{Graph}
use Rattle.sr_model.specs.Label.{Net}
use Rattle.sr_diff.specs.Matched.{IsPurposeNamed}
use Rattle.sr_diff.specs.Named.{name_at, item_name}
use Rattle.sr_diff.proofs.ThereLemmas.{found-named}
use Rattle.sr_diff.proofs.there.repair_there.Goals as goal

pub returns-in-Some : goal.returns-in-Some
returns-in-Some c =
    let item = c.args.item.now in
    let graph : c.graph-2.result.now ≡ c.args.other.now.net.graph = c.graph-2.ensures.value ∙ ap (λ (n : Net). n.graph) c.net.ensures.value in
    let named : IsPurposeNamed c.args.other.now.net.graph (item_name c.args.net.now item) c.in-Some.purpose =
    subst (λ (g : Graph). IsPurposeNamed c.args.other.now.net.graph (name_at g item.case item.dest.0) c.in-Some.purpose) c.graph.ensures.value
    (subst (λ (g : Graph). IsPurposeNamed g (name_at c.graph.result.now item.case item.dest.0) c.in-Some.purpose) graph c.in-Some.ensures.found) in
    IfOk-weaker c.repair_at.result _ _
    (λ (found : Option Item) is. found-named c.args.other.now.net (item_name c.args.net.now item) c.in-Some.purpose found c.net.ensures.net named is)
    c.repair_at.ensures
