use Rattle.std.proofs.Common.{◌≡◌, ap, sym, ◌∙◌}
use Rattle.std.specs.Prelude.{Some, option_map}
use Rattle.sr_post.specs.Bypass.{node_case}
use Rattle.sr_delta.proofs.FailureLemmas.{failed-exists}
use Rattle.sr_repair.specs.Answers.{cells_told}
use Rattle.sr_repair.proofs.KeptLemmas.{cells-after}
use Rattle.sr_repair.proofs.passes.pass_link.Goals as goal

pub told-requires-clause-around : goal.told-requires-clause-around
told-requires-clause-around c =
    let s = c.args.setting.now in
    let x = failed-exists s.net.graph (node_case c.args.case) in
    let told : cells_told c.args.node.now ≡ Some c.deref.result.now = sym c.in_ok-around-in-None.ensures ∙ ap (option_map (λ v. v.items)) c.in-Some-2.is ∙ ap Some (sym c.deref.ensures.value) in
    (x.0, x.1, cells-after s.former s.net (node_case c.args.case) c.args.node.now c.deref.result.now c.requires.node told x.0 x.1)
