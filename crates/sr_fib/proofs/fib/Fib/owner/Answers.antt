use Rattle.std.proofs.Common.{ap, sym, ◌∙◌, subst, None, List}
use Rattle.sr_model.specs.declared.label.Range.{Range}
use Rattle.sr_model.specs.Label.{Net, Labels, label_of}
use Rattle.sr_fib.specs.Entries.{IsNodeOf}
use Rattle.sr_fib.proofs.LookLemmas.{owner-none}
use Rattle.sr_fib.proofs.fib.Fib.owner.Goals as goal

pub returns-in-None-node : goal.returns-in-None-node
returns-in-None-node c =
    let P : Net → Type 0 = λ n. IsNodeOf n c.args.node.0 c.args.label None in
    let ranges = c.srgb.ensures ∙ ap (λ (s : Labels). s.srgb) c.labels.ensures.value in
    let index = ap (λ (rs : List Range). label_of rs c.in-Some.index) (sym ranges) ∙ c.in-Some.ensures.value in
    subst P c.self.view_is (owner-none c.self.inside.net.now c.labels.ensures.net c.self.inside.sids.now.indices c.self.invariant.sids.indices c.args.node.0 c.args.label c.in-Some.index index c.in-None-node.ensures)
