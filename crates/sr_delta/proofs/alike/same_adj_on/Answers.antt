use Rattle.std.proofs.Common.{sym, ap, ◌∙◌}
use Rattle.sr_model.specs.Graph.{Graph}
use Rattle.sr_model.specs.Label.{adj_at}
use Rattle.sr_model.specs.Stay.{HaveSameName}
use Rattle.sr_laws.proofs.Keys.{key-one}
use Rattle.sr_delta.proofs.alike.same_adj_on.Goals as goal

pub returns-in-Some : goal.returns-in-Some
returns-in-Some c =
    let h : Graph = c.args.new.now.graph in
    let is : HaveSameName c.args.old.now.graph h c.args.link.0 c.in-Some.other.0 = rw c.in-Some.is at c.requires.partner in (
      λ same k named. sym c.adj.ensures.value ∙ c.same_label.ensures.0 same ∙ c.adj-in-Some.ensures.value ∙ ap (adj_at c.args.new.now) (key-one h c.adj-in-Some.ensures.net.named c.in-Some.other.0 k is.1 named.1 (is.2 ∙ sym named.2)),
      λ all. c.same_label.ensures.1 (c.adj.ensures.value ∙ all c.in-Some.other.0 is ∙ sym c.adj-in-Some.ensures.value),
    )
