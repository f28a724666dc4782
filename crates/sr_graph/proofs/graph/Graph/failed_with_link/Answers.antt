use Rattle.std.proofs.Common.{◌≡◌, ap, sym, ◌∙◌}
use Rattle.sr_model.specs.declared.link.Link.{Link}
use Rattle.sr_model.specs.Case.{key_at}
use Rattle.sr_model.specs.Key.{mirror}
use Rattle.sr_graph.proofs.FailedLemmas.{failed-pair, failed-alone}
use Rattle.sr_graph.proofs.graph.Graph.failed_with_link.Goals as goal
use Rattle.sr_graph.proofs.graph.Graph.failed_with_link.Goals.{in-Some+in_ok-add-2, in_default}

pub returns : goal.returns
returns c =
    let sought : c.mirrored.result ≡ mirror (key_at c.args.self.now c.args.protected.0) = c.mirrored.ensures ∙ ap (λ (link : Link). mirror link.key) c.link.ensures.link in
    elim c.match-opposite.branch [
      | in-Some+in_ok-add-2 w ↦
          rw w.set-is (failed-pair c.args.self.now c.args.protected c.link.ensures.named c.requires w.in-Some.link c.link_count.result c.add.new.self w.add-in-Some.new.self c.link_count.ensures.count
          w.in-Some.ensures.found.0 (w.in-Some.ensures.found.1 ∙ sought) (rw c.in_ok-set.ensures at c.in_ok-add.ensures) w.in_ok-add-2.ensures)
      | in_default w ↦
          rw w.set-is (failed-alone c.args.self.now c.args.protected c.link.ensures.named c.requires c.link_count.result c.add.new.self c.link_count.ensures.count
          (λ l within is. w.in_default.ensures.none l within (is ∙ sym sought)) (rw c.in_ok-set.ensures at c.in_ok-add.ensures))
    ]
