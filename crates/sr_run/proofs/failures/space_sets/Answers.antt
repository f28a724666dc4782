use Rattle.std.proofs.Common.{ap, ◌∙◌}
use Rattle.sr_model.specs.declared.link.Link.{Link}
use Rattle.sr_model.specs.Label.{Net}
use Rattle.sr_run.proofs.FailureLemmas.{spaces-told}
use Rattle.sr_run.proofs.failures.space_sets.Goals as goal

pub returns : goal.returns
returns c = spaces-told c.args.version.now.net.graph c.graph-graph.result.now c.args.failure.case c.args.failure.destination.0 c.link.result.from.0 _ _ _ _
    (c.graph-graph.ensures.value ∙ ap (λ (n : Net). n.graph) c.net.ensures.value) (ap (λ (l : Link). l.from.0) c.link.ensures.link)
    c.in_ok-failed.ensures c.in_ok-p_row.ensures.space c.in_ok-extended_p.ensures.space c.in_ok-q_set.ensures.space
