use Rattle.std.proofs.Common.{◌≤◌, ◌++◌, List, ℕ, length, ap, sym, ◌∙◌}
use Rattle.std.specs.List.{flat_map}
use Rattle.std.proofs.lemmas.List.{take_all}
use Rattle.sr_model.specs.declared.link.LinkNo.{LinkNo}
use Rattle.sr_model.specs.Graph.{system_at}
use Rattle.sr_print.specs.Printed.{node_word}
use Rattle.sr_print.proofs.Appended.{begins-longer, on_err}
use Rattle.sr_print.proofs.Walked.{end_word, nodes-each}
use Rattle.sr_print.proofs.walk.put_nodes.Goals as goal

pub returns-in_err-put_node-2-clause-err : goal.returns-in_err-put_node-2-clause-err
returns-in_err-put_node-2-clause-err c = on_err c.from_residual-in_err-put_node-2.result (begins-longer _ _ _ _ c.loop-link.invariant c.in_err-put_node-2.ensures.err)

pub returns-clause-line : goal.returns-clause-line
returns-clause-line c =
    let g = c.args.graph.now in
    let start = c.args.start.0 in
    let links = c.args.links.now in
    let old = c.args.out.now.items in
    let past : length links ≤ c.loop-link.link-index = c.loop-link-test.false in
    c.loop-link.invariant
    ∙ ap (λ (ls : List LinkNo). old ++ (node_word (system_at g start) ++ flat_map (end_word g) ls)) (take_all c.loop-link.link-index links past)
    ∙ ap (λ (t : List ℕ). old ++ t) (sym (nodes-each g start links))
