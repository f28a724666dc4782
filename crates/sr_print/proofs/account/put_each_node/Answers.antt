use Rattle.std.proofs.Common.{◌++◌, List, ℕ, ap, ◌∙◌}
use Rattle.sr_print.specs.Account.{node_line, node_lines}
use Rattle.sr_print.proofs.Appended.{begins-longer, on_err, two_pieces}
use Rattle.sr_print.proofs.Members.{lines-more}
use Rattle.sr_print.proofs.account.put_each_node.Goals as goal

pub returns-in_err-put_node_line-clause-err : goal.returns-in_err-put_node_line-clause-err
returns-in_err-put_node_line-clause-err c = on_err c.from_residual.result (begins-longer _ _ _ _ c.loop-node.invariant c.in_err-put_node_line.ensures.err)

pub loop-node-preserved : goal.loop-node-preserved
loop-node-preserved c =
    let net = c.args.net.now in
    let v = c.loop-node.node in
    let old = c.args.out.now.items in
    two_pieces old c.loop-node.out.items c.put_node_line.new.out.items (node_lines net v) (node_line net v) c.loop-node.invariant c.in_ok-put_node_line.ensures.line
    ∙ ap (λ (t : List ℕ). old ++ t) (lines-more (node_line net) v)
