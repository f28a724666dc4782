use Rattle.std.proofs.Common.{◌++◌, cond, [], List, ℕ, ap, ◌∙◌}
use Rattle.std.specs.List.{filter, range_with_len}
use Rattle.sr_model.specs.Graph.{has, system_at}
use Rattle.sr_print.specs.Printed.{node_word}
use Rattle.sr_print.specs.Spaces.{node_words}
use Rattle.sr_print.proofs.Appended.{begins-longer, on_err, two_pieces}
use Rattle.sr_print.proofs.Members.{members-more}
use Rattle.sr_print.proofs.spaces.put_members.Goals as goal

pub returns-in_err-put_member-clause-err : goal.returns-in_err-put_member-clause-err
returns-in_err-put_member-clause-err c = on_err c.from_residual.result (begins-longer _ _ _ _ c.loop-node.invariant c.in_err-put_member.ensures.err)

pub loop-node-preserved : goal.loop-node-preserved
loop-node-preserved c =
    let g = c.args.graph.now in
    let set = c.args.set.now in
    let v = c.loop-node.node in
    let old = c.args.out.now.items in
    two_pieces old c.loop-node.out.items c.put_member.new.out.items (node_words g (filter (has set) (range_with_len 0 v))) (cond (has set v) (node_word (system_at g v)) []) c.loop-node.invariant c.in_ok-put_member.ensures.line
    ∙ ap (λ (t : List ℕ). old ++ t) (members-more g set v)
