use Rattle.std.proofs.Common.{◌≡◌, ◌++◌, ◌<◌, ◌∙◌, ap, List, ℕ}
use Rattle.std.proofs.lemmas.Result.{on_ok_weaker, on_err_weaker}
use Rattle.sr_model.specs.Graph.{node_count}
use Rattle.sr_encode.proofs.AnswerLemmas.{affected-within}
use Rattle.sr_print.specs.Names.{node_text}
use Rattle.sr_print.specs.Repairs.{answer_text, case_head}
use Rattle.sr_print.proofs.Appended.{begins-longer, three_pieces}
use Rattle.sr_print.proofs.Items.{line-put}
use Rattle.sr_print.proofs.answers.put_line.Goals as goal

pub returns-clause-line : goal.returns-clause-line
returns-clause-line c =
    let n = c.args.net.now in
    let entry = c.args.entry.now in
    let old = c.args.out.now.items in
    let one = c.extend_from_slice.new.self.items in
    let two = c.extend_from_slice-2.new.self.items in
    let three = c.put_answer.new.out.items in
    let d : entry.destination.0 < node_count n.graph = affected-within n c.args.case entry.destination.0 c.graph-graph.ensures.net.nodes c.requires.entry.affected in
    let first : one ≡ old ++ case_head n c.args.case = c.in_ok-extend_from_slice.ensures.items ∙ ap (λ (t : List ℕ). old ++ t) c.requires.texts.begins in
    let second : two ≡ one ++ node_text n entry.destination.0 = c.in_ok-extend_from_slice-2.ensures.items ∙ ap (λ (t : List ℕ). one ++ t) (c.node.ensures ∙ c.requires.names.nodes.each entry.destination.0 d) in
    on_ok_weaker c.end.result
    (λ is. line-put n c.args.case entry old one two three c.end.new.out.items first second c.in_ok-put_answer.ensures.line is)
    c.end.ensures.line

pub returns-clause-err : goal.returns-clause-err
returns-clause-err c =
    let old = c.args.out.now.items in
    let one = c.extend_from_slice.new.self.items in
    let two = c.extend_from_slice-2.new.self.items in
    let three = c.put_answer.new.out.items in
    let puts = c.in_ok-put_answer.ensures.line in
    let answer = answer_text c.args.net.now c.args.entry.now.answer puts.labels in
    let so_far : three ≡ old ++ (c.args.head.now ++ c.node.result.now ++ answer) = three_pieces old one two three c.args.head.now c.node.result.now answer c.in_ok-extend_from_slice.ensures.items c.in_ok-extend_from_slice-2.ensures.items puts.text in
    on_err_weaker c.end.result (begins-longer old three c.end.new.out.items (c.args.head.now ++ c.node.result.now ++ answer) so_far) c.end.ensures.err

pub put_answer-requires-clause-way : goal.put_answer-requires-clause-way
put_answer-requires-clause-way c = c.requires.texts.goes_on
