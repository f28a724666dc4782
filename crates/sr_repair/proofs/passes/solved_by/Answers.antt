use Rattle.std.proofs.Common.{sym, subst}
use Rattle.std.proofs.lemmas.Result.{IfOk-weaker}
use Rattle.sr_delta.proofs.CaseLemmas.{row-from_post}
use Rattle.sr_repair.specs.Solutions.{Solution, IsSolution}
use Rattle.sr_repair.proofs.passes.solved_by.Goals as goal

pub returns : goal.returns
returns c =
    let n = c.args.net.now in
    let case = c.args.case in
    IfOk-weaker c.new.result _ _
    (λ made is. subst (λ (s : Solution). IsSolution n case s) (sym is)
    (record {
      row = λ x set. rw c.in_ok-cells.ensures (row-from_post n case c.args.post.now c.requires.post x set);
      lists = c.in_ok-listed.ensures;
    }))
    c.new.ensures
