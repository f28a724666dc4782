use Rattle.std.proofs.Common.{◌≡◌, ap, sym, ◌∙◌, subst}
use Rattle.std.specs.Arc.{arc_value}
use Rattle.sr_model.specs.Case.{source_of}
use Rattle.sr_model.specs.Label.{Net}
use Rattle.sr_model.specs.Walk.{IsRow}
use Rattle.sr_post.specs.Marks.{IsRowAfter}
use Rattle.sr_delta.proofs.FailureLemmas.{failed-exists}
use Rattle.sr_repair.specs.Spared.{Passage}
use Rattle.sr_repair.proofs.former.Former.walks_of.Goals as goal

pub walks-requires-clause-row : goal.walks-requires-clause-row
walks-requires-clause-row c =
    let n : Net = c.args.self.now.old in
    let x = failed-exists n.graph c.args.old in
    let row : IsRow n.graph x.0 (source_of n.graph c.args.old) (arc_value c.args.known.now.solved).cells = c.requires.known.solution.row x.0 x.1 in
    let here : IsRowAfter n.graph c.args.old c.args.cells.now = (x.0, x.1, subst (λ k. IsRow n.graph x.0 (source_of n.graph c.args.old) k) (sym c.requires.cells) row) in
    let same : c.net.result.now ≡ n = c.net.ensures.value ∙ ap (λ (p : Passage). p.old) c.self.view_is in
    subst (λ (m : Net). IsRowAfter m.graph c.args.old c.args.cells.now) (sym same) here
