use Rattle.std.proofs.Common.{◌≡◌, [], subst}
use Rattle.std.specs.Prelude.{IfOk}
use Rattle.std.specs.Arc.{arc_value}
use Rattle.sr_spf.specs.Trees.{Forest, row_at}
use Rattle.sr_spf.proofs.trees.Trees.held_cells.Goals as goal

pub returns : goal.returns
returns c =
    subst (λ (t : Forest). IfOk c.held.result (λ cells. arc_value cells ≡ row_at t.rows c.args.from.0)) c.self.view_is (c.held.ensures [])
