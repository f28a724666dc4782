use Rattle.std.proofs.Common.{sym}
use Rattle.sr_model.specs.declared.name.LinkKey.{LinkKey}
use Rattle.sr_model.specs.declared.name.PairKey.{PairKey}
use Rattle.sr_lsp.specs.declared.lsp.LspId.{LspId}
use Rattle.sr_lsdb.specs.declared.touched.Touched.TheVariants.{Lsp, Cost, Pair}
use Rattle.sr_lsdb.proofs.facts.Facts.settle_said.Goals as goal

pub settle_said-requires : goal.settle_said-requires
settle_said-requires c = λ (id : LspId). c.requires (Lsp id)

pub settle-requires : goal.settle-requires
settle-requires c = λ (key : LinkKey). sym (c.requires (Cost key))

pub settle-requires-2 : goal.settle-requires-2
settle-requires-2 c = λ (pair : PairKey). sym (c.requires (Pair pair))
