-- What a case leaves in another net of the same graph.
use Rattle.std.proofs.Common.{◌≡◌, sym, subst}
use Rattle.sr_model.specs.declared.case.Case.{Case}
use Rattle.sr_model.specs.Graph.{Graph}
use Rattle.sr_model.specs.Label.{Net}
use Rattle.sr_model.specs.Walk.{IsRow}
use Rattle.sr_model.specs.Case.{IsFailedSet, source_of}
use Rattle.sr_post.specs.Kept.{AreKeptHops}
use Rattle.sr_post.specs.Post.{IsPost, Remains}

-- what is left is a matter of the graph
pub post-over : (n m : Net) → m.graph ≡ n.graph → (case : Case) (p : Remains) → IsPost n case p → IsPost m case p
post-over n m same case p i = record {
  failed = subst (λ (g : Graph). IsFailedSet g case p.failed) (sym same) i.failed;
  row = subst (λ (g : Graph). IsRow g p.failed (source_of g case) p.cells) (sym same) i.row;
  hops = subst (λ (g : Graph). AreKeptHops g p.failed (source_of g case) p.kept) (sym same) i.hops;
}
