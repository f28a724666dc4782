use Rattle.std.proofs.Common.{◌∙◌, refl, inr, append_assoc}
use Rattle.sr_model.specs.Audit.{counts_of}
use Rattle.sr_listing.specs.declared.wanted.Wanted.TheVariants.{OfNode}
use Rattle.sr_listing.specs.Wanted.{wanted_items}
use Rattle.sr_print.specs.Insight.{repairs_line}
use Rattle.sr_print.specs.Repairs.{item_lines}
use Rattle.sr_print.specs.Told.Told.{Repairs}
use Rattle.sr_run.specs.Insight.{TellsNodeRepairs}
use Rattle.sr_run.proofs.HandlerLemmas.{puts-of}
use Rattle.sr_run.proofs.insight.fails_node.Goals as goal

pub returns : goal.returns
returns c =
    let net = c.in-Ok.found.now.net in
    let node = c.in-Ok-find_node.found in
    let puts = c.in_ok-put_wanted.ensures.lines in
    let wanted = wanted_items net.graph (OfNode node) puts.items in
    puts-of (TellsNodeRepairs c.args.system) c.args.current.now c.in-Ok.found.now _ _ (Repairs net wanted) c.in-Ok.ensures
    (inr (node.0, c.in-Ok-find_node.ensures, (puts.items, puts.audit, refl)))
    refl (λ number. puts.lines ∙ append_assoc c.args.out.now.items (item_lines net wanted) (repairs_line (counts_of wanted)))
