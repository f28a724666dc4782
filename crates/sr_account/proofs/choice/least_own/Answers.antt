use Rattle.std.proofs.Common.{◌∙◌, ap, List, None}
use Rattle.std.specs.Prelude.{filter}
use Rattle.sr_lsp.specs.declared.lsp.LspId.{LspId}
use Rattle.sr_lsp.specs.declared.lsp.Lsp.{Lsp}
use Rattle.sr_lsdb.specs.declared.facts.Stored.{Stored}
use Rattle.sr_domain.specs.Nodes.{is_own}
use Rattle.sr_account.specs.Steps.{items_of_entries, least_offer}
use Rattle.sr_account.proofs.ChoiceLemmas.{items-ranged, least-entry}
use Rattle.sr_account.proofs.choice.least_own.Goals as goal

pub loop-id-init : goal.loop-id-init
loop-id-init c =
    ap (least_offer None) (items-ranged c.args.node c.own_ids-first.result c.as_map-database.result.now.entries c.into_iter-id-iterator.result c.own_ids-first.ensures (c.into_iter-id-iterator.ensures.into_iter_gives ∙ c.range-id-items.ensures.between tt))
    ∙ ap (λ (es : List (LspId × Stored)). least_offer None (items_of_entries (filter (λ (e : LspId × Stored). is_own c.args.node e.0) es))) c.as_map-database.ensures.entries

pub loop-id-preserved-in-Some-live : goal.loop-id-preserved-in-Some-live
loop-id-preserved-in-Some-live c =
    least-entry c.in-Some.id.now c.in-Some.stored.now c.in-Some-live.shared c.lsp.result.now.parts c.loop-id.id-iterator c.next.new.self c.loop-id.found c.least_of_parts-found.result c.in-Some.ensures.steps c.in-Some-live.is (ap (λ (l : Lsp). l.parts) c.lsp.ensures) c.least_of_parts-found.ensures
    ∙ c.loop-id.invariant
