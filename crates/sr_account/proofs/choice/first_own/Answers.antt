use Rattle.std.proofs.Common.{◌∙◌, ap, List}
use Rattle.std.specs.Prelude.{filter}
use Rattle.sr_lsp.specs.declared.lsp.LspId.{LspId}
use Rattle.sr_lsp.specs.declared.lsp.Lsp.{Lsp}
use Rattle.sr_lsdb.specs.declared.facts.Stored.{Stored}
use Rattle.sr_domain.specs.Nodes.{is_own}
use Rattle.sr_account.specs.Steps.{first_saying, items_of_entries}
use Rattle.sr_account.proofs.ChoiceLemmas.{items-ranged, saying-entry_found, saying-entry_passed}
use Rattle.sr_account.proofs.choice.first_own.Goals as goal

pub loop-id-init : goal.loop-id-init
loop-id-init c =
    ap (first_saying c.args.saying) (items-ranged c.args.node c.own_ids-first.result c.as_map-database.result.now.entries c.into_iter-id-iterator.result c.own_ids-first.ensures (c.into_iter-id-iterator.ensures.into_iter_gives ∙ c.range-id-items.ensures.between tt))
    ∙ ap (λ (es : List (LspId × Stored)). first_saying c.args.saying (items_of_entries (filter (λ (e : LspId × Stored). is_own c.args.node e.0) es))) c.as_map-database.ensures.entries

pub returns-in-Some-first_of_parts : goal.returns-in-Some-first_of_parts
returns-in-Some-first_of_parts c =
    saying-entry_found c.args.saying c.in-Some.id.now c.in-Some.stored.now c.in-Some-live.shared c.lsp.result.now.parts c.loop-id.id-iterator c.next.new.self c.in-Some-first_of_parts.place c.in-Some.ensures.steps c.in-Some-live.is (ap (λ (l : Lsp). l.parts) c.lsp.ensures) c.in-Some-first_of_parts.ensures
    ∙ c.loop-id.invariant

pub loop-id-preserved-in-None-first_of_parts : goal.loop-id-preserved-in-None-first_of_parts
loop-id-preserved-in-None-first_of_parts c =
    saying-entry_passed c.args.saying c.in-Some.id.now c.in-Some.stored.now c.in-Some-live.shared c.lsp.result.now.parts c.loop-id.id-iterator c.next.new.self c.in-Some.ensures.steps c.in-Some-live.is (ap (λ (l : Lsp). l.parts) c.lsp.ensures) c.in-None-first_of_parts.ensures
    ∙ c.loop-id.invariant
