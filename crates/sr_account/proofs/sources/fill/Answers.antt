use Rattle.std.proofs.Common.{◌≡◌, ◌≤◌, List, length, refl, arith, ap, sym, ◌∙◌, subst}
use Rattle.std.specs.Prelude.{Contains}
use Rattle.sr_lsp.specs.declared.lsp.LspId.{LspId}
use Rattle.sr_lsp.specs.declared.lsp.Lsp.{Lsp}
use Rattle.sr_lsdb.specs.declared.facts.Stored.{Stored}
use Rattle.sr_domain.specs.Announced.{parts_of}
use Rattle.sr_account.specs.Filling.{IsEntryDone, IsWalkedTo}
use Rattle.sr_account.proofs.SourceLaw.{absent-done, entry-filled, next-there, parts-counted, silent-done, unreal-done, walked-all, walked-more}
use Rattle.sr_account.proofs.sources.fill.Goals as goal
use Rattle.sr_account.proofs.sources.fill.Goals.{else-id-eq0-via-then-id-eq0+else-is_present, else-id-eq0-via-else-id-eq0}

pub fill_from-requires-clause-parts : goal.fill_from-requires-clause-parts
fill_from-requires-clause-parts c =
    let entry : LspId × Stored = (c.in-Some.id.now, c.in-Some.stored.now) in
    parts-counted c.args.facts.now c.requires.order entry c.in-Some-live.shared c.lsp.result.now.parts
    (next-there c.args.facts.now c.args.net.now entry c.loop-id.id-iterator c.next.new.self c.loop-id.sources c.in-Some.ensures.steps c.loop-id.invariant)
    c.if-id-eq0.true
    (sym c.is_present.ensures ∙ c.if-is_present.true)
    c.in-Some-live.is
    (ap (λ (x : Lsp). x.parts) c.lsp.ensures)

pub loop-id-preserved-in-Some-live : goal.loop-id-preserved-in-Some-live
loop-id-preserved-in-Some-live c =
    let facts = c.args.facts.now in
    let net = c.args.net.now in
    let entry : LspId × Stored = (c.in-Some.id.now, c.in-Some.stored.now) in
    let old = c.loop-id.sources in
    let new = c.fill_from.new.sources in
    let there : Contains facts.database entry = next-there facts net entry c.loop-id.id-iterator c.next.new.self old c.in-Some.ensures.steps c.loop-id.invariant in
    let parts : parts_of c.in-Some.stored.now.live ≡ c.lsp.result.now.parts = ap parts_of c.in-Some-live.is ∙ sym (ap (λ (x : Lsp). x.parts) c.lsp.ensures) in
    let long : length (parts_of c.in-Some.stored.now.live) ≡ length c.lsp.result.now.parts = ap length parts in
    let all : length (parts_of c.in-Some.stored.now.live) ≤ length c.lsp.result.now.parts = omega (arith, long) in
    walked-more facts net entry c.next.new.self old new c.fill_from.ensures.long c.fill_from.ensures.kept
    (entry-filled facts net c.requires.order entry (length c.lsp.result.now.parts) old new there all c.fill_from.ensures)
    (subst (λ (left : List (LspId × Stored)). IsWalkedTo facts net left old) c.in-Some.ensures.steps c.loop-id.invariant)

pub loop-id-preserved-in-None-live : goal.loop-id-preserved-in-None-live
loop-id-preserved-in-None-live c =
    let facts = c.args.facts.now in
    let net = c.args.net.now in
    let entry : LspId × Stored = (c.in-Some.id.now, c.in-Some.stored.now) in
    let sources = c.loop-id.sources in
    walked-more facts net entry c.next.new.self sources sources refl (λ l filled. filled)
    (silent-done facts net entry sources c.in-None-live.is)
    (subst (λ (left : List (LspId × Stored)). IsWalkedTo facts net left sources) c.in-Some.ensures.steps c.loop-id.invariant)

pub loop-id-preserved : goal.loop-id-preserved
loop-id-preserved c =
    let facts = c.args.facts.now in
    let net = c.args.net.now in
    let entry : LspId × Stored = (c.in-Some.id.now, c.in-Some.stored.now) in
    let sources = c.loop-id.sources in
    let done : IsEntryDone facts net sources entry = elim c.else-id-eq0.branch [
      | else-id-eq0-via-then-id-eq0+else-is_present w ↦ absent-done facts net entry sources (sym w.is_present.ensures ∙ w.if-is_present.false)
      | else-id-eq0-via-else-id-eq0 w ↦ unreal-done facts net entry sources w.if-id-eq0.false
    ] in
    walked-more facts net entry c.next.new.self sources sources refl (λ l filled. filled) done
    (subst (λ (left : List (LspId × Stored)). IsWalkedTo facts net left sources) c.in-Some.ensures.steps c.loop-id.invariant)

pub returns : goal.returns
returns c =
    let facts = c.args.facts.now in
    let net = c.args.net.now in
    let sources = c.loop-id.sources in
    walked-all facts net sources c.requires.order c.requires.net
    (subst (λ (left : List (LspId × Stored)). IsWalkedTo facts net left sources) c.in-None.ensures.steps.0 c.loop-id.invariant)
