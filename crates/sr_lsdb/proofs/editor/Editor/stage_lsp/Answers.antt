use Rattle.std.proofs.Common.{◌<◌, ◌==◌, ◌∙◌, ap, arith}
use Rattle.sr_lsdb.specs.declared.facts.Stored.{Stored}
use Rattle.sr_lsdb.specs.Edit.Edit.{Announce}
use Rattle.sr_lsdb.specs.Sides.{latest, with_stored}
use Rattle.sr_lsdb.proofs.DraftLemmas.{AreSteadySides-staged}
use Rattle.sr_lsdb.proofs.editor.Editor.stage_lsp.Goals as goal

pub invariant_of-self-2 : goal.invariant_of-self-2
invariant_of-self-2 c =
    let room : c.self.inside.staged < 4096 = omega arith in
    let before = latest (c.self.inside.staged == 0) c.self.inside.sides in
    AreSteadySides-staged (Announce c.args.lsp) c.self.inside.sides c.store.new.self c.self.inside.staged c.requires c.self.invariant room c.store.ensures.accepted c.store.ensures.noted
    (c.in_ok-store.ensures.ok ∙ ap (λ (stored : Stored). with_stored c.args.lsp.id stored before) c.in_ok-stored.ensures)
