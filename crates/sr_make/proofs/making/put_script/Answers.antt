use Rattle.std.proofs.Common.{◌∙◌, sym, subst}
use Rattle.sr_engine.specs.Written.{Breaks, Says, written}
use Rattle.sr_engine.proofs.Answering.{breaks-more}
use Rattle.sr_make.specs.Pairs.{made_pairs}
use Rattle.sr_make.specs.Script.{audit_lines, lsp_lines}
use Rattle.sr_make.specs.Sizes.{AreMadePairs}
use Rattle.sr_make.proofs.MakingLemmas.{puts-then}
use Rattle.sr_make.proofs.SizeLemmas.{made-small}
use Rattle.sr_make.proofs.making.put_script.Goals as goal

pub put_lsp_lines-requires : goal.put_lsp_lines-requires
put_lsp_lines-requires g c = subst AreMadePairs (sym (c.deref.ensures.value ∙ c.in-Ok.ensures)) (made-small c.args.nodes c.args.start c.requires)

pub returns-in-Ok-put_lsp_lines : goal.returns-in-Ok-put_lsp_lines
returns-in-Ok-put_lsp_lines g c =
    let lines = lsp_lines (made_pairs c.args.nodes c.args.start) c.args.nodes in
    let says = subst (λ pairs. Says (written (g.K.Sink.held c.args.sink.now) (g.K.Sink.faults c.args.sink.now) c.args.out.now) (written (g.K.Sink.held c.put_lsp_lines.new.sink) (g.K.Sink.faults c.put_lsp_lines.new.sink) c.put_lsp_lines.new.out) (lsp_lines pairs c.args.nodes)) (c.deref.ensures.value ∙ c.in-Ok.ensures) c.in-Ok-put_lsp_lines.ensures in
    puts-then (written (g.K.Sink.held c.args.sink.now) (g.K.Sink.faults c.args.sink.now) c.args.out.now) (written (g.K.Sink.held c.put_lsp_lines.new.sink) (g.K.Sink.faults c.put_lsp_lines.new.sink) c.put_lsp_lines.new.out) (written (g.K.Sink.held c.put_audit_lines.new.sink) (g.K.Sink.faults c.put_audit_lines.new.sink) c.put_audit_lines.new.out) lines audit_lines c.put_audit_lines.result says c.put_audit_lines.ensures

pub returns-in-Ok : goal.returns-in-Ok
returns-in-Ok g c =
    let lines = lsp_lines (made_pairs c.args.nodes c.args.start) c.args.nodes in
    let fault = c.in-Err-put_lsp_lines.fault in
    let breaks = subst (λ pairs. Breaks (written (g.K.Sink.held c.args.sink.now) (g.K.Sink.faults c.args.sink.now) c.args.out.now) (written (g.K.Sink.held c.put_lsp_lines.new.sink) (g.K.Sink.faults c.put_lsp_lines.new.sink) c.put_lsp_lines.new.out) (lsp_lines pairs c.args.nodes) fault) (c.deref.ensures.value ∙ c.in-Ok.ensures) c.in-Err-put_lsp_lines.ensures in
    breaks-more (written (g.K.Sink.held c.args.sink.now) (g.K.Sink.faults c.args.sink.now) c.args.out.now) (written (g.K.Sink.held c.put_lsp_lines.new.sink) (g.K.Sink.faults c.put_lsp_lines.new.sink) c.put_lsp_lines.new.out) lines audit_lines fault breaks
