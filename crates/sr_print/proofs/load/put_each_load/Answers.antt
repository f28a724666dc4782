use Rattle.std.proofs.Common.{◌++◌, List, ℕ, ap, ◌∙◌}
use Rattle.std.specs.Prelude.{slice_index}
use Rattle.sr_print.specs.Loads.{load_line, load_lines}
use Rattle.sr_print.proofs.Appended.{begins-longer, on_err, two_pieces}
use Rattle.sr_print.proofs.Members.{lines-more}
use Rattle.sr_print.proofs.load.put_each_load.Goals as goal

pub returns-in_err-put_load-clause-err : goal.returns-in_err-put_load-clause-err
returns-in_err-put_load-clause-err c = on_err c.from_residual.result (begins-longer _ _ _ _ c.loop-link.invariant c.in_err-put_load.ensures.err)

pub loop-link-preserved : goal.loop-link-preserved
loop-link-preserved c =
    let net = c.args.net.now in
    let counts = c.args.counts.now in
    let l = c.loop-link.link in
    let old = c.args.out.now.items in
    two_pieces old c.loop-link.out.items c.put_load.new.out.items (load_lines net counts l) (load_line net l (slice_index counts l)) c.loop-link.invariant c.in_ok-put_load.ensures.line
    ∙ ap (λ (t : List ℕ). old ++ t) (lines-more (λ (k : ℕ). load_line net k (slice_index counts k)) l)
