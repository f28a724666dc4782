use Rattle.std.proofs.Common.{◌++◌, List, ℕ, ap, ◌∙◌}
use Rattle.std.specs.Prelude.{slice_index_or}
use Rattle.sr_account.specs.Filling.{no_source}
use Rattle.sr_print.specs.Account.{link_line, link_lines}
use Rattle.sr_print.proofs.Appended.{begins-longer, on_err, two_pieces}
use Rattle.sr_print.proofs.Members.{lines-more}
use Rattle.sr_print.proofs.account.put_each_link.Goals as goal

pub returns-in_err-put_link_line-clause-err : goal.returns-in_err-put_link_line-clause-err
returns-in_err-put_link_line-clause-err c = on_err c.from_residual.result (begins-longer _ _ _ _ c.loop-link.invariant c.in_err-put_link_line.ensures.err)

pub loop-link-preserved : goal.loop-link-preserved
loop-link-preserved c =
    let net = c.args.net.now in
    let sources = c.args.sources.now in
    let v = c.loop-link.link in
    let old = c.args.out.now.items in
    two_pieces old c.loop-link.out.items c.put_link_line.new.out.items (link_lines net sources v) (link_line net v (slice_index_or sources v no_source)) c.loop-link.invariant c.in_ok-put_link_line.ensures.line
    ∙ ap (λ (t : List ℕ). old ++ t) (lines-more (λ (k : ℕ). link_line net k (slice_index_or sources k no_source)) v)
