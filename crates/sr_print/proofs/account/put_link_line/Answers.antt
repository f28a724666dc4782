use Rattle.std.proofs.lemmas.Result.{on_err_weaker}
use Rattle.sr_print.proofs.Appended.{begins-longer, three_pieces, two_pieces}
use Rattle.sr_print.proofs.account.put_link_line.Goals as goal

pub returns-clause-err : goal.returns-clause-err
returns-clause-err c =
    let old = c.args.out.now.items in
    let half = three_pieces old c.extend_from_slice.new.self.items c.put_link.new.out.items c.put_back.new.out.items _ _ _ c.in_ok-extend_from_slice.ensures.items c.in_ok-put_link.ensures.line c.in_ok-put_back.ensures.line in
    let more = three_pieces c.put_back.new.out.items c.put_source.new.out.items c.put_ident.new.out.items c.put_groups.new.out.items _ _ _ c.in_ok-put_source.ensures.line c.in_ok-put_ident.ensures.line c.in_ok-put_groups.ensures.line in
    on_err_weaker c.end.result
    (λ err. begins-longer old c.put_groups.new.out.items c.end.new.out.items _ (two_pieces old c.put_back.new.out.items c.put_groups.new.out.items _ _ half more) err)
    c.end.ensures.err
