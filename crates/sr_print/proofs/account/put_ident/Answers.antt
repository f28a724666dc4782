use Rattle.std.specs.Prelude.{codes}
use Rattle.std.proofs.lemmas.Result.{on_ok_weaker}
use Rattle.sr_print.specs.Account.{address_word, ident_text}
use Rattle.sr_print.proofs.Appended.{three_pieces}
use Rattle.sr_print.proofs.account.put_ident.Goals as goal

pub returns-in_ok-put_address_word-in-Addr-clause-line : goal.returns-in_ok-put_address_word-in-Addr-clause-line
unfolding ident_text
returns-in_ok-put_address_word-in-Addr-clause-line c =
    on_ok_weaker c.put_address_word-in-Addr.result
    (λ line. rw c.in-Addr.is
    (three_pieces c.args.out.now.items c.extend_from_slice-in-Addr.new.self.items c.put_address_word.new.out.items c.put_address_word-in-Addr.new.out.items
    (codes " ident addr") (address_word c.in-Addr.local) (address_word c.in-Addr.remote)
    c.in_ok-extend_from_slice-in-Addr.ensures.items c.in_ok-put_address_word-in-Addr.ensures.line line))
    c.put_address_word-in-Addr.ensures.line
