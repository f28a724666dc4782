use Rattle.std.proofs.lemmas.Result.{on_ok_weaker}
use Rattle.sr_print.specs.Account.{matter_text}
use Rattle.sr_print.proofs.Appended.{two_pieces}
use Rattle.sr_print.proofs.aside.put_matter.Goals as goal

pub returns-in_ok-extend_from_slice-in-Capability-clause-line : goal.returns-in_ok-extend_from_slice-in-Capability-clause-line
unfolding matter_text
returns-in_ok-extend_from_slice-in-Capability-clause-line c =
    on_ok_weaker c.put_address.result
    (λ line. rw c.in-Capability.is (two_pieces c.args.out.now.items c.extend_from_slice-in-Capability.new.self.items c.put_address.new.out.items _ _ c.in_ok-extend_from_slice-in-Capability.ensures.items line))
    c.put_address.ensures.line
