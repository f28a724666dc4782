use Rattle.std.proofs.Common.{arith, subst, IsTrue, ◌↔◌}
use Rattle.sr_script.specs.LineSays.{IsRemark}
use Rattle.sr_script.proofs.LineLemmas.{nothing-is}
use Rattle.sr_script.proofs.reading.says_nothing.Goals as goal

pub returns-else-len-eq0 : goal.returns-else-len-eq0
returns-else-len-eq0 c =
    nothing-is c.args.words.now c.is_remark.result (omega arith) (subst (λ word. IsTrue c.is_remark.result ↔ IsRemark word) c.get.ensures c.is_remark.ensures)
