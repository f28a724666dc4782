use Rattle.std.proofs.Common.{sym}
use Rattle.sr_wire.proofs.NumberLemmas.{length_numbers}
use Rattle.sr_wire.proofs.numbers.numbers_length.Goals as goal

pub returns-clause-is : goal.returns-clause-is
returns-clause-is c = sym (length_numbers c.args.numbers.now)
