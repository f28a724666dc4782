use Rattle.std.proofs.Common.{arith}
use Rattle.sr_lsp.proofs.PrefixLaws.{length_prefix}
use Rattle.sr_lsp.proofs.prefix.PrefixTlvKindPart.length.Goals as goal

pub returns : goal.returns
returns c = omega (arith, length_prefix c.args.self.now c.requires)
