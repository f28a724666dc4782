use Rattle.std.proofs.Common.{arith}
use Rattle.std.proofs.lemmas.Result.{on_ok_weaker}
use Rattle.sr_lsp.proofs.PrefixLaws.{length_prefix, written}
use Rattle.sr_lsp.proofs.prefix.PrefixTlvKindPart.write.Goals as goal

pub write_subs-requires-clause-short : goal.write_subs-requires-clause-short
write_subs-requires-clause-short c = omega (arith, length_prefix c.args.self.now c.requires.fits, c.requires.short)

pub returns-clause-ok : goal.returns-clause-ok
returns-clause-ok c =
    on_ok_weaker c.write_subs.result
    (written c.args.self.now c.length.result c.args.out.now.items c.write_metric.new.out.items c.write_address.new.out.items c.write_subs.new.out.items c.requires.fits c.length.ensures
    c.in_ok-write_metric.ensures.ok c.in_ok-write_address.ensures.ok)
    c.write_subs.ensures.ok
