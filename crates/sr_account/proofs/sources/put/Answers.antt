use Rattle.std.proofs.Common.{ap}
use Rattle.sr_lsp.specs.Parts.{part_of}
use Rattle.sr_account.proofs.SourceLaw.{put-given}
use Rattle.sr_account.proofs.sources.put.Goals as goal

pub returns-in-Reach : goal.returns-in-Reach
returns-in-Reach c = put-given c.args.facts.now c.args.graph.now c.args.node (part_of c.args.part) c.in-Some.link.0 c.args.sources.now c.source_of.result c.requires.named c.requires.long c.in-Some.ensures (c.in-Reach.reach.now, ap part_of c.in-Reach.is, c.source_of.ensures)
