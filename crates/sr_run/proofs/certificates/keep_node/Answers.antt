use Rattle.sr_cert.specs.declared.draft.CertLine.TheVariants.{NodeSegment}
use Rattle.sr_run.proofs.CertificateLemmas.{held-within}
use Rattle.sr_run.proofs.certificates.keep_node.Goals as goal

pub returns-clause-within : goal.returns-clause-within
returns-clause-within c =
    held-within c.args.current.now c.in-Ok.found.now c.args.draft.now (NodeSegment c.in-Ok-find_node.found) c.keep.new.draft c.in-Ok.ensures c.requires.within c.in-Ok-find_node.ensures.0 c.keep.ensures.kept
