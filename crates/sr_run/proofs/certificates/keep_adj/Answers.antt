use Rattle.sr_cert.specs.declared.draft.CertLine.TheVariants.{AdjSegment}
use Rattle.sr_run.proofs.CertificateLemmas.{held-within, link-kept, link-lacks}
use Rattle.sr_run.proofs.certificates.keep_adj.Goals as goal

pub returns-in-Err-find_link-clause-told : goal.returns-in-Err-find_link-clause-told
returns-in-Err-find_link-clause-told c =
    link-lacks (λ l. AdjSegment l) c.args.name.now c.args.current.now c.in-Ok.found.now c.args.draft.now c.in-Err-find_link.reason c.in-Ok.ensures c.in-Err-find_link.ensures

pub returns-clause-told : goal.returns-clause-told
returns-clause-told c =
    link-kept (λ l. AdjSegment l) c.args.name.now c.args.current.now c.in-Ok.found.now c.in-Ok-find_link.found _ _ _ _ _ c.in-Ok.ensures c.in-Ok-find_link.ensures c.keep.ensures.told

pub returns-clause-within : goal.returns-clause-within
returns-clause-within c =
    held-within c.args.current.now c.in-Ok.found.now c.args.draft.now (AdjSegment c.in-Ok-find_link.found) c.keep.new.draft c.in-Ok.ensures c.requires.within c.in-Ok-find_link.ensures.link_is.within c.keep.ensures.kept
