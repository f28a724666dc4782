use Rattle.sr_run.proofs.CertificateLemmas.{written-within}
use Rattle.sr_run.proofs.certificates.verdict_on.Goals as goal

pub verdict-requires : goal.verdict-requires
verdict-requires c = written-within c.args.net.now c.args.draft c.top_last.result c.in-Some.certificate c.requires (rw c.in-Some.is at c.in_ok-certificate.ensures)
