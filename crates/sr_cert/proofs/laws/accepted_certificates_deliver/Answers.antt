use Rattle.sr_cert.proofs.VerdictLemmas.{verdict-delivers}
use Rattle.sr_cert.proofs.laws.accepted_certificates_deliver.Goals as goal

pub returns : goal.returns
returns c = verdict-delivers
