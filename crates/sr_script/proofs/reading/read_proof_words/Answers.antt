use Rattle.sr_script.proofs.LineLemmas.{proof-refused}
use Rattle.sr_script.proofs.reading.read_proof_words.Goals as goal

pub returns-in-Err-clause-refused : goal.returns-in-Err-clause-refused
returns-in-Err-clause-refused c = proof-refused c.args.words.now c.in-Err.fault c.requires.first c.in-Err.ensures.refused
