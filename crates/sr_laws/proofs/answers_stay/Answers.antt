use Rattle.sr_laws.proofs.Kept.{answers-same, answer-renumbered}
use Rattle.sr_laws.proofs.KeptWays.{answer-there}
use Rattle.sr_laws.proofs.answers_stay.Goals as goal

pub returns : goal.returns
returns c = record { answers = answers-same; there = answer-there; carried = answer-renumbered }
