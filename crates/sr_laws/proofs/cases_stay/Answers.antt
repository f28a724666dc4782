use Rattle.sr_laws.proofs.Kept.{post-same, affected-same, steady-from_kept}
use Rattle.sr_laws.proofs.KeptWays.{ways-same}
use Rattle.sr_laws.proofs.cases_stay.Goals as goal

pub returns : goal.returns
returns c = record {
  rows = λ n m nn nm case kept. post-same n m nn nm case (steady-from_kept n m nn nm case kept);
  affected = λ n m nn nm case kept. affected-same n m nn nm case (steady-from_kept n m nn nm case kept);
  ways = λ n m nn nm case kept. ways-same n m nn nm case (steady-from_kept n m nn nm case kept);
}
