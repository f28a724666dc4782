use Rattle.sr_laws.proofs.Kept.{listed-same, post-same, steady-from_kept}
use Rattle.sr_laws.proofs.KeptWays.{ways-same}
use Rattle.sr_laws.proofs.steady_cases_stay.Goals as goal

pub returns : goal.returns
returns c = record { kept = steady-from_kept; rows = post-same; ways = ways-same; lists = listed-same }
