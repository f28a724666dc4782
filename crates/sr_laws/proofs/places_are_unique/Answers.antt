use Rattle.sr_laws.proofs.Places.{place-one}
use Rattle.sr_laws.proofs.places_are_unique.Goals as goal

pub returns : goal.returns
returns c = place-one
