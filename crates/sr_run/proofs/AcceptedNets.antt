-- What holds of every net holds of the nets of the accepted commits, whatever lines were answered.
use Rattle.std.proofs.Common.{All}
use Rattle.std.proofs.lemmas.List.Elements.{All-cons}
use Rattle.sr_model.specs.Label.{Net}
use Rattle.sr_model.specs.Rule.{IsNet}
use Rattle.sr_laws.proofs.Accepted.{net-from_accepted}
use Rattle.sr_run.specs.Domain.{Domain}
use Rattle.sr_run.proofs.StepLemmas.{IsKept}

-- the net of facts is a net
pub nets-kept : (P : Net → Type 0) → ((net : Net) → IsNet net → P net) → IsKept (λ (domain : Domain). All P domain.nets)
nets-kept P each = record {
  staged = λ domain edit h. h;
  dropped = λ domain h. h;
  drafted = λ domain draft h. h;
  accepted = λ domain net is h. All-cons P net domain.nets (each net (net-from_accepted net is.accepted)) h;
  held = λ domain version is h. h;
  watched = λ domain version watchers rounds is h. h;
  joined = λ domain h. h;
  asked = λ domain h. h;
  tried = λ domain net is h. h;
}
