use Rattle.std.proofs.Common.{◌≡◌, ⊎_elim, false, ap, arith}
use Rattle.sr_model.specs.Audit.{is_least}
use Rattle.sr_repair.proofs.StackLemmas.{other-answer}
use Rattle.sr_cert.proofs.issued.certificate_for.Goals as goal

pub returns-in-NoPath : goal.returns-in-NoPath
returns-in-NoPath g c =
    let not : is_least c.args.answer ≡ false = ⊎_elim (λ e. ap is_least e) (λ r. ⊎_elim (λ e. ap is_least e) (λ t. ap is_least t.1) r) c.in-NoPath.is in
    record {
      certificate = other-answer c.args.version.now.net c.args.case c.args.destination.0 c.args.answer c.requires.answer not;
      searches = (omega arith, omega arith);
    }
