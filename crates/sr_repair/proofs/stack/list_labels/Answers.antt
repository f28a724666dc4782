use Rattle.std.proofs.Common.{◌≡◌, ⊎_elim, false, ap}
use Rattle.sr_model.specs.Audit.{is_least}
use Rattle.sr_repair.proofs.StackLemmas.{other-answer}
use Rattle.sr_repair.proofs.stack.list_labels.Goals as goal

pub returns-in-NoPath : goal.returns-in-NoPath
returns-in-NoPath c =
    let not : is_least c.args.answer.now ≡ false = ⊎_elim (λ e. ap is_least e) (λ r. ⊎_elim (λ e. ap is_least e) (λ t. ap is_least t.1) r) c.in-NoPath.is in
    other-answer c.args.net.now c.args.case c.args.destination.0 c.args.answer.now c.requires.answer not
