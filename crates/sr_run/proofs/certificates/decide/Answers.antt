use Rattle.std.proofs.Common.{refl, subst, sym, ◌∙◌}
use Rattle.sr_model.specs.Label.{Net}
use Rattle.sr_cert.specs.Draft.{IsDraftWithin}
use Rattle.sr_print.specs.Told.Told.{Decided}
use Rattle.sr_run.specs.Certificates.{IsDecided}
use Rattle.sr_run.proofs.CertificateLemmas.{decided-told, draft-within, none-within}
use Rattle.sr_run.proofs.certificates.decide.Goals as goal

pub verdict_on-requires : goal.verdict_on-requires
verdict_on-requires c =
    subst (λ (n : Net). IsDraftWithin n c.in-Some.open) (sym c.net.ensures.value)
    (draft-within c.args.current.now c.in-Ok.found.now c.args.draft.now c.in-Some.open c.in-Ok.ensures (sym c.take.ensures.value ∙ c.in-Some.is) c.requires.within)

pub returns-in_err-decided-in-Some-clause-within : goal.returns-in_err-decided-in-Some-clause-within
returns-in_err-decided-in-Some-clause-within c = none-within c.args.current.now c.take.new.self c.take.ensures.after

pub returns-in_err-put_verdict-in-Some-clause-within : goal.returns-in_err-put_verdict-in-Some-clause-within
returns-in_err-put_verdict-in-Some-clause-within c = none-within c.args.current.now c.take.new.self c.take.ensures.after

pub returns-in_ok-put_verdict-in-Some-clause-told : goal.returns-in_ok-put_verdict-in-Some-clause-told
returns-in_ok-put_verdict-in-Some-clause-told c =
    let decided = c.in_ok-decided-in-Some.decided in
    record {
      told = Decided decided;
      is = decided-told c.args.labels c.args.current.now c.in-Ok.found.now c.args.draft.now c.in-Some.open decided c.take.new.self c.in-Ok.ensures (sym c.take.ensures.value ∙ c.in-Some.is)
          (subst (λ (n : Net). IsDecided n c.in-Some.open c.args.labels decided) c.net.ensures.value c.in_ok-decided-in-Some.ensures) c.take.ensures.after;
      accepted = refl;
      appended = λ number. c.in_ok-put_verdict-in-Some.ensures.line;
    }

pub returns-in_ok-put_verdict-in-Some-clause-within : goal.returns-in_ok-put_verdict-in-Some-clause-within
returns-in_ok-put_verdict-in-Some-clause-within c = none-within c.args.current.now c.take.new.self c.take.ensures.after
