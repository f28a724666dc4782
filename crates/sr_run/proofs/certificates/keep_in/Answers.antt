use Rattle.std.proofs.Common.{ℕ, ◌+◌, Some, refl, inr, arith, ap}
use Rattle.sr_print.specs.Told.Told.{ProofKept}
use Rattle.sr_run.proofs.certificates.keep_in.Goals as goal

pub returns-clause-told : goal.returns-clause-told
returns-clause-told c = record {
  told = ProofKept (c.kept-kept.result + 1);
  is = inr (omega (arith, c.kept-kept.ensures.kept, c.if-kept-ge-MOST_LINES.false), ap (λ (k : ℕ). ProofKept (k + 1)) c.kept-kept.ensures.kept, ap (λ d. Some d) c.in_ok-keep.ensures.ok);
  accepted = refl;
  appended = λ number. c.in_ok-put_proof.ensures.line;
}
