use Rattle.std.proofs.Common.{◌≡◌, ℕ, ◌*◌, ◌/◌, length, subst, arith, sym, ◌∙◌}
use Rattle.std.proofs.lemmas.Bool.{false≢true}
use Rattle.sr_script.proofs.OctetLemmas.{block-refused, block-written, whole-text, AreWritten}
use Rattle.sr_script.proofs.digits.write_pairs.Goals as goal

pub returns-then-not-are_digits : goal.returns-then-not-are_digits
returns-then-not-are_digits c =
    block-refused c.args.text.now c.values_of-values.result (2 * (16 * c.loop-block.block)) (omega arith) c.values_of-values.ensures
    (λ digits. false≢true (sym c.if-not-are_digits.true ∙ c.are_digits.ensures.1 digits))

pub loop-block-preserved : goal.loop-block-preserved
loop-block-preserved c =
    block-written c.args.text.now c.loop-block.octets c.values_of-values.result c.octets_of.result c.loop-block.block c.loop-block.invariant c.values_of-values.ensures
    (c.are_digits.ensures.0 c.if-not-are_digits.false) c.octets_of.ensures (omega arith)

pub returns : goal.returns
returns c =
    let done : c.loop-block.block ≡ length c.args.octets.now / 16 = omega arith in
    let same : length c.loop-block.octets ≡ length c.args.octets.now = c.loop-block.auto.octets in
    let n : ℕ = 16 * (length c.args.octets.now / 16) in
    let written : AreWritten c.args.text.now c.loop-block.octets n = subst (λ (b : ℕ). AreWritten c.args.text.now c.loop-block.octets (16 * b)) done c.loop-block.invariant in
    whole-text c.args.text.now c.loop-block.octets c.write_few.new.octets n c.write_few.result written (omega arith) (omega arith) c.write_few.ensures
