use Rattle.std.proofs.Common.{◌≡◌, ℕ, suc, ◌+◌, ◌*◌, ◌++◌, ◌∷◌, List, length, take, ap, ◌∙◌, arith}
use Rattle.std.proofs.Math.Seq.{take-length}
use Rattle.std.specs.List.{flat_map}
use Rattle.sr_wire.specs.declared.registry.TheConstants.{SR_CAPABILITIES}
use Rattle.sr_model.specs.declared.label.Range.{Range}
use Rattle.sr_subtlv.specs.SrCap.{range_text}
use Rattle.sr_subtlv.proofs.SrCapLaws.{length_ranges}
use Rattle.sr_subtlv.proofs.sr_cap.push_sr_cap.Goals as goal

-- the length that is written
long : (rs : List Range) → 1 + 8 * length rs ≡ suc (length (flat_map range_text rs))
long rs = let e : length (flat_map range_text rs) ≡ 8 * length rs = length_ranges rs in omega arith

pub returns-clause-ok : goal.returns-clause-ok
returns-clause-ok c =
    let told = c.as_slice-ranges.result.now in
    let own : told ≡ c.args.cap.now.ranges = c.as_slice-ranges.ensures in
    let old = c.args.out.now.items in
    let flags = c.args.cap.now.flags in
    let end : c.loop-range.range-index ≡ length told = omega arith in
    let all : take c.loop-range.range-index told ≡ told = ap (λ (k : ℕ). take k told) end ∙ take-length told in
    c.loop-range.invariant
    ∙ ap (λ (rs : List Range). old ++ (SR_CAPABILITIES ∷ (1 + 8 * length told) ∷ flags ∷ flat_map range_text rs)) all
    ∙ ap (λ (rs : List Range). old ++ (SR_CAPABILITIES ∷ (1 + 8 * length rs) ∷ flags ∷ flat_map range_text rs)) own
    ∙ ap (λ (k : ℕ). old ++ (SR_CAPABILITIES ∷ k ∷ flags ∷ flat_map range_text c.args.cap.now.ranges)) (long c.args.cap.now.ranges)
