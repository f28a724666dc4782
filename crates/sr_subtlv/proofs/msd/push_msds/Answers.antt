use Rattle.std.proofs.Common.{◌≡◌, ℕ, ◌*◌, ◌++◌, ◌∷◌, List, length, take, sym, ap, ◌∙◌, arith}
use Rattle.std.proofs.Math.Seq.{take-length}
use Rattle.std.specs.List.{flat_map}
use Rattle.sr_wire.specs.declared.registry.TheConstants.{NODE_MSD}
use Rattle.sr_subtlv.specs.declared.msd.Msd.{Msd}
use Rattle.sr_subtlv.specs.Msd.{msd_value}
use Rattle.sr_subtlv.proofs.MsdLaws.{length_msds}
use Rattle.sr_subtlv.proofs.msd.push_msds.Goals as goal

pub returns-clause-ok : goal.returns-clause-ok
returns-clause-ok c =
    let msds = c.args.msds.now in
    let end : c.loop-msd.msd-index ≡ length msds = omega arith in
    let all : take c.loop-msd.msd-index msds ≡ msds = ap (λ (k : ℕ). take k msds) end ∙ take-length msds in
    c.loop-msd.invariant
    ∙ ap (λ (ms : List Msd). c.args.out.now.items ++ (NODE_MSD ∷ (2 * length msds) ∷ flat_map msd_value ms)) all
    ∙ ap (λ (k : ℕ). c.args.out.now.items ++ (NODE_MSD ∷ k ∷ flat_map msd_value msds)) (sym (length_msds msds))
