use Rattle.std.proofs.Common.{◌≡◌, ◌+◌, ◌-◌, ◌++◌, List, drop, sym, subst, arith}
use Rattle.std.specs.List.{flat_map}
use Rattle.sr_subtlv.specs.declared.msd.Msd.{Msd}
use Rattle.sr_subtlv.specs.Msd.{msd_value}
use Rattle.sr_subtlv.proofs.MsdLaws.{msds_more}
use Rattle.sr_subtlv.proofs.msd.pairs.Goals as goal

pub loop-at-preserved : goal.loop-at-preserved
loop-at-preserved c =
    let value = c.args.value.now in
    let even = c.loop-at.invariant.even in
    let P : List Msd → Type 0 = λ ms. value ≡ flat_map msd_value ms ++ drop (c.loop-at.at + 2) value in
    record {
      text = subst P (sym c.in_ok-push.ensures.items) (msds_more value c.loop-at.msds.items c.loop-at.at (omega (arith, even.1)) c.loop-at.invariant.text);
      even = (even.0 - 1, omega (arith, even.1));
    }
