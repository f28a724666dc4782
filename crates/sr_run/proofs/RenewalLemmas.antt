-- A commit that says nothing new: the next version has the net of the last one, but for the depth.
use Rattle.std.proofs.Common.{◌≡◌, ◌+◌, ◌≤◌, Some, IfSome, ap, sym, subst}
use Rattle.sr_model.specs.declared.limits.TheConstants.{MOST_DEPTH}
use Rattle.sr_labels.specs.Depth.{with_depth}
use Rattle.sr_lsdb.specs.Renewed.{SayTheSame}
use Rattle.sr_domain.specs.Net.{IsNetOf}
use Rattle.sr_domain.proofs.RenewedLemmas.{net-said}
use Rattle.sr_repair.specs.Version.{NumberedNet, version_of}
use Rattle.sr_run.specs.Domain.{number_of}
use Rattle.sr_run.specs.State.{State, IsKeptState, IsNextVersion}

-- where the tentative facts say what the accepted ones do, the last version renewed is the one after it
pub renewed-next : (state : State) → IsKeptState state → (version : NumberedNet) → state.current ≡ Some version → SayTheSame state.editing.accepted state.editing.tentative → state.editing.tentative.depth ≤ MOST_DEPTH → IsNextVersion state (version_of (version.number + 1) (with_depth state.editing.tentative.depth version.net))
renewed-next state kept version last same deep = record {
  counted = ap (λ o. number_of o + 1) (sym last);
  net =
      net-said state.editing.accepted state.editing.tentative same deep version.net
      (subst (λ o. IfSome o (λ (v : NumberedNet). IsNetOf state.editing.accepted v.net)) last kept.fresh);
}
