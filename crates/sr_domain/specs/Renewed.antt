-- A law of facts that say the same: they have the same net, but for the depth.
use Rattle.std.specs.Prelude.{◌≤◌}
use Rattle.sr_model.specs.declared.limits.TheConstants.{MOST_DEPTH}
use Rattle.sr_model.specs.Label.{Net}
use Rattle.sr_labels.specs.Depth.{with_depth}
use Rattle.sr_lsdb.specs.declared.facts.Facts.{Facts}
use Rattle.sr_lsdb.specs.Renewed.{SayTheSame}
use Rattle.sr_domain.specs.Net.{IsNetOf}

-- where facts say the same as others, their net is that of the others with their own depth
abbrev pub SameSaidHasSameNet : Type 0
SameSaidHasSameNet =
    (one other : Facts) → SayTheSame one other → other.depth ≤ MOST_DEPTH → (net : Net) → IsNetOf one net
    → IsNetOf other (with_depth other.depth net)
