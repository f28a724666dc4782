-- What is told to questions where a version comes from: its nodes, its links, and what of the facts it doesn't use.
use Rattle.std.specs.Prelude.{◌≡◌, List}
use Rattle.sr_lsdb.specs.declared.facts.Facts.{Facts}
use Rattle.sr_domain.specs.Net.{IsNetOf}
use Rattle.sr_account.specs.declared.aside.Aside.{Aside}
use Rattle.sr_account.specs.declared.sources.LinkSource.{LinkSource}
use Rattle.sr_account.specs.Asides.{AreAsides}
use Rattle.sr_account.specs.Laws.{IsAccountOf}
use Rattle.sr_account.specs.Sources.{AreSources}
use Rattle.sr_print.specs.Told.{Told}
use Rattle.sr_print.specs.Told.Told.{Nodes, Links, Asides}
use Rattle.sr_repair.specs.Version.{NumberedNet}

-- `nodes`: the nodes of the net
abbrev pub TellsNodes : NumberedNet → Told → Type 0
TellsNodes version told = told ≡ Nodes version.net

-- `links`: the links of the net, which is that of the facts, each with what is announced of it
abbrev pub TellsLinks : Facts → NumberedNet → Told → Type 0
TellsLinks facts version told =
    IsNetOf facts version.net
    × (sources : List LinkSource) × AreSources facts version.net sources × (told ≡ Links version.net sources)

-- `aside`: what of the facts isn't used; whatever they have is used in the net or told here once
abbrev pub TellsAsides : Facts → NumberedNet → Told → Type 0
TellsAsides facts version told =
    (asides : List Aside) × AreAsides facts asides × IsAccountOf facts version.net asides × (told ≡ Asides asides)
