-- The state of a domain between two lines of a script.
use Rattle.std.specs.Prelude.{ℕ, ◌+◌, ◌-◌, ◌*◌, List, [], ◌∷◌, length, take, reverse, Option, Some, None}
use Rattle.sr_model.specs.Label.{Net}
use Rattle.sr_lsdb.specs.Editing.{Editing, opening as no_edits, with_edit, with_accepted, with_none_staged}
use Rattle.sr_lsdb.specs.Edit.{Edit}
use Rattle.sr_repair.specs.Version.{NumberedNet, version_of}
use Rattle.sr_cert.specs.Draft.{CertDraft}

-- a watch: its watchers, the rounds of each, and the number of the version that was current when it began
pub record BegunWatch : Type 0 where
  pub watchers : ℕ
  pub rounds : ℕ
  pub from : ℕ

-- what runs in the background: nothing, a hold of a version, or a watch
pub data Background : Type 0 where
  AtRest : Background
  OfHold : NumberedNet → Background
  OfWatch : BegunWatch → Background

-- of all watches of a script: the places that they asked for, one for each watcher; the rounds that all watchers owe;
-- and the commits that were accepted while a watch ran
pub record WatchTotals : Type 0 where
  pub places : ℕ
  pub rounds : ℕ
  pub commits : ℕ

-- a net that was tried, and the version that was the last one then
pub record TriedNet : Type 0 where
  pub current : Option NumberedNet
  pub net : Net

-- the accepted and the tentative facts with how many edits are staged; the nets of the accepted commits, the last one
-- first; the certificate that is being written, where one is open; what runs in the background; what was asked of all
-- watches; how many questions were asked by `prove` and `why`; and the nets that were tried, the last one first
pub record Domain : Type 0 where
  pub editing : Editing
  pub nets : List Net
  pub draft : Option CertDraft
  pub background : Background
  pub totals : WatchTotals
  pub asked : ℕ
  pub tried : List TriedNet

-- before the first watch
abbrev pub no_watches : WatchTotals
no_watches = record { places = 0; rounds = 0; commits = 0 }

-- before the first line
abbrev pub opening_domain : Domain
opening_domain = record {
  editing = no_edits;
  nets = [];
  draft = None;
  background = AtRest;
  totals = no_watches;
  asked = 0;
  tried = [];
}

-- the version of the last of these nets: its number is how many there are
abbrev pub last_version : List Net → Option NumberedNet
last_version [] = None
last_version (net ∷ earlier) = Some (version_of (length earlier + 1) net)

-- the version before the last one
abbrev pub version_before : List Net → Option NumberedNet
version_before [] = None
version_before (net ∷ earlier) = last_version earlier

-- the number of the last version, and 0 before the first
abbrev pub number_of : Option NumberedNet → ℕ
number_of None = 0
number_of (Some version) = version.number

-- the versions of all these nets, the last one first
abbrev pub versions_of : List Net → List NumberedNet
versions_of [] = []
versions_of (net ∷ earlier) = version_of (length earlier + 1) net ∷ versions_of earlier

-- the versions from this number on, in order
abbrev pub versions_since : ℕ → List Net → List NumberedNet
versions_since from nets = reverse (take (length nets + 1 - from) (versions_of nets))

-- after a watch is begun
abbrev pub with_watch_begun : WatchTotals → BegunWatch → WatchTotals
with_watch_begun totals watch = record totals {
  places = totals.places + watch.watchers;
  rounds = totals.rounds + watch.watchers * watch.rounds;
}

-- after a commit is accepted while this runs: those during a watch are counted
abbrev pub with_commit_during : Background → WatchTotals → WatchTotals
with_commit_during AtRest totals = totals
with_commit_during (OfHold version) totals = totals
with_commit_during (OfWatch watch) totals = record totals { commits = totals.commits + 1 }

-- after an edit is staged
abbrev pub with_staged : Domain → Edit → Domain
with_staged domain edit = record domain { editing = with_edit edit domain.editing }

-- after the staged edits are dropped
abbrev pub with_dropped : Domain → Domain
with_dropped domain = record domain { editing = with_none_staged domain.editing }

-- after the tentative facts are accepted, of which this is the net; no certificate is open then
abbrev pub with_net : Domain → Net → Domain
with_net domain net = record domain {
  editing = with_accepted domain.editing;
  nets = net ∷ domain.nets;
  draft = None;
  totals = with_commit_during domain.background domain.totals;
}

-- after a line of a certificate: this one is open, or none
abbrev pub with_draft : Domain → Option CertDraft → Domain
with_draft domain draft = record domain { draft = draft }

-- after a hold of this version is begun
abbrev pub with_hold : Domain → NumberedNet → Domain
with_hold domain version = record domain { background = OfHold version }

-- after this watch is begun
abbrev pub with_watch : Domain → BegunWatch → Domain
with_watch domain watch = record domain { background = OfWatch watch; totals = with_watch_begun domain.totals watch }

-- after what runs is joined
abbrev pub with_joined : Domain → Domain
with_joined domain = record domain { background = AtRest }

-- after a question by `prove` or `why`
abbrev pub with_asked : Domain → Domain
with_asked domain = record domain { asked = domain.asked + 1 }

-- after a question was put to this net, which is that of the tentative facts
abbrev pub with_tried : Domain → Net → Domain
with_tried domain net = record domain {
  tried = record { current = last_version domain.nets; net = net } ∷ domain.tried;
}
