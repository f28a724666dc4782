-- Questions where a version comes from, and about its audit as a whole, are told alike.
use Rattle.std.proofs.Common.{◌≡◌, ℕ, List, refl, ap, subst, ◌∙◌}
use Rattle.sr_model.specs.declared.audit.Item.{Item}
use Rattle.sr_model.specs.declared.case.Kind.{Kind}
use Rattle.sr_model.specs.Audit.{counts_of}
use Rattle.sr_model.specs.Rule.{IsNet}
use Rattle.sr_laws.proofs.Audits.{audit-one}
use Rattle.sr_lsdb.specs.declared.facts.Facts.{Facts}
use Rattle.sr_account.proofs.DeterminedLaw.{asides-one, sources-one}
use Rattle.sr_insight.specs.declared.group.Group.{Group}
use Rattle.sr_insight.specs.declared.grouping.Grouping.{Grouping}
use Rattle.sr_insight.specs.declared.stack_count.StackCount.{StackCount}
use Rattle.sr_insight.specs.Groups.{AreGroups}
use Rattle.sr_insight.specs.Stacks.{AreStackCounts}
use Rattle.sr_coverage.proofs.DeterminedLemmas.{groups-one, stack-counts-one}
use Rattle.sr_listing.specs.declared.wanted.Wanted.{Wanted}
use Rattle.sr_listing.specs.declared.wanted.Wanted.TheVariants.{OfCase, OfNode}
use Rattle.sr_listing.specs.Wanted.{wanted_items}
use Rattle.sr_script.specs.declared.name.LinkName.{LinkName}
use Rattle.sr_print.specs.Told.{Told}
use Rattle.sr_print.specs.Told.Told.{Nodes, Links, Asides, Coverage, Stacks, Repairs}
use Rattle.sr_repair.specs.Version.{NumberedNet}
use Rattle.sr_run.specs.Account.{TellsNodes, TellsLinks, TellsAsides}
use Rattle.sr_run.specs.Insight.{TellsCoverage, TellsStacks, TellsWanted, TellsCaseRepairs, TellsNodeRepairs}
use Rattle.sr_run.specs.Questions.{IsRefused}
use Rattle.sr_run.proofs.DeterminedTold.{AreAlike, alike, alike-refused}
use Rattle.sr_run.proofs.DeterminedNames.{of-node, of-named_link}

module _ (version : NumberedNet) (net : IsNet version.net) (a b : Told) where
  pub nodes-alike : TellsNodes version a → TellsNodes version b → AreAlike a b
  nodes-alike p q = alike a b (Nodes version.net) (Nodes version.net) p q refl

  pub links-alike : (facts : Facts) → TellsLinks facts version a → TellsLinks facts version b → AreAlike a b
  links-alike facts p q =
      alike a b (Links version.net p.1) (Links version.net q.1) p.3 q.3
      (ap (Links version.net) (sources-one facts version.net p.1 q.1 p.0 p.2 q.2))

  pub asides-alike : (facts : Facts) → TellsAsides facts version a → TellsAsides facts version b → AreAlike a b
  asides-alike facts p q = alike a b (Asides p.0) (Asides q.0) p.3 q.3 (ap Asides (asides-one facts p.0 q.0 p.1 q.1))

  -- the groups of the audit
  pub coverage-alike : (grouping : Grouping) → TellsCoverage grouping version a → TellsCoverage grouping version b → AreAlike a b
  coverage-alike grouping p q =
      let items : p.0 ≡ q.0 = audit-one version.net p.0 q.0 p.2 q.2 in
      let groups : p.1 ≡ q.1 = groups-one grouping version.net.graph q.0 p.1 q.1 (subst (λ (xs : List Item). AreGroups grouping version.net.graph xs p.1) items p.3) q.3 in
      alike a b (Coverage version grouping p.1 (counts_of p.0)) (Coverage version grouping q.1 (counts_of q.0)) p.5 q.5
      (ap (λ (gs : List Group). Coverage version grouping gs (counts_of p.0)) groups
      ∙ ap (λ (xs : List Item). Coverage version grouping q.1 (counts_of xs)) items)

  -- how many labels are pushed
  pub stacks-alike : TellsStacks version a → TellsStacks version b → AreAlike a b
  stacks-alike p q =
      let items : p.0 ≡ q.0 = audit-one version.net p.0 q.0 p.2 q.2 in
      let stacks : p.1 ≡ q.1 = stack-counts-one q.0 p.1 q.1 (subst (λ (xs : List Item). AreStackCounts xs p.1) items p.3) q.3 in
      alike a b (Stacks version.number p.1 (counts_of p.0)) (Stacks version.number q.1 (counts_of q.0)) p.4 q.4
      (ap (λ (ss : List StackCount). Stacks version.number ss (counts_of p.0)) stacks
      ∙ ap (λ (xs : List Item). Stacks version.number q.1 (counts_of xs)) items)

  wanted-told : (wanted : Wanted) → TellsWanted version.net wanted a → TellsWanted version.net wanted b → AreAlike a b
  wanted-told wanted p q =
      alike a b (Repairs version.net (wanted_items version.net.graph wanted p.0)) (Repairs version.net (wanted_items version.net.graph wanted q.0)) p.2 q.2
      (ap (λ (xs : List Item). Repairs version.net (wanted_items version.net.graph wanted xs)) (audit-one version.net p.0 q.0 p.1 q.1))

  -- all repairs of a case
  pub case-repairs-alike : (kind : Kind) (name : LinkName) → TellsCaseRepairs kind name version a → TellsCaseRepairs kind name version b → AreAlike a b
  case-repairs-alike kind name =
      of-named_link (AreAlike a b) (IsRefused a) (IsRefused b) (alike-refused a b) version.net net.named name
      (λ link. TellsWanted version.net (OfCase (record { kind = kind; link = link })) a) (λ link. TellsWanted version.net (OfCase (record { kind = kind; link = link })) b)
      (λ link. wanted-told (OfCase (record { kind = kind; link = link })))

  -- all repairs of a node's failure
  pub node-repairs-alike : (system : ℕ) → TellsNodeRepairs system version a → TellsNodeRepairs system version b → AreAlike a b
  node-repairs-alike system =
      of-node (AreAlike a b) (IsRefused a) (IsRefused b) (alike-refused a b) version.net.graph net.named system
      (λ node. TellsWanted version.net (OfNode (record { 0 = node })) a) (λ node. TellsWanted version.net (OfNode (record { 0 = node })) b)
      (λ node. wanted-told (OfNode (record { 0 = node })))
