use Rattle.std.proofs.Common.{List, subst}
use Rattle.std.proofs.lemmas.List.Filters.{dedup_is}
use Rattle.sr_domain.specs.contracts.names.PairNameOrd.TheImpl.Laws.{matches_eq-law}
use Rattle.sr_domain.specs.declared.names.PairName.{PairName}
use Rattle.sr_domain.specs.GroupTables.{HaveSameNames}
use Rattle.sr_domain.proofs.GroupsLemmas.{names-kept, names-once}
use Rattle.sr_domain.proofs.names.names_of.Goals as goal

pub returns-clause-same : goal.returns-clause-same
returns-clause-same c =
    subst (λ (said : List PairName). HaveSameNames said c.dedup.new.self.items) c.in_ok-names.ensures
    (rw (dedup_is _ _ _ c.dedup.ensures.filtered) (names-kept _ matches_eq-law c.in_ok-names.names.items c.sort_unstable.new.self.items c.sort_unstable.ensures.permutation))

pub returns-clause-once : goal.returns-clause-once
returns-clause-once c = rw (dedup_is _ _ _ c.dedup.ensures.filtered) (names-once _ matches_eq-law c.sort_unstable.new.self.items c.sort_unstable.ensures.sorted)
