use Rattle.std.proofs.lemmas.List.Filters.{dedup_is}
use Rattle.sr_domain.specs.contracts.risks.RiskNoteOrd.TheImpl.Laws.{matches_eq-law}
use Rattle.sr_domain.proofs.GroupsLemmas.{notes-in_order, notes-kept}
use Rattle.sr_domain.proofs.groups.by_name.Goals as goal

pub returns-clause-same : goal.returns-clause-same
returns-clause-same c = rw (dedup_is _ _ _ c.dedup.ensures.filtered) (notes-kept _ matches_eq-law c.args.notes.items c.sort_unstable.new.self.items c.sort_unstable.ensures.permutation)

pub returns-clause-ascending : goal.returns-clause-ascending
returns-clause-ascending c = rw (dedup_is _ _ _ c.dedup.ensures.filtered) (notes-in_order _ matches_eq-law c.sort_unstable.new.self.items c.sort_unstable.ensures.sorted)
