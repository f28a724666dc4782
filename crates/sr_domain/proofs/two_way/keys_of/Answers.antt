use Rattle.std.proofs.lemmas.List.Filters.{dedup_is}
use Rattle.sr_model.specs.contracts.name.LinkKeyOrd.TheImpl.Laws.{matches_eq-law}
use Rattle.sr_domain.proofs.KeyLemmas.{keys-sorted}
use Rattle.sr_domain.proofs.two_way.keys_of.Goals as goal

pub returns : goal.returns
returns c = rw (dedup_is _ _ _ c.dedup.ensures.filtered) (keys-sorted _ matches_eq-law c.args.announcements.now c.sort_unstable.new.self.items (rw c.in_ok-keys.ensures at c.sort_unstable.ensures.permutation) c.sort_unstable.ensures.sorted)
