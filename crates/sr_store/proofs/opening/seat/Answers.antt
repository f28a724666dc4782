use Rattle.sr_store.proofs.Keeping.{added, forks, merges}
use Rattle.sr_store.proofs.opening.seat.Goals as goal

pub reader-requires : goal.reader-requires
reader-requires g c x views h = added x.store views h

pub tell-requires : goal.tell-requires
tell-requires g c x views h at = forks x.store views c.args.writer.now.inner.desk.place.id _ h at

pub learn-requires-clause-rule : goal.learn-requires-clause-rule
learn-requires-clause-rule g c x views h at apart there = merges x.store views c.in-Ok.place.place.id c.tell.result.id _ h apart there
