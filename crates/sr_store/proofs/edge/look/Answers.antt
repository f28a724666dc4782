use Rattle.sr_store.proofs.Keeping.{looks}
use Rattle.sr_store.proofs.edge.look.Goals as goal

pub enter_as-requires : goal.enter_as-requires
enter_as-requires g c x views h at = looks x views c.args.place.place.id _ h at
