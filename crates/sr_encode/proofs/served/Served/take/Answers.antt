use Rattle.std.proofs.Common.{◌≡◌, sym, ◌∙◌, subst}
use Rattle.std.specs.Vec.{with_items}
use Rattle.std.proofs.lemmas.List.{with_items_is}
use Rattle.sr_encode.specs.Serve.{ArePlaced}
use Rattle.sr_encode.proofs.TakeLemmas.{offered-taken}
use Rattle.sr_encode.proofs.served.Served.take.Goals as goal

pub returns-clause-offered : goal.returns-clause-offered
returns-clause-offered c =
    let written : (with_items c.args.self.now.places c.mark.new.places).items ≡ c.mark.new.places = with_items_is c.args.self.now.places c.mark.new.places (c.mark.ensures.long ∙ c.deref_mut.ensures.len) in
    let marked : ArePlaced c.args.self.now.places.items c.and-found.result c.in-Some.place c.mark.new.places = rw c.deref_mut.ensures.value at c.mark.ensures in
    offered-taken c.args.scene.now c.args.queue.now c.args.kept.now c.in-Some.place c.args.self.now (record { places = with_items c.args.self.now.places c.mark.new.places; pending = c.and_not-self.result }) c.and-found.result
    c.requires.kept c.in-Some.ensures c.and-found.ensures c.and_not-self.ensures
    (subst (λ l. ArePlaced c.args.self.now.places.items c.and-found.result c.in-Some.place l) (sym written) marked) c.requires.offered
