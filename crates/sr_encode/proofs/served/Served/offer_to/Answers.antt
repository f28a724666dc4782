use Rattle.std.proofs.Common.{◌≡◌, sym, ◌∙◌, subst}
use Rattle.std.specs.Vec.{with_items}
use Rattle.std.proofs.lemmas.List.{with_items_is}
use Rattle.sr_encode.specs.Serve.{ArePlaced}
use Rattle.sr_encode.proofs.OfferLemmas.{offered-first, tried-first}
use Rattle.sr_encode.proofs.served.Served.offer_to.Goals as goal

pub returns-in-Some-clause-offered : goal.returns-in-Some-clause-offered
returns-in-Some-clause-offered c =
    let written : (with_items c.args.self.now.places c.mark.new.places).items ≡ c.mark.new.places = with_items_is c.args.self.now.places c.mark.new.places (c.mark.ensures.long ∙ c.deref_mut.ensures.len) in
    let marked : ArePlaced c.args.self.now.places.items c.alone-found.result c.in-Some.first c.mark.new.places = rw c.deref_mut.ensures.value at c.mark.ensures in
    offered-first c.args.d.0 c.args.self.now (record { places = with_items c.args.self.now.places c.mark.new.places; pending = c.and_not-self.result })
    c.alone-found.result c.alone-found.ensures c.and_not-self.ensures
    c.args.scene.now c.args.queue.now c.args.k c.in-Some.first c.in-Some.ensures c.requires.offered c.requires.pending
    (subst (λ l. ArePlaced c.args.self.now.places.items c.alone-found.result c.in-Some.first l) (sym written) marked) c.requires.least

pub returns-in-Some-clause-tried : goal.returns-in-Some-clause-tried
returns-in-Some-clause-tried c =
    let written : (with_items c.args.self.now.places c.mark.new.places).items ≡ c.mark.new.places = with_items_is c.args.self.now.places c.mark.new.places (c.mark.ensures.long ∙ c.deref_mut.ensures.len) in
    let marked : ArePlaced c.args.self.now.places.items c.alone-found.result c.in-Some.first c.mark.new.places = rw c.deref_mut.ensures.value at c.mark.ensures in
    tried-first c.args.d.0 c.args.self.now (record { places = with_items c.args.self.now.places c.mark.new.places; pending = c.and_not-self.result })
    c.alone-found.result c.alone-found.ensures c.and_not-self.ensures
    c.args.scene.now c.args.queue.now c.args.k c.in-Some.first c.in-Some.ensures c.requires.offered c.requires.pending
    (subst (λ l. ArePlaced c.args.self.now.places.items c.alone-found.result c.in-Some.first l) (sym written) marked)
