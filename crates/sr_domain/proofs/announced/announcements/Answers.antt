use Rattle.std.proofs.Common.{◌≡◌, ◌++◌, ◌∷◌, ◌∙◌, ap, append_assoc, All, rules}
use Rattle.std.proofs.lemmas.List.Elements.{All-tail}
use Rattle.sr_lsdb.specs.Facts.{StandsUnderItsId}
use Rattle.sr_domain.specs.Announced.{announced_in, announced_under, announcements_of}
use Rattle.sr_domain.proofs.announced.announcements.Goals as goal

pub loop-id-preserved : goal.loop-id-preserved
loop-id-preserved c =
    let here = announced_under c.args.facts.now (c.in-Some.id.now, c.in-Some.stored.now) in
    let was : (c.loop-id.out.items ++ announced_in c.args.facts.now ((c.in-Some.id.now, c.in-Some.stored.now) ∷ c.next.new.self) ≡ announcements_of c.args.facts.now) × All StandsUnderItsId ((c.in-Some.id.now, c.in-Some.stored.now) ∷ c.next.new.self) = rw (c.in-Some.ensures.steps) at c.loop-id.invariant in
    let more : c.extend_from_slice.new.self.items ≡ c.loop-id.out.items ++ here = search rules in (
      ap (λ said. said ++ announced_in c.args.facts.now c.next.new.self) more
          ∙ append_assoc c.loop-id.out.items here (announced_in c.args.facts.now c.next.new.self)
          ∙ was.0,
      All-tail StandsUnderItsId (c.in-Some.id.now, c.in-Some.stored.now) c.next.new.self was.1,
    )
