use Rattle.std.proofs.Common.{◌≡◌, ◌++◌, ◌∷◌, [], ap}
use Rattle.sr_wire.specs.Entries.{if_some}
use Rattle.sr_wire.proofs.FormatLaws.{no_more_behind, one_more_behind, one_next}
use Rattle.sr_wire.proofs.entries.read_entries.Goals as goal

pub loop-at-preserved-in_ok-push-in-Some : goal.loop-at-preserved-in_ok-push-in-Some
loop-at-preserved-in_ok-push-in-Some g c =
    let told = c.loop-at.invariant in
    let own = if_some c.in_ok-says.field-0.says in
    let one : own ≡ c.in-Some.part ∷ [] = ap if_some c.in-Some.is in (
      told.0 ++ own,
      one_next g.E.Entries.layout g.E.Entries.says c.args.value.now c.loop-at.at c.in_ok-says.field-0.end told.0 own told.1 c.in_ok-says.ensures.ok,
      one_more_behind c.loop-at.parts.items c.args.parts.now.items told.0 own c.in-Some.part c.push.new.self.items c.in_ok-push-in-Some.ensures.items told.2 one,
    )

pub loop-at-preserved : goal.loop-at-preserved
loop-at-preserved g c =
    let told = c.loop-at.invariant in
    let own = if_some c.in_ok-says.field-0.says in
    let none : own ≡ [] = ap if_some c.in-None.is in (
      told.0 ++ own,
      one_next g.E.Entries.layout g.E.Entries.says c.args.value.now c.loop-at.at c.in_ok-says.field-0.end told.0 own told.1 c.in_ok-says.ensures.ok,
      no_more_behind c.loop-at.parts.items c.args.parts.now.items told.0 own told.2 none,
    )
