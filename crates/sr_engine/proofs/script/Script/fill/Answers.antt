use Rattle.std.proofs.Common.{◌∙◌, false, take, length, refl, sym, ap, ◌+◌, ◌≡◌, arith, length-take-le}
use Rattle.std.specs.Vec.{with_items}
use Rattle.std.proofs.lemmas.List.{with_items_is}
use Rattle.sr_engine.proofs.Piece.{piece-taken, gathered}
use Rattle.sr_engine.specs.Reading.{Held}
use Rattle.sr_engine.proofs.script.Script.fill.Goals as goal

pub returns-in-Ok : goal.returns-in-Ok
returns-in-Ok g c =
    let written : (with_items c.self.inside.piece c.read_front.new.buffer).items ≡ c.read_front.new.buffer = with_items_is c.self.inside.piece c.read_front.new.buffer (omega (arith, c.read_front.ensures.len, c.deref_mut.ensures.len)) in
    let spent : c.self.inside.lent ≡ false = ap (λ (s : Held). s.lent) c.self.view_is ∙ c.requires.spent in
    let few = c.in-Ok.ensures.few in
    let long : length (take c.in-Ok.count c.read_front.new.buffer) ≡ c.in-Ok.count = length-take-le c.in-Ok.count c.read_front.new.buffer (omega (arith, few, c.read_front.ensures.len, c.deref_mut.ensures.len)) in (
      rw (← c.self.view_is, written) (record {
        bytes = take c.in-Ok.count c.read_front.new.buffer;
        took = c.in-Ok.ensures.bytes.0;
        some = omega (arith, long);
        within = omega (arith, long, few, c.min-room.ensures, c.self.invariant.3, c.self.inside.piece.ok.0);
        line = gathered c.self.inside.lent _ c.self.inside.line.items spent ∙ sym (gathered c.self.inside.lent _ c.self.inside.line.items spent);
        lent = refl;
        unread = piece-taken c.read_front.new.buffer c.in-Ok.count c.self.inside.taken c.min-self-inside.result (omega (arith, few, c.read_front.ensures.len, c.deref_mut.ensures.len)) c.min-self-inside.ensures;
        taken = ap (λ n. c.self.inside.taken + n) (sym long);
        few = omega (arith, few, c.min-room.ensures);
      }),
      c.in-Ok.ensures.cause.kept,
    )
