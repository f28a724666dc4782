use Rattle.std.proofs.Common.{refl, sym, ap, ◌∙◌}
use Rattle.sr_encode.specs.Placed.{listed_from}
use Rattle.sr_repair.proofs.StayLemmas.{entries-placed}
use Rattle.sr_repair.proofs.solved.Solved.keeps_numbers.Goals as goal

pub returns-then-numbers : goal.returns-then-numbers
returns-then-numbers c is =
    let lists = c.args.self.now.lists in
    let r = c.args.numbers.now in
    record {
      cells = refl;
      lists = ap (λ k. listed_from k lists) (sym c.if-numbers.true) ∙ sym (entries-placed r.links.now (c.requires.place c.if-in_place.true) (listed_from r.before.0 lists));
    }
