use Rattle.std.proofs.Common.{ℕ, List, ◌*◌, ◌/◌, ◌-◌, take, drop, length, ap, sym, ◌∙◌}
use Rattle.std.proofs.lemmas.Bool.Decides.{Decides-eqb}
use Rattle.std.proofs.lemmas.List.{take_rest}
use Rattle.std.proofs.lemmas.Slice.Eq.{slice_eq-Decides}
use Rattle.sr_lanes.proofs.EqualLemmas.{halves_equal}
use Rattle.sr_lanes.proofs.equal.rows_equal.Goals as goal

pub returns-then-groups_equal : goal.returns-then-groups_equal
returns-then-groups_equal c =
    let a = c.args.a.now in
    let b = c.args.b.now in
    let done : ℕ = 8 * (length a / 8) in
    let first = c.groups_equal.ensures.0 c.if-groups_equal.true in
    let rests = slice_eq-Decides Decides-eqb (take (length a - done) (drop done a)) (take (length b - done) (drop done b)) c.eq.result c.eq.ensures in (
      (λ yes. halves_equal a b done first (sym (take_rest a done) ∙ (rests.0 yes ∙ take_rest b done))),
      (λ same. rests.1 (ap (λ (l : List ℕ). take (length l - done) (drop done l)) same)),
    )
