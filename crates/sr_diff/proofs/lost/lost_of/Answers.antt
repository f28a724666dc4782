use Rattle.std.proofs.Common.{◌≡◌, ◌∙◌, ◌+◌, ◌++◌, ◌∷◌, [], sym, ap, subst, refl, take, length, List}
use Rattle.std.specs.Global.{Vec}
use Rattle.std.proofs.lemmas.List.{take_more}
use Rattle.std.proofs.lemmas.Option.{slice_get_read}
use Rattle.sr_model.specs.declared.audit.Item.{Item}
use Rattle.sr_diff.specs.Diff.{IsLost, AreSuch}
use Rattle.sr_diff.proofs.ThoseLemmas.{those-taken, those-left}
use Rattle.sr_diff.proofs.lost.lost_of.Goals.{then-branch+in_ok-copied_item+in_ok-push, else-branch}
use Rattle.sr_diff.proofs.lost.lost_of.Goals as goal

pub is_lost-requires : goal.is_lost-requires
is_lost-requires c =
    c.requires c.loop-item.item-index c.item-item.result
    (slice_get_read c.args.items.now (length c.args.items.now) c.loop-item.item-index c.item-item.result refl c.loop-item-test.true c.item-item.is)

pub loop-item-preserved : goal.loop-item-preserved
loop-item-preserved c =
    let items = c.args.items.now in
    let i = c.loop-item.item-index in
    let item = c.item-item.result in
    let more : take (i + 1) items ≡ take i items ++ item ∷ [] = take_more items i item c.loop-item-test.true ∙ ap (λ (x : Item). take i items ++ x ∷ []) (sym c.item-item.is) in
    let P : Item → Type 0 = IsLost c.args.net.now c.args.other.now.net in
    let lost = c.loop-item.lost.items in
    subst (λ (xs : List Item). AreSuch P xs c.if-branch.lost.items) (sym more)
    (elim c.if-branch.branch [
      | then-branch+in_ok-copied_item+in_ok-push w ↦
          let one : c.if-branch.lost.items ≡ lost ++ item ∷ [] = ap (λ (v : Vec Item). v.items) w.lost-is ∙ w.in_ok-push.ensures.items ∙ ap (λ (x : Item). lost ++ x ∷ []) w.in_ok-copied_item.ensures in
          subst (λ (xs : List Item). AreSuch P (take i items ++ item ∷ []) xs) (sym one)
          (those-taken P (take i items) lost item c.loop-item.invariant (c.in_ok-is_lost.ensures.0 w.if-branch.true))
      | else-branch w ↦
          let none : c.if-branch.lost.items ≡ lost = ap (λ (v : Vec Item). v.items) w.lost-is in
          subst (λ (xs : List Item). AreSuch P (take i items ++ item ∷ []) xs) (sym none)
          (those-left P (take i items) lost item c.loop-item.invariant (λ is. absurd (cc (c.in_ok-is_lost.ensures.1 is, w.if-branch.false))))
    ])
