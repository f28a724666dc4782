use Rattle.std.proofs.Common.{◌≡◌, ◌∙◌, ◌+◌, ◌++◌, ◌∷◌, [], sym, ap, subst, refl, take, length, List, arith, ℕ}
use Rattle.std.specs.Global.{Vec}
use Rattle.std.proofs.lemmas.List.{take_more, length-take-le}
use Rattle.std.proofs.lemmas.Option.{slice_get_read}
use Rattle.sr_model.specs.declared.audit.Item.{Item}
use Rattle.sr_diff.specs.declared.differences.Changed.{Changed}
use Rattle.sr_diff.specs.Matched.{AreCompared, IsLikeness}
use Rattle.sr_diff.proofs.CompareLemmas.{compared-apart, compared-same, compared-other, same-few}
use Rattle.sr_diff.proofs.changes.compared_items.Goals.{in-Apart, in-Same, in-Other+in_ok-copied_item-in-Other+in_ok-push-in-Other}
use Rattle.sr_diff.proofs.changes.compared_items.Goals as goal

pub likeness_of-requires : goal.likeness_of-requires
likeness_of-requires c =
    c.requires.items c.loop-item.item-index c.item-item.result
    (slice_get_read c.args.items.now (length c.args.items.now) c.loop-item.item-index c.item-item.result refl c.loop-item-test.true c.item-item.is)

pub overflow_add-same : goal.overflow_add-same
overflow_add-same c =
    let few = same-few c.args.old.now.net c.args.new.now (take c.loop-item.item-index c.args.items.now) c.loop-item.same c.loop-item.invariant.same in
    let long = length-take-le c.loop-item.item-index c.args.items.now (omega (arith, c.loop-item-test.true)) in
    omega (arith, few, long, c.loop-item-test.true, c.requires.few)

-- what is put in a list and a count
put : (P : List Changed → ℕ → Type 0) {v w : Vec Changed} {n m k : ℕ} {ys : List Changed} → v ≡ w → n ≡ m → w.items ≡ ys → m ≡ k → P ys k → P v.items n
put P {v = v} {n = n} {k = k} is same items number holds =
    subst (λ (xs : List Changed). P xs n) (sym (ap (λ (x : Vec Changed). x.items) is ∙ items)) (subst (P _) (sym (same ∙ number)) holds)

pub loop-item-preserved : goal.loop-item-preserved
loop-item-preserved c =
    let items = c.args.items.now in
    let i = c.loop-item.item-index in
    let item = c.item-item.result in
    let more : take (i + 1) items ≡ take i items ++ item ∷ [] = take_more items i item c.loop-item-test.true ∙ ap (λ (x : Item). take i items ++ x ∷ []) (sym c.item-item.is) in
    let old = c.args.old.now.net in
    let new = c.args.new.now in
    let changed = c.loop-item.changed.items in
    let same = c.loop-item.same in
    let P : List Changed → ℕ → Type 0 = λ ys n. AreCompared old new (take i items ++ item ∷ []) (record { changed = ys; same = n }) in
    let like = c.in_ok-likeness_of.ensures in
    subst (λ (xs : List Item). AreCompared old new xs (record { changed = c.match-branch-2.changed.items; same = c.match-branch-2.same })) (sym more)
    (elim c.match-branch-2.branch [
      | in-Apart w ↦
          let is = subst (IsLikeness old new item) w.in-Apart.is like in
          put P w.changed-is w.same-is refl refl (compared-apart old new (take i items) item changed same c.loop-item.invariant is.0 is.1)
      | in-Same w ↦
          let is = subst (IsLikeness old new item) w.in-Same.is like in
          put P w.changed-is w.same-is refl refl (compared-same old new (take i items) item changed same c.loop-item.invariant is.0 is.1)
      | in-Other+in_ok-copied_item-in-Other+in_ok-push-in-Other w ↦
          let is = subst (IsLikeness old new item) w.in-Other.is like in
          let pair : Item → Changed = λ x. record { before = w.in-Other.before; after = x } in
          put P w.changed-is w.same-is (w.in_ok-push-in-Other.ensures.items ∙ ap (λ (x : Item). changed ++ pair x ∷ []) w.in_ok-copied_item-in-Other.ensures) refl
          (compared-other old new (take i items) item w.in-Other.before changed same c.loop-item.invariant is.0 is.1 is.2 is.3)
    ])
