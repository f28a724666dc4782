-- Items of the new net compared one after another.
use Rattle.std.proofs.Common.{◌≡◌, ℕ, zero, suc, ◌+◌, ◌≤◌, ◌⊎◌, ⊎_elim, inl, inr, List, [], ◌∷◌, ◌++◌, length, map, Some, slice_get, sym, ap, ◌∙◌, subst, arith, length-append}
use Rattle.std.proofs.lemmas.List.{map-append}
use Rattle.std.proofs.lemmas.Option.{same_Some}
use Rattle.sr_model.specs.declared.audit.Item.{Item}
use Rattle.sr_model.specs.Audit.{IsItem, IsAudit}
use Rattle.sr_model.specs.Label.{Net}
use Rattle.sr_diff.specs.declared.differences.Changed.{Changed}
use Rattle.sr_diff.specs.Named.{item_name}
use Rattle.sr_diff.specs.Diff.{IsOther, IsSame, AreSuch, IsHowMany, after_of}
use Rattle.sr_diff.specs.Matched.{AreItems, AreCompared}
use Rattle.sr_diff.proofs.ThoseLemmas.{those-taken, those-left, those-few}

-- a member of a list with one more at its end is a member of the list, or that one
last-cases : (xs : List Changed) (y : Changed) (k : ℕ) (z : Changed) → slice_get (xs ++ y ∷ []) k ≡ Some z → ((j : ℕ) × (slice_get xs j ≡ Some z)) ⊎ (y ≡ z)
last-cases [] y zero z e = inr (same_Some y z e)
last-cases [] y (suc k) z e = absurd (cc (e))
last-cases (x ∷ xs) y zero z e = inl (0, e)
last-cases (x ∷ xs) y (suc k) z e = ⊎_elim (λ there. inl (suc there.0, there.1)) (λ same. inr same) (last-cases xs y k z e)

-- one more item, whose repair is neither the same nor another one
pub compared-apart : (old new : Net) (xs : List Item) (x : Item) (changed : List Changed) (same : ℕ) → AreCompared old new xs (record { changed = changed; same = same }) → (IsSame old new x → ⊥) → (IsOther old new x → ⊥) → AreCompared old new (xs ++ x ∷ []) (record { changed = changed; same = same })
compared-apart old new xs x changed same so_far unlike no_other = record {
  changed = those-left (IsOther old new) xs (map after_of changed) x so_far.changed no_other;
  pairs = so_far.pairs;
  same = (so_far.same.0, those-left (IsSame old new) xs so_far.same.0 x so_far.same.1 unlike, so_far.same.2);
}

-- one more with the same repair
pub compared-same : (old new : Net) (xs : List Item) (x : Item) (changed : List Changed) (same : ℕ) → AreCompared old new xs (record { changed = changed; same = same }) → IsSame old new x → (IsOther old new x → ⊥) → AreCompared old new (xs ++ x ∷ []) (record { changed = changed; same = same + 1 })
compared-same old new xs x changed same so_far alike no_other = record {
  changed = those-left (IsOther old new) xs (map after_of changed) x so_far.changed no_other;
  pairs = so_far.pairs;
  same = (
    so_far.same.0 ++ x ∷ [],
    those-taken (IsSame old new) xs so_far.same.0 x so_far.same.1 alike,
    length-append so_far.same.0 (x ∷ []) ∙ ap (λ (n : ℕ). n + 1) so_far.same.2,
  );
}

-- one more with another repair
pub compared-other : (old new : Net) (xs : List Item) (x before : Item) (changed : List Changed) (same : ℕ) → AreCompared old new xs (record { changed = changed; same = same }) → (IsSame old new x → ⊥) → IsOther old new x → IsItem old before → item_name old before ≡ item_name new x → AreCompared old new (xs ++ x ∷ []) (record { changed = changed ++ record { before = before; after = x } ∷ []; same = same })
compared-other old new xs x before changed same so_far unlike other is named =
    let pair : Changed = record { before = before; after = x } in
    record {
      changed = subst (λ (ys : List Item). AreSuch (IsOther old new) (xs ++ x ∷ []) ys) (sym (map-append after_of changed (pair ∷ [])))
          (those-taken (IsOther old new) xs (map after_of changed) x so_far.changed other);
      pairs = λ k one e. ⊎_elim
          (λ there. so_far.pairs there.0 one there.1)
          (λ (same : pair ≡ one). subst (λ (p : Changed). IsItem old p.before × (item_name old p.before ≡ item_name new p.after)) same (is, named))
          (last-cases changed pair k one e);
      same = (so_far.same.0, those-left (IsSame old new) xs so_far.same.0 x so_far.same.1 unlike, so_far.same.2);
    }

-- no more are the same than there are
pub same-few : (old new : Net) (xs : List Item) (same : ℕ) → IsHowMany (IsSame old new) xs same → same ≤ length xs
same-few old new xs same many = omega (arith, many.2, those-few (IsSame old new) xs many.0 many.1)

-- the members of an audit are items
pub audit-items : (n m : Net) (items xs : List Item) → IsAudit n items → m ≡ n → xs ≡ items → AreItems m xs
audit-items n m items xs audit net same k item e =
    subst (λ (x : Net). IsItem x item) (sym net) (audit.each k item (ap (λ (ys : List Item). slice_get ys k) (sym same) ∙ e))
