-- Two nets have one diff, and a net differs in nothing from itself.
use Rattle.std.proofs.Common.{◌≡◌, ℕ, suc, List, [], ◌∷◌, length, map, Some, slice_get, refl, sym, ap, ◌∙◌, subst}
use Rattle.sr_model.specs.declared.audit.Item.{Item}
use Rattle.sr_model.specs.Audit.{IsAudit}
use Rattle.sr_model.specs.Label.{Net}
use Rattle.sr_model.specs.Rule.{IsNet}
use Rattle.sr_laws.proofs.Audits.{audit-one}
use Rattle.sr_diff.specs.declared.differences.Changed.{Changed}
use Rattle.sr_diff.specs.declared.differences.Diff.{Diff}
use Rattle.sr_diff.specs.Named.{item_name}
use Rattle.sr_diff.specs.Diff.{IsLost, IsOther, IsSame, AreSuch, IsHowMany, after_of, AreMatched}
use Rattle.sr_diff.specs.Laws.{DiffsAreDetermined, ANetIsItsOwn}
use Rattle.sr_diff.proofs.NameLemmas.{name-one, repair-one}
use Rattle.sr_diff.proofs.ThoseLemmas.{those-one, those-none}

-- a pair is its two items
changed-is : (a b : Changed) → a.before ≡ b.before → a.after ≡ b.after → a ≡ b
changed-is a b before after =
    let q : record { before = a.before; after = a.after } ≡ record { before = b.before; after = b.after } = rw (before, after) refl in
    q

-- a diff is its parts
diff-is : (a b : Diff) → a.lost ≡ b.lost → a.gained ≡ b.gained → a.changed ≡ b.changed → a.same ≡ b.same → a ≡ b
diff-is a b lost gained changed same =
    let q : record { lost = a.lost; gained = a.gained; changed = a.changed; same = a.same } ≡ record { lost = b.lost; gained = b.gained; changed = b.changed; same = b.same } = rw (lost, gained, changed, same) refl in
    q

-- pairs with the same new items are the same
pairs-one : (old new : Net) → IsNet old → (one two : List Changed) → AreMatched old new one → AreMatched old new two → map after_of one ≡ map after_of two → one ≡ two
pairs-one old new net [] [] p q e = refl
pairs-one old new net [] (b ∷ two) p q e = absurd (cc (e))
pairs-one old new net (a ∷ one) [] p q e = absurd (cc (e))
pairs-one old new net (a ∷ one) (b ∷ two) p q e =
    let after : a.after ≡ b.after = cc (e) in
    let rest : map after_of one ≡ map after_of two = cc (e) in
    let mine = p 0 a refl in
    let yours = q 0 b refl in
    let before : a.before ≡ b.before = name-one old a.before b.before net mine.0 yours.0 (mine.1 ∙ ap (item_name new) after ∙ sym yours.1) in
    let head : a ≡ b = changed-is a b before after in
    let more : one ≡ two = pairs-one old new net one two (λ k c s. p (suc k) c s) (λ k c s. q (suc k) c s) rest in
    cc

-- there is one number of them
how-many-one : (P : Item → Type 0) (items : List Item) (a b : ℕ) → IsHowMany P items a → IsHowMany P items b → a ≡ b
how-many-one P items a b p q = sym p.2 ∙ ap (λ (xs : List Item). length xs) (those-one P items p.0 q.0 p.1 q.1) ∙ q.2

pub diffs-one : DiffsAreDetermined
diffs-one old new one two net a b =
    let before : a.before ≡ b.before = audit-one old a.before b.before a.old_audit b.old_audit in
    let after : a.after ≡ b.after = audit-one new a.after b.after a.new_audit b.new_audit in
    let lost : one.lost ≡ two.lost = those-one (IsLost old new) b.before one.lost two.lost (subst (λ (xs : List Item). AreSuch (IsLost old new) xs one.lost) before a.lost) b.lost in
    let gained : one.gained ≡ two.gained = those-one (IsLost new old) b.after one.gained two.gained (subst (λ (xs : List Item). AreSuch (IsLost new old) xs one.gained) after a.gained) b.gained in
    let others : map after_of one.changed ≡ map after_of two.changed = those-one (IsOther old new) b.after (map after_of one.changed) (map after_of two.changed) (subst (λ (xs : List Item). AreSuch (IsOther old new) xs (map after_of one.changed)) after a.changed) b.changed in
    let changed : one.changed ≡ two.changed = pairs-one old new net one.changed two.changed a.pairs b.pairs others in
    let same : one.same ≡ two.same = how-many-one (IsSame old new) b.after one.same two.same (subst (λ (xs : List Item). IsHowMany (IsSame old new) xs one.same) after a.same) b.same in
    diff-is one two lost gained changed same

-- an item of the net has its own repair
own-repair : (n : Net) (items : List Item) → IsAudit n items → (k : ℕ) (item : Item) → slice_get items k ≡ Some item → IsLost n n item → ⊥
own-repair n items audit k item e lost = lost.1 lost.0.0 (item, audit.each k item e, refl, lost.0.1)

-- and no other one
own-other : (n : Net) (items : List Item) → IsNet n → IsAudit n items → (k : ℕ) (item : Item) → slice_get items k ≡ Some item → IsOther n n item → ⊥
own-other n items net audit k item e other =
    other.4 (repair-one n (item_name n item) other.0 other.1 net other.2 (item, audit.each k item e, refl, other.3))

-- a list is empty where what is made of it is
map-empty : (xs : List Changed) → map after_of xs ≡ [] → xs ≡ []
map-empty [] e = refl
map-empty (x ∷ xs) e = absurd (cc (e))

pub net-own : ANetIsItsOwn
net-own n diff net is = (
  those-none (IsLost n n) is.before diff.lost (own-repair n is.before is.old_audit) is.lost,
  those-none (IsLost n n) is.after diff.gained (own-repair n is.after is.new_audit) is.gained,
  map-empty diff.changed (those-none (IsOther n n) is.after (map after_of diff.changed) (own-other n is.after net is.new_audit) is.changed),
)
