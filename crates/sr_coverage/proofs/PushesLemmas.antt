-- What the test says that picks the repairs of a kind with a number of labels.
use Rattle.std.proofs.Common.{◌≡◌, ◌≢◌, ℕ, ◌&&◌, true, false, eqb, length}
use Rattle.std.proofs.lemmas.Bool.{and_parts, and_from, and_left, and_right, eqb-true, eq-eqb, ne_eqb}
use Rattle.sr_model.specs.declared.audit.Item.{Item}
use Rattle.sr_model.specs.declared.case.Kind.{Kind}
use Rattle.sr_model.specs.Audit.{rank_of, is_least}
use Rattle.sr_insight.specs.Stacks.{pushes}

pub pushes-parts : (kind : Kind) (labels : ℕ) (item : Item) → pushes kind labels item ≡ true → (is_least item.answer ≡ true) × (rank_of item.case.kind ≡ rank_of kind) × (length item.labels ≡ labels)
pushes-parts kind labels item t =
    let all = and_parts (is_least item.answer && eqb (rank_of item.case.kind) (rank_of kind)) (eqb (length item.labels) labels) t in
    let front = and_parts (is_least item.answer) (eqb (rank_of item.case.kind) (rank_of kind)) all.0 in
    (front.0, eqb-true _ _ front.1, eqb-true _ _ all.1)

pub pushes-from : (kind : Kind) (labels : ℕ) (item : Item) → is_least item.answer ≡ true → rank_of item.case.kind ≡ rank_of kind → length item.labels ≡ labels → pushes kind labels item ≡ true
pushes-from kind labels item holds rank many =
    and_from (is_least item.answer && eqb (rank_of item.case.kind) (rank_of kind)) (eqb (length item.labels) labels)
    (and_from (is_least item.answer) (eqb (rank_of item.case.kind) (rank_of kind)) holds (eq-eqb _ _ rank))
    (eq-eqb _ _ many)

pub pushes-least : (kind : Kind) (labels : ℕ) (item : Item) → is_least item.answer ≡ false → pushes kind labels item ≡ false
pushes-least kind labels item fails =
    and_left (is_least item.answer && eqb (rank_of item.case.kind) (rank_of kind)) (eqb (length item.labels) labels)
    (and_left (is_least item.answer) (eqb (rank_of item.case.kind) (rank_of kind)) fails)

pub pushes-rank : (kind : Kind) (labels : ℕ) (item : Item) → rank_of item.case.kind ≢ rank_of kind → pushes kind labels item ≡ false
pushes-rank kind labels item other =
    and_left (is_least item.answer && eqb (rank_of item.case.kind) (rank_of kind)) (eqb (length item.labels) labels)
    (and_right (is_least item.answer) (eqb (rank_of item.case.kind) (rank_of kind)) (ne_eqb _ _ other))

pub pushes-many : (kind : Kind) (labels : ℕ) (item : Item) → length item.labels ≢ labels → pushes kind labels item ≡ false
pushes-many kind labels item other =
    and_right (is_least item.answer && eqb (rank_of item.case.kind) (rank_of kind)) (eqb (length item.labels) labels)
    (ne_eqb _ _ other)
