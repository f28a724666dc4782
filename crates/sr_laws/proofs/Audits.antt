-- A net has one audit.
use Rattle.std.proofs.Common.{◌≡◌, ℕ, ◌<◌, ⊎_elim, inl, inr, List, refl, arith, ap, sym, ◌∙◌, subst, Some}
use Rattle.std.specs.Prelude.{slice_get, reverse}
use Rattle.std.proofs.lemmas.List.{reverse-reverse}
use Rattle.sr_model.specs.declared.case.Case.{Case}
use Rattle.sr_model.specs.declared.repair.Answer.{Answer}
use Rattle.sr_model.specs.declared.repair.Answer.TheVariants.{Least, NoPath, NoList, TooDeep}
use Rattle.sr_model.specs.declared.audit.Item.{Item}
use Rattle.sr_model.specs.Label.{Net}
use Rattle.sr_model.specs.Repair.{IsCaseAnswer}
use Rattle.sr_model.specs.Audit.{rank_of, CaseLt, ItemLt, AreLabelsOf, IsItem, IsAudit}
use Rattle.sr_laws.proofs.Ascending.{ascending-one}
use Rattle.sr_laws.proofs.Answers.{case-answer-one}
use Rattle.sr_laws.proofs.Stacks.{stack-one}
use Rattle.sr_laws.proofs.Parts.{node_is}

pub labels_one : (n : Net) (d : ℕ) (answer : Answer) (one two : List ℕ) → AreLabelsOf n d answer one → AreLabelsOf n d answer two → one ≡ two
labels_one n d (Least list) one two p q =
    sym (reverse-reverse one) ∙ ap reverse (stack-one n d list.first.0 list.segments (reverse one) (reverse two) p q) ∙ reverse-reverse two
labels_one n d NoPath one two p q = p ∙ sym q
labels_one n d NoList one two p q = p ∙ sym q
labels_one n d (TooDeep k) one two p q = p ∙ sym q

pub item_is : (a b : Item) → a.case ≡ b.case → a.dest ≡ b.dest → a.answer ≡ b.answer → a.labels ≡ b.labels → a ≡ b
item_is a b c d e f =
    let q : record { case = a.case; dest = a.dest; answer = a.answer; labels = a.labels } ≡ record { case = b.case; dest = b.dest; answer = b.answer; labels = b.labels } = rw (c, d, e, f) refl in
    q

-- a case and a destination have one item
pub item_one : (n : Net) (a b : Item) → IsItem n a → IsItem n b → a.case ≡ b.case → a.dest.0 ≡ b.dest.0 → a ≡ b
item_one n a b p q c d =
    let answer : IsCaseAnswer n b.case b.dest.0 a.answer = subst (λ k. IsCaseAnswer n b.case k a.answer) d (subst (λ (k : Case). IsCaseAnswer n k a.dest.0 a.answer) c p.answer) in
    let same : a.answer ≡ b.answer = case-answer-one n b.case b.dest.0 a.answer b.answer answer q.answer in
    let labels : AreLabelsOf n b.dest.0 b.answer a.labels = subst (λ k. AreLabelsOf n k b.answer a.labels) d (subst (λ (k : Answer). AreLabelsOf n a.dest.0 k a.labels) same p.labels) in
    item_is a b c (node_is a.dest b.dest d) same (labels_one n b.dest.0 b.answer a.labels b.labels labels q.labels)

case_irrefl : (a : Case) → CaseLt a a → ⊥
case_irrefl a lt = ⊎_elim (λ r. omega (arith, r)) (λ k. omega (arith, k.1)) lt

case_trans : (a b c : Case) → CaseLt a b → CaseLt b c → CaseLt a c
case_trans a b c p q =
    ⊎_elim
    (λ r. ⊎_elim (λ r'. inl (omega (arith, r, r'))) (λ k'. inl (subst (λ k. rank_of a.kind < rank_of k) k'.0 r)) q)
    (λ k. ⊎_elim (λ r'. inl (subst (λ j. rank_of j < rank_of c.kind) (sym k.0) r')) (λ k'. inr (k.0 ∙ k'.0, omega (arith, k.1, k'.1))) q)
    p

item_irrefl : (a : Item) → ItemLt a a → ⊥
item_irrefl a lt = ⊎_elim (λ r. case_irrefl a.case r) (λ k. omega (arith, k.1)) lt

item_trans : (a b c : Item) → ItemLt a b → ItemLt b c → ItemLt a c
item_trans a b c p q =
    ⊎_elim
    (λ r. ⊎_elim (λ r'. inl (case_trans a.case b.case c.case r r')) (λ k'. inl (subst (λ (k : Case). CaseLt a.case k) k'.0 r)) q)
    (λ k. ⊎_elim (λ r'. inl (subst (λ (j : Case). CaseLt j c.case) (sym k.0) r')) (λ k'. inr (k.0 ∙ k'.0, omega (arith, k.1, k'.1))) q)
    p

items_among : (n : Net) (xs ys : List Item) → IsAudit n xs → IsAudit n ys → (k : ℕ) (a : Item) → slice_get xs k ≡ Some a → (j : ℕ) × (slice_get ys j ≡ Some a)
items_among n xs ys p q k a is =
    let i : IsItem n a = p.each k a is in
    let r = q.all a.case a.dest.0 i.within i.affected in
    (r.0, r.2 ∙ ap (λ b. Some b) (item_one n r.1 a (q.each r.0 r.1 r.2) i r.3 r.4))

pub audit-one : (n : Net) (xs ys : List Item) → IsAudit n xs → IsAudit n ys → xs ≡ ys
audit-one n xs ys p q = ascending-one ItemLt item_irrefl item_trans xs ys p.ascending q.ascending (items_among n xs ys p q) (items_among n ys xs q p)
