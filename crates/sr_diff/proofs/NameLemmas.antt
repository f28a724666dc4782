-- Items and their names: a name is one item's, and names ascend as items do.
use Rattle.std.proofs.Common.{◌≡◌, ◌≢◌, ℕ, ◌<◌, ◌⊎◌, ⊎_elim, inl, inr, true, List, refl, sym, ap, ◌∙◌, subst, arith, Some}
use Rattle.std.proofs.lemmas.Bool.{cases_eq}
use Rattle.std.proofs.lemmas.Option.{same_Some}
use Rattle.sr_model.specs.declared.audit.Item.{Item}
use Rattle.sr_model.specs.declared.case.Case.{Case}
use Rattle.sr_model.specs.declared.case.Kind.{Kind}
use Rattle.sr_model.specs.declared.case.Kind.TheVariants.{Link, Node, Risk}
use Rattle.sr_model.specs.declared.repair.RepairList.{RepairList}
use Rattle.sr_model.specs.declared.repair.Answer.{Answer}
use Rattle.sr_model.specs.declared.repair.Answer.TheVariants.{Least, NoPath, NoList, TooDeep}
use Rattle.sr_model.specs.Audit.{rank_of, is_least, ItemLt, IsItem}
use Rattle.sr_model.specs.Case.{IsCase}
use Rattle.sr_model.specs.Graph.{Graph, node_count}
use Rattle.sr_model.specs.Key.{KeyLt}
use Rattle.sr_model.specs.Label.{Net}
use Rattle.sr_model.specs.Rule.{IsNet}
use Rattle.sr_laws.proofs.Keys.{KeyLt-irrefl, KeyLt-trans, key-one, system-one}
use Rattle.sr_laws.proofs.Parts.{link_is}
use Rattle.sr_encode.proofs.AnswerLemmas.{affected-within}
use Rattle.sr_diff.specs.Named.{ItemName, NamedRepair, name_at, item_name, named_answer, named_list, repair_of}
use Rattle.sr_diff.specs.Diff.{HasRepair, IsLost, IsOther, IsSame}
use Rattle.sr_laws.proofs.Audits.{item_one}
use Rattle.sr_laws.proofs.Changes.{key-cases}

-- the destination of an item is a node
pub dest-within : (n : Net) (item : Item) → IsNet n → IsItem n item → item.dest.0 < node_count n.graph
dest-within n item net is = affected-within n item.case item.dest.0 net.nodes is.affected

-- a case is its kind and its link
case-is : (a b : Case) → a.kind ≡ b.kind → a.link ≡ b.link → a ≡ b
case-is a b k l = let q : record { kind = a.kind; link = a.link } ≡ record { kind = b.kind; link = b.link } = rw (k, l) refl in q

-- a name is that of one case and one destination
pub purpose-one : (n : Net) (a b : Case) (d e : ℕ) → IsNet n → IsCase n.graph a → IsCase n.graph b → d < node_count n.graph → e < node_count n.graph → name_at n.graph a d ≡ name_at n.graph b e → (a ≡ b) × (d ≡ e)
purpose-one n a b d e net p q within within' same =
    let kind : a.kind ≡ b.kind = ap (λ (x : ItemName). x.kind) same in
    let link : a.link.0 ≡ b.link.0 = key-one n.graph net.named a.link.0 b.link.0 p q (ap (λ (x : ItemName). x.link) same) in
    let dest : d ≡ e = system-one n.graph net.named d e within within' (ap (λ (x : ItemName). x.dest) same) in
    (case-is a b kind (link_is a.link b.link link), dest)

-- a name is one item's
pub name-one : (n : Net) (a b : Item) → IsNet n → IsItem n a → IsItem n b → item_name n a ≡ item_name n b → a ≡ b
name-one n a b net p q same =
    let one = purpose-one n a.case b.case a.dest.0 b.dest.0 net p.within q.within (dest-within n a net p) (dest-within n b net q) same in
    item_one n a b p q one.0 one.1

-- a name has one repair
pub repair-one : (n : Net) (name : ItemName) (a b : NamedRepair) → IsNet n → HasRepair n name a → HasRepair n name b → a ≡ b
repair-one n name a b net p q =
    let same : p.0 ≡ q.0 = name-one n p.0 q.0 net p.1 q.1 (p.2 ∙ sym q.2) in
    same_Some a b (sym p.3 ∙ ap (repair_of n) same ∙ q.3)

-- ---- repairs are lists

named-list : (g : Graph) (answer : Answer) (labels : List ℕ) (repair : NamedRepair) → named_answer g answer labels ≡ Some repair → (list : RepairList) × (answer ≡ Least list)
named-list g (Least list) labels repair e = (list, refl)
named-list g NoPath labels repair e = absurd (cc (e))
named-list g NoList labels repair e = absurd (cc (e))
named-list g (TooDeep k) labels repair e = absurd (cc (e))

-- the answer of an item with a repair is a list
pub repaired-list : (n : Net) (item : Item) (repair : NamedRepair) → repair_of n item ≡ Some repair → (list : RepairList) × (item.answer ≡ Least list)
repaired-list n item repair e = named-list n.graph item.answer item.labels repair e

pub repaired-least : (n : Net) (item : Item) (repair : NamedRepair) → repair_of n item ≡ Some repair → is_least item.answer ≡ true
repaired-least n item repair e = ap is_least (repaired-list n item repair e).1

least-named : (g : Graph) (answer : Answer) (labels : List ℕ) → is_least answer ≡ true → (repair : NamedRepair) × (named_answer g answer labels ≡ Some repair)
least-named g (Least list) labels e = (named_list g list labels, refl)
least-named g NoPath labels e = absurd (cc (e))
least-named g NoList labels e = absurd (cc (e))
least-named g (TooDeep k) labels e = absurd (cc (e))

-- a list is a repair
pub least-repaired : (n : Net) (item : Item) → is_least item.answer ≡ true → (repair : NamedRepair) × (repair_of n item ≡ Some repair)
least-repaired n item e = least-named n.graph item.answer item.labels e

-- ---- lost, changed and the same are apart

-- no item has the same repair and another one
pub same-other : (old new : Net) (item : Item) → IsNet old → IsSame old new item → IsOther old new item → ⊥
same-other old new item net same other =
    other.4 (repair-one old (item_name new item) other.0 same.0 net other.2 same.1 ∙ same_Some same.0 other.1 (sym same.2 ∙ other.3))

-- an item with the same repair, or with another one, isn't gained
pub same-gained : (old new : Net) (item : Item) → IsSame old new item → IsLost new old item → ⊥
same-gained old new item same gained = gained.1 same.0 same.1

pub other-gained : (old new : Net) (item : Item) → IsOther old new item → IsLost new old item → ⊥
other-gained old new item other gained = gained.1 other.0 other.2

-- ---- the order of names

-- by kind, then by key, then by system id
abbrev pub NameLt : ItemName → ItemName → Type 0
NameLt a b =
    (rank_of a.kind < rank_of b.kind)
    ⊎ ((a.kind ≡ b.kind) × (KeyLt a.link b.link ⊎ ((a.link ≡ b.link) × (a.dest < b.dest))))

pub name-irrefl : (a : ItemName) → NameLt a a → ⊥
name-irrefl a lt = ⊎_elim (λ r. omega (arith, r)) (λ k. ⊎_elim (λ l. KeyLt-irrefl a.link l) (λ d. omega (arith, d.1)) k.1) lt

pub name-trans : (a b c : ItemName) → NameLt a b → NameLt b c → NameLt a c
name-trans a b c (inl p) (inl q) = inl (omega (arith, p, q))
name-trans a b c (inl p) (inr q) = inl (subst (λ k. rank_of a.kind < rank_of k) q.0 p)
name-trans a b c (inr p) (inl q) = inl (subst (λ k. rank_of k < rank_of c.kind) (sym p.0) q)
name-trans a b c (inr p) (inr q) = inr (
  p.0 ∙ q.0,
  ⊎_elim
      (λ l. ⊎_elim (λ m. inl (KeyLt-trans a.link b.link c.link l m)) (λ d. inl (subst (λ k. KeyLt a.link k) d.0 l)) q.1)
      (λ d. ⊎_elim (λ m. inl (subst (λ k. KeyLt k c.link) (sym d.0) m)) (λ e. inr (d.0 ∙ e.0, omega (arith, d.1, e.1))) q.1)
      p.1,
)

-- names ascend as items do
pub names-ascend : (n : Net) (a b : Item) → IsNet n → IsItem n a → IsItem n b → ItemLt a b → NameLt (item_name n a) (item_name n b)
names-ascend n a b net p q (inl (inl rank)) = inl rank
names-ascend n a b net p q (inl (inr same)) = inr (same.0, inl (net.named.keys a.case.link.0 b.case.link.0 same.1 q.within))
names-ascend n a b net p q (inr same) =
    let kind : a.case.kind ≡ b.case.kind = ap (λ (c : Case). c.kind) same.0 in
    let link : (item_name n a).link ≡ (item_name n b).link = ap (λ (c : Case). (item_name n (record a { case = c })).link) same.0 in
    inr (kind, inr (link, net.named.ascending a.dest.0 b.dest.0 same.1 (dest-within n b net q)))

-- ---- names are told apart

kind-cases : (a b : Kind) → (a ≡ b) ⊎ (a ≢ b)
kind-cases Link Link = inl refl
kind-cases Link Node = inr (λ e. cc (e))
kind-cases Link Risk = inr (λ e. cc (e))
kind-cases Node Link = inr (λ e. cc (e))
kind-cases Node Node = inl refl
kind-cases Node Risk = inr (λ e. cc (e))
kind-cases Risk Link = inr (λ e. cc (e))
kind-cases Risk Node = inr (λ e. cc (e))
kind-cases Risk Risk = inl refl

name-is : (a b : ItemName) → a.kind ≡ b.kind → a.link ≡ b.link → a.dest ≡ b.dest → a ≡ b
name-is a b k l d =
    let q : record { kind = a.kind; link = a.link; dest = a.dest } ≡ record { kind = b.kind; link = b.link; dest = b.dest } = rw (k, l, d) refl in
    q

-- two names are the same or not
pub name-cases : (a b : ItemName) → (a ≡ b) ⊎ (a ≢ b)
name-cases a b = ⊎_elim
    (λ kind. ⊎_elim
    (λ link. ⊎_elim
    (λ dest. inl (name-is a b kind link dest))
    (λ (ne : a.dest ≢ b.dest). inr (λ e. ne (ap (λ (x : ItemName). x.dest) e)))
    (cases_eq a.dest b.dest))
    (λ (ne : a.link ≢ b.link). inr (λ e. ne (ap (λ (x : ItemName). x.link) e)))
    (key-cases a.link b.link))
    (λ (ne : a.kind ≢ b.kind). inr (λ e. ne (ap (λ (x : ItemName). x.kind) e)))
    (kind-cases a.kind b.kind)
