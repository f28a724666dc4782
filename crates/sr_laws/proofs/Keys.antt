-- The order of keys, and links matched by key.
use Rattle.std.proofs.Common.{◌≡◌, ◌≢◌, ℕ, ◌<◌, ◌≤◌, ⊎_elim, inl, inr, Bool, true, List, length, refl, arith, ap, sym, ◌∙◌, subst}
use Rattle.std.specs.Prelude.{slice_index}
use Rattle.std.proofs.lemmas.Bool.{cases_lt, cases_eq}
use Rattle.sr_model.specs.declared.name.Ident.{Ident}
use Rattle.sr_model.specs.declared.name.Ident.TheVariants.{None, Addr, Link as Linked}
use Rattle.sr_model.specs.declared.name.LinkKey.{LinkKey}
use Rattle.sr_model.specs.declared.link.Link.{Link}
use Rattle.sr_model.specs.Key.{PairLt, IdentLt, KeyLt, turned, mirror, IsSamePair}
use Rattle.sr_model.specs.Graph.{Graph, node_count, link_count, link_at, tail, head, metric, has, system_at, IsGraph, IsLink, IsNamed}
use Rattle.sr_model.specs.Case.{key_at}
use Rattle.sr_model.specs.Stay.{HaveSameNodes, HaveSameName, HaveSamePairs}
use Rattle.sr_laws.proofs.Parts.{true_or}

-- link l of g and link k of h have one key and one metric: the link isn't changed
abbrev pub IsSameLink : Graph → Graph → ℕ → ℕ → Type 0
IsSameLink g h l k = (l < link_count g) × (k < link_count h) × (key_at h k ≡ key_at g l) × (metric h k ≡ metric g l)

-- the set holds whole pairs
abbrev pub IsPairSet : Graph → List Bool → Type 0
IsPairSet g x = (l k : ℕ) → l < link_count g → k < link_count g → IsSamePair (key_at g l) (key_at g k) → has x l ≡ true → has x k ≡ true

PairLt-trans : (a b c d e f : ℕ) → PairLt a b c d → PairLt c d e f → PairLt a b e f
PairLt-trans a b c d e f p q =
    ⊎_elim
    (λ lt. ⊎_elim (λ lt'. inl (omega arith)) (λ s. inl (omega (arith, s.0))) q)
    (λ s. ⊎_elim (λ lt'. inl (omega (arith, s.0))) (λ s'. inr (s.0 ∙ s'.0, omega (arith, s.1, s'.1))) q)
    p

PairLt-irrefl : (a b : ℕ) → PairLt a b a b → ⊥
PairLt-irrefl a b p = ⊎_elim (λ lt. omega arith) (λ s. let lt : b < b = s.1 in omega arith) p

IdentLt-trans : (a b c : Ident) → IdentLt a b → IdentLt b c → IdentLt a c
IdentLt-trans None None c p q = absurd p
IdentLt-trans None (Addr a b) None p q = absurd q
IdentLt-trans None (Addr a b) (Addr c d) p q = tt
IdentLt-trans None (Addr a b) (Linked c d) p q = tt
IdentLt-trans None (Linked a b) None p q = absurd q
IdentLt-trans None (Linked a b) (Addr c d) p q = absurd q
IdentLt-trans None (Linked a b) (Linked c d) p q = tt
IdentLt-trans (Addr a b) None c p q = absurd p
IdentLt-trans (Addr a b) (Addr c d) None p q = absurd q
IdentLt-trans (Addr a b) (Addr c d) (Addr e f) p q = PairLt-trans a b c d e f p q
IdentLt-trans (Addr a b) (Addr c d) (Linked e f) p q = tt
IdentLt-trans (Addr a b) (Linked c d) None p q = absurd q
IdentLt-trans (Addr a b) (Linked c d) (Addr e f) p q = absurd q
IdentLt-trans (Addr a b) (Linked c d) (Linked e f) p q = tt
IdentLt-trans (Linked a b) None c p q = absurd p
IdentLt-trans (Linked a b) (Addr c d) x p q = absurd p
IdentLt-trans (Linked a b) (Linked c d) None p q = absurd q
IdentLt-trans (Linked a b) (Linked c d) (Addr e f) p q = absurd q
IdentLt-trans (Linked a b) (Linked c d) (Linked e f) p q = PairLt-trans a b c d e f p q

IdentLt-irrefl : (a : Ident) → IdentLt a a → ⊥
IdentLt-irrefl None p = p
IdentLt-irrefl (Addr a b) p = PairLt-irrefl a b p
IdentLt-irrefl (Linked a b) p = PairLt-irrefl a b p

pub KeyLt-trans : (a b c : LinkKey) → KeyLt a b → KeyLt b c → KeyLt a c
KeyLt-trans a b c p q =
    ⊎_elim
    (λ lt. ⊎_elim (λ lt'. inl (omega arith)) (λ s. inl (omega (arith, s.0))) q)
    (λ s. ⊎_elim
    (λ lt'. inl (omega (arith, s.0)))
    (λ s'. inr (
      s.0 ∙ s'.0,
      ⊎_elim
          (λ lt. ⊎_elim (λ lt'. inl (omega arith)) (λ t'. inl (omega (arith, t'.0))) s'.1)
          (λ t. ⊎_elim
          (λ lt'. inl (omega (arith, t.0)))
          (λ t'. inr (t.0 ∙ t'.0, IdentLt-trans a.ident b.ident c.ident t.1 t'.1))
          s'.1)
          s.1,
    ))
    q)
    p

pub KeyLt-irrefl : (a : LinkKey) → KeyLt a a → ⊥
KeyLt-irrefl a p = ⊎_elim (λ lt. omega arith) (λ s. ⊎_elim (λ lt. omega arith) (λ t. IdentLt-irrefl a.ident t.1) s.1) p

-- a name is one link's
pub key-one : (g : Graph) → IsNamed g → (k l : ℕ) → k < link_count g → l < link_count g → key_at g k ≡ key_at g l → k ≡ l
key-one g named k l a b e =
    ⊎_elim
    (λ same. same)
    (λ (ne : k ≢ l). absurd (⊎_elim
    (λ lt. KeyLt-irrefl (key_at g l) (subst (λ j. KeyLt j (key_at g l)) e (named.keys k l lt b)))
    (λ ge. let lt : l < k = omega arith in KeyLt-irrefl (key_at g l) (subst (λ j. KeyLt (key_at g l) j) e (named.keys l k lt a)))
    (cases_lt k l)))
    (cases_eq k l)

-- a system id is one node's
pub system-one : (g : Graph) → IsNamed g → (u v : ℕ) → u < node_count g → v < node_count g → system_at g u ≡ system_at g v → u ≡ v
system-one g named u v a b e =
    ⊎_elim
    (λ same. same)
    (λ (ne : u ≢ v). absurd (⊎_elim
    (λ lt. let z : system_at g u < system_at g v = named.ascending u v lt b in omega (arith, e))
    (λ ge. let lt : v < u = omega arith in let z : system_at g v < system_at g u = named.ascending v u lt a in omega (arith, e))
    (cases_lt u v)))
    (cases_eq u v)

pub nodes-same : (g h : Graph) → HaveSameNodes g h → node_count h ≡ node_count g
nodes-same g h same = ap length same.systems

pub nodes-sym : (g h : Graph) → HaveSameNodes g h → HaveSameNodes h g
nodes-sym g h same = record { systems = sym same.systems; overloaded = λ v within. sym (same.overloaded v (let nodes : node_count h ≡ node_count g = nodes-same g h same in omega (arith, nodes))) }

link_is : (a b : Link) → a.key ≡ b.key → a.from.0 ≡ b.from.0 → a.to.0 ≡ b.to.0 → a.metric ≡ b.metric → a ≡ b
link_is a b k f t m =
    let q : record { key = a.key; from = record { 0 = a.from.0 }; to = record { 0 = a.to.0 }; metric = a.metric } ≡ record { key = b.key; from = record { 0 = b.from.0 }; to = record { 0 = b.to.0 }; metric = b.metric } = rw (k, f, t, m) refl in
    q

-- links of one name have the same ends
pub name-ends : (g h : Graph) → IsGraph g → IsGraph h → IsNamed g → IsNamed h → HaveSameNodes g h → (l k : ℕ) → HaveSameName g h l k → (tail h k ≡ tail g l) × (head h k ≡ head g l)
name-ends g h gg gh ng nh same l k is =
    let a : IsLink g (link_at g l) = gg.each l is.0 in
    let b : IsLink h (link_at h k) = gh.each k is.1 in
    let nodes : node_count h ≡ node_count g = nodes-same g h same in
    let at : (v : ℕ) → system_at h v ≡ system_at g v = λ v. ap (λ (s : List ℕ). slice_index s v) same.systems in (
      system-one g ng (tail h k) (tail g l) (omega (arith, nodes)) a.0 (sym (at (tail h k)) ∙ sym (nh.ends k is.1).0 ∙ ap (λ j. j.from) is.2 ∙ (ng.ends l is.0).0),
      system-one g ng (head h k) (head g l) (omega (arith, nodes)) a.1 (sym (at (head h k)) ∙ sym (nh.ends k is.1).1 ∙ ap (λ j. j.to) is.2 ∙ (ng.ends l is.0).1),
    )

-- a link that isn't changed is the same record
pub same-link : (g h : Graph) → IsGraph g → IsGraph h → IsNamed g → IsNamed h → HaveSameNodes g h → (l k : ℕ) → IsSameLink g h l k → link_at h k ≡ link_at g l
same-link g h gg gh ng nh same l k is =
    let ends = name-ends g h gg gh ng nh same l k (is.0, is.1, is.2) in
    link_is (link_at h k) (link_at g l) is.2 ends.0 ends.1 is.3

pub turned_twice : (a : Ident) → turned (turned a) ≡ a
turned_twice None = refl
turned_twice (Addr a b) = refl
turned_twice (Linked a b) = refl

pub pair-sym : (a b : LinkKey) → IsSamePair a b → IsSamePair b a
pair-sym a b p =
    ⊎_elim
    (λ e. inl (sym e))
    (λ e.
    let q : mirror (mirror b) ≡ record { from = b.from; to = b.to; ident = b.ident } = rw (turned_twice b.ident) refl in
    inr (sym (ap mirror e ∙ q)))
    p

pub pair-trans : (a b c : LinkKey) → IsSamePair a b → IsSamePair b c → IsSamePair a c
pair-trans a b c p q =
    ⊎_elim
    (λ e. ⊎_elim (λ f. inl (e ∙ f)) (λ f. inr (e ∙ f)) q)
    (λ e. ⊎_elim
    (λ f. inr (e ∙ ap mirror f))
    (λ f.
    let twice : mirror (mirror c) ≡ record { from = c.from; to = c.to; ident = c.ident } = rw (turned_twice c.ident) refl in
    inl (e ∙ ap mirror f ∙ twice))
    q)
    p

-- where the sets have the same pairs, a link is in both or in neither
pub pairs-agree : (g : Graph) (x : List Bool) (h : Graph) (y : List Bool) → IsPairSet g x → IsPairSet h y → HaveSamePairs g x h y → (l k : ℕ) → HaveSameName g h l k → has x l ≡ has y k
pairs-agree g x h y px py pairs l k is =
    ⊎_elim
    (λ yes.
    let r = pairs.there l is.0 yes in
    let p : IsSamePair (key_at h r.0) (key_at h k) = pair-sym (key_at h k) (key_at h r.0) (subst (λ j. IsSamePair j (key_at h r.0)) (sym is.2) r.3) in
    yes ∙ sym (py r.0 k r.1 is.1 p r.2))
    (λ none. ⊎_elim
    (λ yes.
    let r = pairs.back k is.1 yes in
    let p : IsSamePair (key_at g r.0) (key_at g l) = pair-sym (key_at g l) (key_at g r.0) (subst (λ j. IsSamePair j (key_at g r.0)) is.2 r.3) in
    let z : has x l ≡ true = px r.0 l r.1 is.0 p r.2 in
    cc)
    (λ none'. none ∙ sym none')
    (true_or (has y k)))
    (true_or (has x l))

-- where names ascend, so do the nodes at which links begin
pub tails-ascend : (g : Graph) → IsNamed g → ((l : ℕ) → l < link_count g → IsLink g (link_at g l)) → (k l : ℕ) → k ≤ l → l < link_count g → tail g k ≤ tail g l
tails-ascend g named each k l le within =
    ⊎_elim
    (λ (e : k ≡ l). rw e (omega arith))
    (λ (ne : k ≢ l).
    let a : IsLink g (link_at g k) = each k (omega arith) in
    let from : (key_at g k).from ≡ system_at g (tail g k) = (named.ends k (omega arith)).0 in
    let to : (key_at g l).from ≡ system_at g (tail g l) = (named.ends l within).0 in
    ⊎_elim
    (λ (lt : tail g l < tail g k).
    let up : system_at g (tail g l) < system_at g (tail g k) = named.ascending (tail g l) (tail g k) lt a.0 in
    absurd (⊎_elim (λ low. omega arith) (λ s. omega (arith, s.0)) (named.keys k l (omega arith) within)))
    (λ ge. ge)
    (cases_lt (tail g l) (tail g k)))
    (cases_eq k l)
