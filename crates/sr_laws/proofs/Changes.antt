-- Changed links: a link is the same in both nets, or its key is that of a changed one.
use Rattle.std.proofs.Common.{◌≡◌, ◌≢◌, ℕ, zero, suc, ◌+◌, ◌<◌, ◌≤◌, ◌⊎◌, ⊎_elim, inl, inr, Bool, true, List, refl, arith, ap, sym, ◌∙◌, subst}
use Rattle.std.specs.Prelude.{slice_index}
use Rattle.std.proofs.lemmas.Bool.{cases_eq}
use Rattle.sr_model.specs.declared.link.TheConstants.{FAR}
use Rattle.sr_model.specs.declared.name.Ident.{Ident}
use Rattle.sr_model.specs.declared.name.Ident.TheVariants.{None, Addr, Link as Linked}
use Rattle.sr_model.specs.declared.name.LinkKey.{LinkKey}
use Rattle.sr_model.specs.Key.{IsSamePair}
use Rattle.sr_model.specs.Graph.{Graph, node_count, link_count, link_at, tail, head, metric, has, system_at, IsGraph, IsLink, IsNamed}
use Rattle.sr_model.specs.Case.{key_at}
use Rattle.sr_model.specs.Stay.{HaveSameNodes, HaveSameName, IsChanged, IsIdle, HaveSamePairs, IsOfFailedPair}
use Rattle.sr_laws.proofs.Keys.{IsSameLink, IsPairSet, nodes-same, nodes-sym, system-one, same-link, pair-sym, pair-trans}
use Rattle.sr_walks.proofs.Rows.{IsIdleLink, Keeps}
use Rattle.sr_model.proofs.KeyOrderLemmas.{key-parts}

ident_cases : (a b : Ident) → (a ≡ b) ⊎ (a ≢ b)
ident_cases None None = inl refl
ident_cases None (Addr c d) = inr (λ e. cc)
ident_cases None (Linked c d) = inr (λ e. cc)
ident_cases (Addr a b) None = inr (λ e. cc)
ident_cases (Addr a b) (Addr c d) =
    ⊎_elim
    (λ (p : a ≡ c). ⊎_elim (λ (q : b ≡ d). inl (cc)) (λ (q : b ≢ d). inr (λ e. q (cc))) (cases_eq b d))
    (λ (p : a ≢ c). inr (λ e. p (cc)))
    (cases_eq a c)
ident_cases (Addr a b) (Linked c d) = inr (λ e. cc)
ident_cases (Linked a b) None = inr (λ e. cc)
ident_cases (Linked a b) (Addr c d) = inr (λ e. cc)
ident_cases (Linked a b) (Linked c d) =
    ⊎_elim
    (λ (p : a ≡ c). ⊎_elim (λ (q : b ≡ d). inl (cc)) (λ (q : b ≢ d). inr (λ e. q (cc))) (cases_eq b d))
    (λ (p : a ≢ c). inr (λ e. p (cc)))
    (cases_eq a c)

-- keys are the same or not
pub key-cases : (a b : LinkKey) → (a ≡ b) ⊎ (a ≢ b)
key-cases a b =
    ⊎_elim
    (λ (f : a.from ≡ b.from). ⊎_elim
    (λ (t : a.to ≡ b.to). ⊎_elim
    (λ i. inl (key-parts a b f t i))
    (λ i. inr (λ e. i (ap (λ j. j.ident) e)))
    (ident_cases a.ident b.ident))
    (λ (t : a.to ≢ b.to). inr (λ e. t (ap (λ j. j.to) e)))
    (cases_eq a.to b.to))
    (λ (f : a.from ≢ b.from). inr (λ e. f (ap (λ j. j.from) e)))
    (cases_eq a.from b.from)

-- a link below n has the key, or none has
find_key : (h : Graph) (key : LinkKey) (n : ℕ) → ((k : ℕ) × (k < n) × (key_at h k ≡ key)) ⊎ ((k : ℕ) → k < n → key_at h k ≢ key)
find_key h key zero = inr (λ k lt. absurd (omega arith))
find_key h key (suc n) =
    ⊎_elim
    (λ r. inl (r.0, omega (arith, r.1), r.2))
    (λ none. ⊎_elim
    (λ is. inl (n, omega arith, is))
    (λ isnt. inr (λ k lt. ⊎_elim (λ (e : k ≡ n). subst (λ j. key_at h j ≢ key) (sym e) isnt) (λ (ne : k ≢ n). none k (omega arith)) (cases_eq k n)))
    (key-cases (key_at h n) key))
    (find_key h key n)

-- a link is that of the other net too, or it is changed
pub same-or_changed : (g h : Graph) (l : ℕ) → l < link_count g → ((k : ℕ) × IsSameLink g h l k) ⊎ IsChanged g h (key_at g l)
same-or_changed g h l within =
    ⊎_elim
    (λ r. ⊎_elim
    (λ same. inl (r.0, (within, r.1, r.2, same)))
    (λ (other : metric h r.0 ≢ metric g l). inr (inr (inr (metric g l, metric h r.0, (l, within, refl, refl), (r.0, r.1, r.2, refl), λ e. other (sym e)))))
    (cases_eq (metric h r.0) (metric g l)))
    (λ none. inr (inl ((l, within, refl), λ is. none is.0 is.1 is.2)))
    (find_key h (key_at g l) (link_count h))

-- being changed has no direction
pub changed-sym : (g h : Graph) (key : LinkKey) → IsChanged g h key → IsChanged h g key
changed-sym g h key c =
    ⊎_elim
    (λ gone. inr (inl gone))
    (λ other. ⊎_elim
    (λ come. inl come)
    (λ both. inr (inr (both.1, both.0, both.3, both.2, λ e. both.4 (sym e))))
    other)
    c

-- an idle link of the old net
pub idle-old : (g h : Graph) (cells : List ℕ) → IsGraph g → IsNamed g → (l : ℕ) → l < link_count g → IsIdle g h cells (key_at g l) → IsIdleLink g cells l
idle-old g h cells graph named l within i =
    let a : IsLink g (link_at g l) = graph.each l within in
    let n = named.ends l within in
    let from : i.from ≡ tail g l = system-one g named i.from (tail g l) i.begins.0 a.0 (i.begins.1 ∙ n.0) in
    let to : i.to ≡ head g l = system-one g named i.to (head g l) i.ends.0 a.1 (i.ends.1 ∙ n.1) in
    ⊎_elim
    (λ far. inl (subst (λ v. FAR ≤ slice_index cells v) from far))
    (λ near.
    let less : slice_index cells i.to < slice_index cells i.from + metric g l = near.1 (metric g l) (inl (l, within, refl, refl)) in
    inr (subst (λ v. slice_index cells v < FAR) to near.0, subst (λ v. slice_index cells v < slice_index cells (tail g l) + metric g l) to (subst (λ v. slice_index cells i.to < slice_index cells v + metric g l) from less)))
    i.idle

-- an idle link of the new net
pub idle-new : (g h : Graph) (cells : List ℕ) → IsGraph h → IsNamed g → IsNamed h → HaveSameNodes g h → (k : ℕ) → k < link_count h → IsIdle g h cells (key_at h k) → IsIdleLink h cells k
idle-new g h cells graph named named' same k within i =
    let a : IsLink h (link_at h k) = graph.each k within in
    let n = named'.ends k within in
    let nodes : node_count h ≡ node_count g = nodes-same g h same in
    let at : (v : ℕ) → system_at h v ≡ system_at g v = λ v. ap (λ (s : List ℕ). slice_index s v) same.systems in
    let from : i.from ≡ tail h k = system-one g named i.from (tail h k) i.begins.0 (omega (arith, a.0)) (i.begins.1 ∙ n.0 ∙ at (tail h k)) in
    let to : i.to ≡ head h k = system-one g named i.to (head h k) i.ends.0 (omega (arith, a.1)) (i.ends.1 ∙ n.1 ∙ at (head h k)) in
    ⊎_elim
    (λ far. inl (subst (λ v. FAR ≤ slice_index cells v) from far))
    (λ near.
    let less : slice_index cells i.to < slice_index cells i.from + metric h k = near.1 (metric h k) (inr (k, within, refl, refl)) in
    inr (subst (λ v. slice_index cells v < FAR) to near.0, subst (λ v. slice_index cells v < slice_index cells (tail h k) + metric h k) to (subst (λ v. slice_index cells i.to < slice_index cells v + metric h k) from less)))
    i.idle

-- two graphs of nets with the same nodes
pub record AreVersions (g h : Graph) : Type 0 where
  pub old : IsGraph g
  pub new : IsGraph h
  pub named : IsNamed g
  pub named' : IsNamed h
  pub same : HaveSameNodes g h

pub versions-sym : (g h : Graph) → AreVersions g h → AreVersions h g
versions-sym g h v = record { old = v.new; new = v.old; named = v.named'; named' = v.named; same = nodes-sym g h v.same }

-- links of one key are in both sets or in neither
abbrev pub NamesAgree : Graph → List Bool → Graph → List Bool → Type 0
NamesAgree g x h y = (l k : ℕ) → HaveSameName g h l k → has x l ≡ has y k

pub names-sym : (g : Graph) (x : List Bool) (h : Graph) (y : List Bool) → NamesAgree g x h y → NamesAgree h y g x
names-sym g x h y agree k l is = sym (agree l k (is.1, is.0, sym is.2))

-- each changed link that isn't of a failed pair is idle
abbrev pub AreIdle : Graph → List Bool → Graph → List ℕ → Type 0
AreIdle g x h cells = (key : LinkKey) → IsChanged g h key → (IsOfFailedPair g x key → ⊥) → IsIdle g h cells key

pub keeps-there : (g h : Graph) → AreVersions g h → (x y : List Bool) (cells : List ℕ) → IsPairSet g x → NamesAgree g x h y → AreIdle g x h cells → Keeps g x h y cells
keeps-there g h v x y cells pairs agree idle l within outside =
    ⊎_elim
    (λ k. inl (k.0, k.1.1, sym (agree l k.0 (k.1.0, k.1.1, k.1.2)) ∙ outside, same-link g h v.old v.new v.named v.named' v.same l k.0 k.1))
    (λ changed. inr (idle-old g h cells v.old v.named l within (idle (key_at g l) changed (λ of.
    let is : has x l ≡ true = pairs of.0 l of.1 within of.3 of.2 in
    cc))))
    (same-or_changed g h l within)

pub keeps-back : (g h : Graph) → AreVersions g h → (x y : List Bool) (cells : List ℕ) → IsPairSet h y → NamesAgree g x h y → HaveSamePairs g x h y → AreIdle g x h cells → Keeps h y g x cells
keeps-back g h v x y cells pairs agree same idle k within outside =
    ⊎_elim
    (λ l. inl (l.0, l.1.1, agree l.0 k (l.1.1, l.1.0, sym l.1.2) ∙ outside, same-link h g v.new v.old v.named' v.named (nodes-sym g h v.same) k l.0 l.1))
    (λ changed. inr (idle-new g h cells v.new v.named v.named' v.same k within (idle (key_at h k) (changed-sym h g (key_at h k) changed) (λ of.
    let r = same.there of.0 of.1 of.2 in
    let pair : IsSamePair (key_at h r.0) (key_at h k) = pair-trans (key_at h r.0) (key_at g of.0) (key_at h k) (pair-sym (key_at g of.0) (key_at h r.0) r.3) of.3 in
    let is : has y k ≡ true = pairs r.0 k r.1 within pair r.2 in
    cc))))
    (same-or_changed h g k within)
