-- Links that fail, of the same pairs in two nets.
use Rattle.std.proofs.Common.{◌≡◌, ◌↔◌, ℕ, zero, suc, ◌+◌, ◌<◌, ◌≤◌, ⊎_elim, inl, inr, Bool, true, false, List, [], ◌∷◌, ◌++◌, length, refl, arith, ap, sym, ◌∙◌, subst}
use Rattle.std.specs.Prelude.{slice_index}
use Rattle.std.proofs.lemmas.Bool.{cases_lt}
use Rattle.std.proofs.lemmas.List.{length-append, get_or_push, get_or_append_left}
use Rattle.sr_model.specs.declared.case.Case.{Case}
use Rattle.sr_model.specs.declared.case.Kind.TheVariants.{Link as LinkKind, Node as NodeKind, Risk as RiskKind}
use Rattle.sr_model.specs.declared.link.LinkNo.{LinkNo}
use Rattle.sr_model.specs.declared.name.LinkKey.{LinkKey}
use Rattle.sr_model.specs.Key.{IsSamePair, mirror}
use Rattle.sr_model.specs.Graph.{Graph, node_count, link_count, link_at, tail, head, has, system_at, groups_at, IsGraph, IsLink, IsNamed}
use Rattle.sr_model.specs.Case.{key_at, FailsWith, Touches, IsFailedSet}
use Rattle.sr_model.specs.Stay.{HaveSameNodes, HaveSameName, HaveSamePairs, HasLink, IsChanged, IsOfFailedPair}
use Rattle.sr_graph.specs.Members.{IsInRange, IsInList}
use Rattle.sr_graph.specs.Ranges.{HoldsLinks, EndAt}
use Rattle.sr_laws.proofs.Keys.{system-one, nodes-same, nodes-sym, name-ends, pair-sym}
use Rattle.sr_delta.specs.declared.change.Change.{Change}
use Rattle.sr_delta.specs.Changed.{IsChange, change_at, AreChangedLinks}
use Rattle.sr_delta.specs.Pairs.{IsOfFailingPair, HavePairsIn, HaveSameFailures, HasPair, HaveSamePairsAt, IsPairedIfAt, IsMatched}
use Rattle.sr_delta.proofs.PairLemmas.{OrNot, some-or_not, key-or_not, fails-or_not}

-- a test for each number below n, true where the fact holds
abbrev pub AreTests : (ℕ → Type 0) → ℕ → List Bool → Type 0
AreTests p n x = (length x ≡ n) × ((l : ℕ) → l < n → (has x l ≡ true) ↔ p l)

pub tests-push : (p : ℕ → Type 0) (n : ℕ) (x : List Bool) (b : Bool) → AreTests p n x → (b ≡ true) ↔ p n → AreTests p (suc n) (x ++ b ∷ [])
tests-push p n x b r is =
    let long : length x ≡ n = r.0 in
    let more : length (x ++ b ∷ []) ≡ length x + 1 = length-append x (b ∷ []) in (
      omega (arith, long, more),
      λ l lt. ⊎_elim
          (λ (low : l < n).
          let at : has (x ++ b ∷ []) l ≡ has x l = get_or_append_left x (b ∷ []) false l (omega (arith, long)) in
          (λ h. (r.1 l low).0 (sym at ∙ h), λ h. at ∙ (r.1 l low).1 h))
          (λ (top : n ≤ l).
          let e : l ≡ n = omega arith in
          let at : has (x ++ b ∷ []) l ≡ b = get_or_push x b false l (omega (arith, long, e)) in
          (λ h. subst p (sym e) (is.0 (sym at ∙ h)), λ h. at ∙ is.1 (subst p e h)))
          (cases_lt l n),
    )

tests-of : (p : ℕ → Type 0) → ((l : ℕ) → OrNot (p l)) → (n : ℕ) → (x : List Bool) × AreTests p n x
tests-of p each zero = ([], (refl, λ l lt. absurd (omega arith)))
tests-of p each (suc n) =
    let r = tests-of p each n in
    ⊎_elim
    (λ holds. (r.0 ++ true ∷ [], tests-push p n r.0 true r.1 (λ e. holds, λ h. refl)))
    (λ fails. (r.0 ++ false ∷ [], tests-push p n r.0 false r.1 (λ e. cc, λ h. absurd (fails h))))
    (each n)

-- each case has a failed set
pub failed-exists : (g : Graph) (case : Case) → (x : List Bool) × IsFailedSet g case x
failed-exists g case =
    let r = tests-of (FailsWith g case.kind case.link.0) (fails-or_not g case.kind case.link.0) (link_count g) in
    (r.0, record { long = r.1.0; each = r.1.1 })

-- the same, told by the failed sets
pub same-from_failures : (g : Graph) (a : Case) (x : List Bool) (h : Graph) (b : Case) (y : List Bool) → IsFailedSet g a x → IsFailedSet h b y → HaveSameFailures g a h b → HaveSamePairs g x h y
same-from_failures g a x h b y xs ys same = record {
  there = λ l lt given. let r = same.there l lt ((xs.each l lt).0 given) in (r.0, r.1, (ys.each r.0 r.1).1 r.2, pair-sym (key_at h r.0) (key_at g l) r.3);
  back = λ k lt given. let r = same.back k lt ((ys.each k lt).0 given) in (r.0, r.1, (xs.each r.0 r.1).1 r.2, pair-sym (key_at g r.0) (key_at h k) r.3);
}

pub failures-from_same : (g : Graph) (a : Case) (x : List Bool) (h : Graph) (b : Case) (y : List Bool) → IsFailedSet g a x → IsFailedSet h b y → HaveSamePairs g x h y → HaveSameFailures g a h b
failures-from_same g a x h b y xs ys same = record {
  there = λ l lt fails. let r = same.there l lt ((xs.each l lt).1 fails) in (r.0, r.1, (ys.each r.0 r.1).0 r.2, pair-sym (key_at g l) (key_at h r.0) r.3);
  back = λ k lt fails. let r = same.back k lt ((ys.each k lt).1 fails) in (r.0, r.1, (xs.each r.0 r.1).0 r.2, pair-sym (key_at h k) (key_at g r.0) r.3);
}

pub failing-from_failed : (g : Graph) (case : Case) (x : List Bool) (key : LinkKey) → IsFailedSet g case x → IsOfFailedPair g x key → IsOfFailingPair g case key
failing-from_failed g case x key set of = (of.0, of.1, (set.each of.0 of.1).0 of.2, of.3)

pub failed-from_failing : (g : Graph) (case : Case) (x : List Bool) (key : LinkKey) → IsFailedSet g case x → IsOfFailingPair g case key → IsOfFailedPair g x key
failed-from_failing g case x key set of = (of.0, of.1, (set.each of.0 of.1).1 of.2, of.3)

-- a link of the protected pair is of that of the protected link of the other graph
pub own-pair : (g h : Graph) (b : Case) (p l : ℕ) → HaveSameName g h p b.link.0 → FailsWith h b.kind b.link.0 b.link.0 → IsSamePair (key_at g l) (key_at g p) → IsOfFailingPair h b (key_at g l)
own-pair g h b p l name self pair =
    (b.link.0, name.1, self, subst (λ j. IsSamePair j (key_at g l)) (sym name.2) (pair-sym (key_at g l) (key_at g p) pair))

pub name-sym : (g h : Graph) (l k : ℕ) → HaveSameName g h l k → HaveSameName h g k l
name-sym g h l k name = (name.1, name.0, sym name.2)

link-in : (g : Graph) (a : Case) (h : Graph) (b : Case) → a.kind ≡ LinkKind → b.kind ≡ LinkKind → HaveSameName g h a.link.0 b.link.0 → HavePairsIn g a h b
link-in g a h b ka kb name = λ l lt fails.
    own-pair g h b a.link.0 l name (subst (λ k. FailsWith h k b.link.0 b.link.0) (sym kb) (inl refl)) (subst (λ k. FailsWith g k a.link.0 l) ka fails)

-- in link cases of one key the links that fail are of the same pair
pub link-same : (g : Graph) (a : Case) (h : Graph) (b : Case) → a.kind ≡ LinkKind → b.kind ≡ LinkKind → HaveSameName g h a.link.0 b.link.0 → HaveSameFailures g a h b
link-same g a h b ka kb name = record { there = link-in g a h b ka kb name; back = link-in h b g a kb ka (name-sym g h a.link.0 b.link.0 name) }

-- links of one pair in graphs with the same nodes begin and end at the same nodes
pub touches-across : (g h : Graph) → IsGraph g → IsGraph h → IsNamed g → IsNamed h → HaveSameNodes g h → (l k v : ℕ) → l < link_count g → k < link_count h → IsSamePair (key_at h k) (key_at g l) → Touches g l v → Touches h k v
touches-across g h gg gh ng nh same l k v lw kw pair touch =
    let a : IsLink g (link_at g l) = gg.each l lw in
    let b : IsLink h (link_at h k) = gh.each k kw in
    let nodes : node_count h ≡ node_count g = nodes-same g h same in
    let at : (u : ℕ) → system_at h u ≡ system_at g u = λ u. ap (λ (s : List ℕ). slice_index s u) same.systems in
    let al = ng.ends l lw in
    let bk = nh.ends k kw in
    ⊎_elim
    (λ (e : key_at h k ≡ key_at g l).
    let from : tail h k ≡ tail g l = system-one h nh (tail h k) (tail g l) b.0 (omega (arith, nodes, a.0)) (sym bk.0 ∙ ap (λ j. j.from) e ∙ al.0 ∙ sym (at (tail g l))) in
    let to : head h k ≡ head g l = system-one h nh (head h k) (head g l) b.1 (omega (arith, nodes, a.1)) (sym bk.1 ∙ ap (λ j. j.to) e ∙ al.1 ∙ sym (at (head g l))) in
    ⊎_elim (λ t. inl (from ∙ t)) (λ d. inr (to ∙ d)) touch)
    (λ (e : key_at h k ≡ mirror (key_at g l)).
    let from : tail h k ≡ head g l = system-one h nh (tail h k) (head g l) b.0 (omega (arith, nodes, a.1)) (sym bk.0 ∙ ap (λ j. j.from) e ∙ al.1 ∙ sym (at (head g l))) in
    let to : head h k ≡ tail g l = system-one h nh (head h k) (tail g l) b.1 (omega (arith, nodes, a.0)) (sym bk.1 ∙ ap (λ j. j.to) e ∙ al.0 ∙ sym (at (tail g l))) in
    ⊎_elim (λ t. inr (to ∙ t)) (λ d. inl (from ∙ d)) touch)
    pair

node-in : (g h : Graph) → IsGraph g → IsGraph h → IsNamed g → IsNamed h → HaveSameNodes g h → (a b : Case) → a.kind ≡ NodeKind → b.kind ≡ NodeKind → head h b.link.0 ≡ head g a.link.0 → ((l : ℕ) → l < link_count g → Touches g l (head g a.link.0) → HasPair h (key_at g l)) → HavePairsIn g a h b
node-in g h gg gh ng nh same a b ka kb at has l lt fails =
    let touch : Touches g l (head g a.link.0) = subst (λ k. FailsWith g k a.link.0 l) ka fails in
    let r = has l lt touch in
    let there : Touches h r.0 (head h b.link.0) = subst (λ v. Touches h r.0 v) (sym at) (touches-across g h gg gh ng nh same l r.0 (head g a.link.0) lt r.1 r.2 touch) in
    (r.0, r.1, subst (λ k. FailsWith h k b.link.0 r.0) (sym kb) there, r.2)

-- in node cases those at the end are
pub node-same : (g h : Graph) → IsGraph g → IsGraph h → IsNamed g → IsNamed h → HaveSameNodes g h → (a b : Case) → a.kind ≡ NodeKind → b.kind ≡ NodeKind → HaveSameName g h a.link.0 b.link.0 → HaveSamePairsAt g h (head g a.link.0) ↔ HaveSameFailures g a h b
node-same g h gg gh ng nh same a b ka kb name =
    let at : head h b.link.0 ≡ head g a.link.0 = (name-ends g h gg gh ng nh same a.link.0 b.link.0 name).1 in (
      λ pairs. record {
        there = node-in g h gg gh ng nh same a b ka kb at pairs.there;
        back = node-in h g gh gg nh ng (nodes-sym g h same) b a kb ka (sym at) (λ k lt touch. pairs.back k lt (subst (λ v. Touches h k v) at touch));
      },
      λ failures. record {
        there = λ l lt touch. let r = failures.there l lt (subst (λ k. FailsWith g k a.link.0 l) (sym ka) touch) in (r.0, r.1, r.3);
        back = λ k lt touch. let r = failures.back k lt (subst (λ j. FailsWith h j b.link.0 k) (sym kb) (subst (λ v. Touches h k v) (sym at) touch)) in (r.0, r.1, r.3);
      },
    )

-- in SRLG cases those of the protected pair and those at its beginning are
pub pairs-from_matched : (g : Graph) (a : Case) (h : Graph) (b : Case) → a.kind ≡ RiskKind → b.kind ≡ RiskKind → HaveSameName g h a.link.0 b.link.0 → (i j : ℕ) (links : List LinkNo) → HoldsLinks g (tail g a.link.0) i j → EndAt g (tail g a.link.0) links → ((l : ℕ) → IsInRange i j l → IsMatched g a h b l) → ((l : ℕ) → IsInList links l → IsMatched g a h b l) → HavePairsIn g a h b
pairs-from_matched g a h b ka kb name i j links holds ending ranged listed l lt fails =
    ⊎_elim
    (λ own. own-pair g h b a.link.0 l name (subst (λ k. FailsWith h k b.link.0 b.link.0) (sym kb) (inl (inl refl))) own)
    (λ near. ⊎_elim (λ begins. ranged l (holds.to l lt begins) fails) (λ ends. listed l (ending.all l lt ends) fails) near.0)
    (subst (λ k. FailsWith g k a.link.0 l) ka fails)

pub range-matched : (g : Graph) (a : Case) (h : Graph) (b : Case) (v i j : ℕ) → HoldsLinks g v i j → HavePairsIn g a h b → (l : ℕ) → IsInRange i j l → IsMatched g a h b l
range-matched g a h b v i j holds pairs l within = pairs l (let lt : l < j = within.1 in omega (arith, holds.inside))

pub list-matched : (g : Graph) (a : Case) (h : Graph) (b : Case) (v : ℕ) (links : List LinkNo) → EndAt g v links → HavePairsIn g a h b → (l : ℕ) → IsInList links l → IsMatched g a h b l
list-matched g a h b v links ending pairs l listed = pairs l (subst (λ k. k < link_count g) listed.2 (ending.each listed.0 listed.1).0)

plain-in : (g : Graph) (a : Case) (h : Graph) (b : Case) → a.kind ≡ RiskKind → b.kind ≡ RiskKind → HaveSameName g h a.link.0 b.link.0 → length (groups_at g a.link.0) ≡ 0 → HavePairsIn g a h b
plain-in g a h b ka kb name none l lt fails =
    ⊎_elim
    (λ own. own-pair g h b a.link.0 l name (subst (λ k. FailsWith h k b.link.0 b.link.0) (sym kb) (inl (inl refl))) own)
    (λ near. absurd (let some : near.1.2.0 < length (groups_at g a.link.0) = near.1.2.1 in omega arith))
    (subst (λ k. FailsWith g k a.link.0 l) ka fails)

-- where the protected link has no group, those of its pair alone
pub plain-same : (g : Graph) (a : Case) (h : Graph) (b : Case) → a.kind ≡ RiskKind → b.kind ≡ RiskKind → HaveSameName g h a.link.0 b.link.0 → length (groups_at g a.link.0) ≡ 0 → length (groups_at h b.link.0) ≡ 0 → HaveSameFailures g a h b
plain-same g a h b ka kb name none none' = record { there = plain-in g a h b ka kb name none; back = plain-in h b g a kb ka (name-sym g h a.link.0 b.link.0 name) none' }

-- a changed link has the ends of the link of its key
change-ends : (g h f : Graph) → IsGraph f → IsNamed g → IsNamed f → f.systems ≡ g.systems → (c : Change) → IsChange g h c → (l : ℕ) → l < link_count f → c.key ≡ key_at f l → (c.from.0 ≡ tail f l) × (c.to.0 ≡ head f l)
change-ends g h f graph ng nf same c is l lt e =
    let ends : IsLink f (link_at f l) = graph.each l lt in
    let nodes : node_count f ≡ node_count g = ap length same in
    let at : (u : ℕ) → system_at f u ≡ system_at g u = λ u. ap (λ (s : List ℕ). slice_index s u) same in (
      system-one g ng c.from.0 (tail f l) is.begins.0 (omega (arith, nodes, ends.0)) (is.begins.1 ∙ ap (λ (k : LinkKey). k.from) e ∙ (nf.ends l lt).0 ∙ at (tail f l)),
      system-one g ng c.to.0 (head f l) is.ends.0 (omega (arith, nodes, ends.1)) (is.ends.1 ∙ ap (λ (k : LinkKey). k.to) e ∙ (nf.ends l lt).1 ∙ at (head f l)),
    )

-- a link at the node, which the other graph lacks, is a listed change there
listed-at : (g h f : Graph) → IsGraph f → IsNamed g → IsNamed f → f.systems ≡ g.systems → (links : List Change) → AreChangedLinks g h links → (v l : ℕ) → l < link_count f → IsChanged g h (key_at f l) → Touches f l v → ((n : ℕ) → n < length links → IsPairedIfAt g h (change_at links n) v) → HasPair g (key_at f l) × HasPair h (key_at f l)
listed-at g h f graph ng nf same links are v l lt changed touch paired =
    let at = are.whole (key_at f l) changed changed in
    let ends = change-ends g h f graph ng nf same (change_at links at.0) (are.each at.0 at.1) l lt at.2 in
    let both = paired at.0 at.1 (⊎_elim (λ t. inl (ends.0 ∙ t)) (λ d. inr (ends.1 ∙ d)) touch) in
    (subst (λ k. HasPair g k) at.2 both.0, subst (λ k. HasPair h k) at.2 both.1)

-- the links at a node are of the same pairs where both graphs have the pair of each changed link there
pub pairs-from_changes : (g h : Graph) → IsGraph g → IsGraph h → IsNamed g → IsNamed h → HaveSameNodes g h → (links : List Change) → AreChangedLinks g h links → (v : ℕ) → ((n : ℕ) → n < length links → IsPairedIfAt g h (change_at links n) v) → HaveSamePairsAt g h v
pairs-from_changes g h gg gh ng nh same links are v paired = record {
  there = λ l lt touch. ⊎_elim
      (λ has. (has.0, has.1, inl has.2))
      (λ lacks. (listed-at g h g gg ng ng refl links are v l lt (inl ((l, lt, refl), lacks)) touch paired).1)
      (some-or_not (λ k. key_at h k ≡ key_at g l) (λ k. key-or_not (key_at h k) (key_at g l)) (link_count h));
  back = λ k lt touch. ⊎_elim
      (λ has. (has.0, has.1, inl has.2))
      (λ lacks. (listed-at g h h gh ng nh same.systems links are v k lt (inr (inl ((k, lt, refl), lacks))) touch paired).0)
      (some-or_not (λ l. key_at g l ≡ key_at h k) (λ l. key-or_not (key_at g l) (key_at h k)) (link_count g));
}

pub changes-from_pairs : (g h : Graph) → IsGraph g → IsGraph h → IsNamed g → IsNamed h → HaveSameNodes g h → (c : Change) → IsChange g h c → (v : ℕ) → HaveSamePairsAt g h v → IsPairedIfAt g h c v
changes-from_pairs g h gg gh ng nh same c is v pairs touch =
    let old : HasLink g c.key → HasPair g c.key × HasPair h c.key =
    λ has.
    let ends = change-ends g h g gg ng ng refl c is has.0 has.1 (sym has.2) in
    let r = pairs.there has.0 has.1 (⊎_elim (λ t. inl (sym ends.0 ∙ t)) (λ d. inr (sym ends.1 ∙ d)) touch) in
    ((has.0, has.1, inl has.2), subst (λ k. HasPair h k) has.2 r) in
    let new' : HasLink h c.key → HasPair g c.key × HasPair h c.key =
    λ has.
    let ends = change-ends g h h gh ng nh same.systems c is has.0 has.1 (sym has.2) in
    let r = pairs.back has.0 has.1 (⊎_elim (λ t. inl (sym ends.0 ∙ t)) (λ d. inr (sym ends.1 ∙ d)) touch) in
    (subst (λ k. HasPair g k) has.2 r, (has.0, has.1, inl has.2)) in
    ⊎_elim
    (λ gone. old gone.0)
    (λ rest. ⊎_elim (λ come. new' come.0) (λ both. old (both.2.0, both.2.1, both.2.2)) rest)
    is.changed
