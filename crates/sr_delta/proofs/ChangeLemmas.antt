-- Which links are changed, and how they are listed.
use Rattle.std.proofs.Common.{◌≡◌, ◌≢◌, ℕ, ◌+◌, ◌<◌, ◌≤◌, ◌⊎◌, ⊎_elim, inl, inr, List, [], ◌∷◌, ◌++◌, length, Option, Some, None, refl, arith, ap, sym, ◌∙◌, subst}
use Rattle.std.proofs.lemmas.Bool.{cases_lt, cases_eq}
use Rattle.std.proofs.lemmas.List.{length-append, get_or_push, get_or_append_left}
use Rattle.sr_model.specs.declared.link.LinkNo.{LinkNo}
use Rattle.sr_model.specs.declared.name.LinkKey.{LinkKey}
use Rattle.sr_model.specs.Graph.{Graph, link_count, link_at, metric, IsGraph, IsLink, IsNamed}
use Rattle.sr_model.specs.Case.{key_at}
use Rattle.sr_model.specs.Stay.{HaveSameName, HasLink, HasMetric, IsChanged}
use Rattle.sr_laws.proofs.Keys.{key-one}
use Rattle.sr_delta.specs.declared.change.Change.{Change}
use Rattle.sr_delta.specs.Partners.{IsPartner}
use Rattle.sr_delta.specs.Changed.{change_of_link, IsMetricOf, IsChange, no_change, change_at, AreChangesAmong, AreChangedLinks, IsKeyBelow, IsOldOrBelow}

-- a link of this key has one metric
pub metric-one : (g : Graph) → IsNamed g → (key : LinkKey) (b c : ℕ) → HasMetric g key b → HasMetric g key c → b ≡ c
metric-one g named key b c p q = sym p.3 ∙ ap (metric g) (key-one g named p.0 q.0 p.1 q.1 (p.2 ∙ sym q.2)) ∙ q.3

-- a link that is there with its metric isn't changed
pub same-unchanged : (g h : Graph) → IsNamed g → IsNamed h → (l k : ℕ) → HaveSameName g h l k → metric h k ≡ metric g l → IsChanged g h (key_at g l) → ⊥
same-unchanged g h gn hn l k is same c =
    ⊎_elim
    (λ gone. gone.1 (k, is.1, is.2))
    (λ rest. ⊎_elim
    (λ come. come.1 (l, is.0, refl))
    (λ both. both.4 (metric-one g gn (key_at g l) both.0 (metric g l) both.2 (l, is.0, refl, refl) ∙ sym same ∙ metric-one h hn (key_at g l) (metric h k) both.1 (k, is.1, is.2, refl) both.3))
    rest)
    c

-- the record of a link of the old net
pub change-old : (g h : Graph) → IsGraph g → IsNamed g → (l : ℕ) → l < link_count g → (after : Option ℕ) → IsMetricOf h (key_at g l) after → IsChanged g h (key_at g l) → IsChange g h (change_of_link g l after)
change-old g h graph named l within after is changed =
    let ends : IsLink g (link_at g l) = graph.each l within in
    record {
      changed = changed;
      begins = (ends.0, sym (named.ends l within).0);
      ends = (ends.1, sym (named.ends l within).1);
      before = (l, within, refl, refl);
      after = is;
    }

-- a link that is gone
pub gone-changed : (g h : Graph) (l : ℕ) → l < link_count g → IsPartner g h l None → (HasLink h (key_at g l) → ⊥) × IsChanged g h (key_at g l)
gone-changed g h l within none =
    let apart : HasLink h (key_at g l) → ⊥ = λ has. none has.0 (within, has.1, has.2) in
    (apart, inl ((l, within, refl), apart))

-- a link of the new net is one of the old net exactly where it has a partner there
pub partner-has : (g h : Graph) (k : ℕ) (p : LinkNo) → IsPartner h g k (Some p) → HasLink g (key_at h k)
partner-has g h k p is = (p.0, is.1, is.2)

pub none-lacks : (g h : Graph) (k : ℕ) → k < link_count h → IsPartner h g k None → HasLink g (key_at h k) → ⊥
none-lacks g h k within none has = none has.0 (within, has.1, has.2)

-- a link that has another metric
pub other-changed : (g h : Graph) (l k : ℕ) → HaveSameName g h l k → metric h k ≢ metric g l → HasMetric h (key_at g l) (metric h k) × IsChanged g h (key_at g l)
other-changed g h l k is other =
    let there : HasMetric h (key_at g l) (metric h k) = (k, is.1, is.2, refl) in
    (there, inr (inr (metric g l, metric h k, (l, is.0, refl, refl), there, λ e. other (sym e))))

-- no change among none
pub among-none : (g h : Graph) → AreChangesAmong g h (IsKeyBelow g 0) []
among-none g h = record {
  each = λ n lt. absurd (omega arith);
  among = λ n lt. absurd (omega arith);
  whole = λ key changed is. absurd (let lt : is.0 < 0 = is.1 in omega arith);
  once = λ k n up lt. absurd (omega arith);
}

-- the same list, for other wanted keys
pub among-as : (g h : Graph) (p q : LinkKey → Type 0) (list : List Change) → AreChangesAmong g h p list → ((key : LinkKey) → IsChanged g h key → p key → q key) → ((key : LinkKey) → IsChanged g h key → q key → p key) → AreChangesAmong g h q list
among-as g h p q list r forth back = record {
  each = r.each;
  among = λ n lt. forth (change_at list n).key (r.each n lt).changed (r.among n lt);
  whole = λ key changed is. r.whole key changed (back key changed is);
  once = r.once;
}

-- one more change, whose key wasn't wanted before
pub among-push : (g h : Graph) (p q : LinkKey → Type 0) (list : List Change) (c : Change) → AreChangesAmong g h p list → IsChange g h c → (p c.key → ⊥) → q c.key → ((key : LinkKey) → p key → q key) → ((key : LinkKey) → q key → p key ⊎ (key ≡ c.key)) → AreChangesAmong g h q (list ++ c ∷ [])
among-push g h p q list c r is apart here forth back =
    let next : List Change = list ++ c ∷ [] in
    let long : length next ≡ length list + 1 = length-append list (c ∷ []) in
    let old : (n : ℕ) → n < length list → change_at next n ≡ change_at list n = λ n lt. get_or_append_left list (c ∷ []) no_change n lt in
    let last : change_at next (length list) ≡ c = get_or_push list c no_change (length list) refl in
    let by : (a : Change → Type 0) → ((n : ℕ) → n < length list → a (change_at list n)) → a c → (n : ℕ) → n < length next → a (change_at next n) =
    λ a low top n lt. ⊎_elim
    (λ (early : n < length list). subst a (sym (old n early)) (low n early))
    (λ (late : length list ≤ n). let at : n ≡ length list = omega arith in subst a (sym (ap (change_at next) at ∙ last)) top)
    (cases_lt n (length list)) in
    record {
      each = by (λ a. IsChange g h a) r.each is;
      among = by (λ a. q a.key) (λ n lt. forth (change_at list n).key (r.among n lt)) here;
      whole = λ key changed wants. ⊎_elim
          (λ was. let w = r.whole key changed was in (w.0, (let lt : w.0 < length list = w.1 in omega arith), ap (λ (a : Change). a.key) (old w.0 w.1) ∙ w.2))
          (λ (e : key ≡ c.key). (length list, omega arith, ap (λ (a : Change). a.key) last ∙ sym e))
          (back key wants);
      once = λ k n up lt e. ⊎_elim
          (λ (early : n < length list).
          r.once k n up early (sym (ap (λ (a : Change). a.key) (old k (omega arith))) ∙ e ∙ ap (λ (a : Change). a.key) (old n early)))
          (λ (late : length list ≤ n).
          let low : k < length list = omega arith in
          let at : n ≡ length list = omega arith in
          let top : (change_at next n).key ≡ c.key = ap (λ (a : Change). a.key) (ap (change_at next) at ∙ last) in
          apart (subst p (sym (ap (λ (a : Change). a.key) (old k low)) ∙ e ∙ top) (r.among k low)))
          (cases_lt n (length list));
    }

-- one more link of the old net, which is changed
pub old-push : (g h : Graph) → IsNamed g → (l : ℕ) → l < link_count g → (list : List Change) (c : Change) → AreChangesAmong g h (IsKeyBelow g l) list → IsChange g h c → c.key ≡ key_at g l → AreChangesAmong g h (IsKeyBelow g (l + 1)) (list ++ c ∷ [])
old-push g h named l within list c r is key =
    among-push g h (IsKeyBelow g l) (IsKeyBelow g (l + 1)) list c r is
    (λ was. let lt : was.0 < l = was.1 in let e : was.0 ≡ l = key-one g named was.0 l (omega arith) within (was.2 ∙ key) in omega arith)
    (l, omega arith, sym key)
    (λ j was. (was.0, (let lt : was.0 < l = was.1 in omega arith), was.2))
    (λ j was. ⊎_elim
    (λ (e : was.0 ≡ l). inr (sym was.2 ∙ ap (key_at g) e ∙ sym key))
    (λ (ne : was.0 ≢ l). inl (was.0, (let lt : was.0 < l + 1 = was.1 in omega arith), was.2))
    (cases_eq was.0 l))

-- one more, which isn't
pub old-skip : (g h : Graph) (l : ℕ) (list : List Change) → AreChangesAmong g h (IsKeyBelow g l) list → (IsChanged g h (key_at g l) → ⊥) → AreChangesAmong g h (IsKeyBelow g (l + 1)) list
old-skip g h l list r same =
    among-as g h (IsKeyBelow g l) (IsKeyBelow g (l + 1)) list r
    (λ j changed was. (was.0, (let lt : was.0 < l = was.1 in omega arith), was.2))
    (λ j changed was. ⊎_elim
    (λ (e : was.0 ≡ l). absurd (same (subst (λ i. IsChanged g h i) (sym was.2 ∙ ap (key_at g) e) changed)))
    (λ (ne : was.0 ≢ l). (was.0, (let lt : was.0 < l + 1 = was.1 in omega arith), was.2))
    (cases_eq was.0 l))

-- before the first link of the new net
pub new-none : (g h : Graph) (list : List Change) → AreChangesAmong g h (HasLink g) list → AreChangesAmong g h (IsOldOrBelow g h 0) list
new-none g h list r =
    among-as g h (HasLink g) (IsOldOrBelow g h 0) list r
    (λ j changed was. inl was)
    (λ j changed was. ⊎_elim (λ has. has) (λ below. absurd (let lt : below.0 < 0 = below.1 in omega arith)) was)

below-up : (g h : Graph) (k : ℕ) (key : LinkKey) → IsOldOrBelow g h k key → IsOldOrBelow g h (k + 1) key
below-up g h k key was = ⊎_elim (λ has. inl has) (λ below. inr (below.0, (let lt : below.0 < k = below.1 in omega arith), below.2)) was

below-down : (g h : Graph) (k : ℕ) (key : LinkKey) → IsOldOrBelow g h (k + 1) key → IsOldOrBelow g h k key ⊎ (key ≡ key_at h k)
below-down g h k key was =
    ⊎_elim
    (λ has. inl (inl has))
    (λ below. ⊎_elim
    (λ (e : below.0 ≡ k). inr (sym below.2 ∙ ap (key_at h) e))
    (λ (ne : below.0 ≢ k). inl (inr (below.0, (let lt : below.0 < k + 1 = below.1 in omega arith), below.2)))
    (cases_eq below.0 k))
    was

-- one more link of the new net, which has arisen
pub new-push : (g h : Graph) → IsNamed h → (k : ℕ) → k < link_count h → (list : List Change) (c : Change) → AreChangesAmong g h (IsOldOrBelow g h k) list → (HasLink g (key_at h k) → ⊥) → IsChange g h c → c.key ≡ key_at h k → AreChangesAmong g h (IsOldOrBelow g h (k + 1)) (list ++ c ∷ [])
new-push g h named k within list c r arises is key =
    among-push g h (IsOldOrBelow g h k) (IsOldOrBelow g h (k + 1)) list c r is
    (λ was. ⊎_elim
    (λ has. arises (subst (λ j. HasLink g j) key has))
    (λ below. let lt : below.0 < k = below.1 in let e : below.0 ≡ k = key-one h named below.0 k (omega arith) within (below.2 ∙ key) in omega arith)
    was)
    (inr (k, omega arith, sym key))
    (λ j was. below-up g h k j was)
    (λ j was. ⊎_elim (λ low. inl low) (λ e. inr (e ∙ sym key)) (below-down g h k j was))

-- one more, which the old net has
pub new-skip : (g h : Graph) (k : ℕ) (list : List Change) → AreChangesAmong g h (IsOldOrBelow g h k) list → HasLink g (key_at h k) → AreChangesAmong g h (IsOldOrBelow g h (k + 1)) list
new-skip g h k list r has =
    among-as g h (IsOldOrBelow g h k) (IsOldOrBelow g h (k + 1)) list r
    (λ j changed was. below-up g h k j was)
    (λ j changed was. ⊎_elim (λ low. low) (λ e. inl (subst (λ i. HasLink g i) (sym e) has)) (below-down g h k j was))

-- all links of both nets are done
pub new-all : (g h : Graph) (list : List Change) → AreChangesAmong g h (IsOldOrBelow g h (link_count h)) list → AreChangedLinks g h list
new-all g h list r =
    among-as g h (IsOldOrBelow g h (link_count h)) (λ key. IsChanged g h key) list r
    (λ j changed was. changed)
    (λ j changed was. ⊎_elim
    (λ gone. inl gone.0)
    (λ rest. ⊎_elim (λ come. inr come.0) (λ both. inl (both.2.0, both.2.1, both.2.2)) rest)
    changed)
