-- The audits of the cases, joined in order.
use Rattle.std.proofs.Common.{◌≡◌, ℕ, zero, suc, ◌+◌, ◌*◌, ◌<◌, ◌≤◌, ◌⊎◌, inl, inr, ⊎_elim, List, [], ◌∷◌, ◌++◌, length, Some, slice_get, refl, sym, ◌∙◌, subst, arith, length-append, flat_map, vec_items}
use Rattle.std.specs.Global.{Vec}
use Rattle.std.proofs.lemmas.Bool.{cases_lt}
use Rattle.sr_model.specs.declared.case.Case.{Case}
use Rattle.sr_model.specs.declared.case.Kind.{Kind}
use Rattle.sr_model.specs.declared.case.Kind.TheVariants.{Link as LinkKind, Node as NodeKind, Risk as RiskKind}
use Rattle.sr_model.specs.declared.audit.Item.{Item}
use Rattle.sr_model.specs.Graph.{Graph, link_count}
use Rattle.sr_model.specs.Label.{Net}
use Rattle.sr_model.specs.Case.{IsCase, IsAffected}
use Rattle.sr_model.specs.Audit.{rank_of, CaseLt, ItemLt, IsItem, IsAudit}
use Rattle.sr_repair.specs.Answers.{place_of, case_count}
use Rattle.sr_repair.proofs.PlaceLemmas.{place-one}
use Rattle.sr_audit.specs.Cases.{HasItem, AreBetween, IsAuditAt, AreAuditsAt}
use Rattle.sr_audit.proofs.AppendLemmas.{IsIn, get-append}
use Rattle.sr_seq.proofs.ListLemmas.{get-left, get-right}

-- of two ranks and numbers below k, what stands at the lower place has the lower rank, or the same and the lower number
rank-lt : (k : ℕ) (a b : Kind) (i j : ℕ) → i < k → j < k → rank_of a * k + i < rank_of b * k + j → (rank_of a < rank_of b) ⊎ ((a ≡ b) × (i < j))
rank-lt k LinkKind LinkKind i j li lj lt = inr (refl, omega arith)
rank-lt k LinkKind NodeKind i j li lj lt = inl (omega arith)
rank-lt k LinkKind RiskKind i j li lj lt = inl (omega arith)
rank-lt k NodeKind LinkKind i j li lj lt = absurd (omega arith)
rank-lt k NodeKind NodeKind i j li lj lt = inr (refl, omega arith)
rank-lt k NodeKind RiskKind i j li lj lt = inl (omega arith)
rank-lt k RiskKind LinkKind i j li lj lt = absurd (omega arith)
rank-lt k RiskKind NodeKind i j li lj lt = absurd (omega arith)
rank-lt k RiskKind RiskKind i j li lj lt = inr (refl, omega arith)

-- a rank and a number below k stand below 3 * k
rank-within : (k : ℕ) (a : Kind) (i : ℕ) → i < k → rank_of a * k + i < 3 * k
rank-within k LinkKind i lt = omega arith
rank-within k NodeKind i lt = omega arith
rank-within k RiskKind i lt = omega arith

-- of two cases the one at the lower place comes first
place-lt : (g : Graph) (a b : Case) → IsCase g a → IsCase g b → place_of g a < place_of g b → CaseLt a b
place-lt g a b p q lt = rank-lt (link_count g) a.kind b.kind a.link.0 b.link.0 p q lt

-- the place of an item of the case at place m
place-is : (n : Net) (m : ℕ) (list : List Item) (at : IsAuditAt n m list) (k : ℕ) (item : Item) → slice_get list k ≡ Some item → place_of n.graph item.case ≡ m
place-is n m list at k item e = subst (λ c. place_of n.graph c ≡ m) (sym (at.audit.each k item e).1) at.place_is

-- no items are the audit of no cases
pub between-none : (n : Net) (m : ℕ) → AreBetween n m m []
between-none n m = record {
  each = λ i item e. absurd (cc);
  ascending = λ i j a b lt ea eb. absurd (cc);
  all = λ case d within above below affected. absurd (omega arith);
}

-- what the case at place m affects is there
has-own : (n : Net) (m : ℕ) (list : List Item) → IsAuditAt n m list → (case : Case) (d : ℕ) → IsCase n.graph case → place_of n.graph case ≡ m → IsAffected n case d → HasItem list case d
has-own n m list at case d within place affected =
    let same : case ≡ at.case = place-one n.graph case at.case within at.within (place ∙ sym at.place_is) in
    let h = at.audit.all d (subst (λ c. IsAffected n c d) same affected) in
    (h.0, h.1, h.2, (at.audit.each h.0 h.1 h.2).1 ∙ sym same, h.3)

-- the audit of the case at place m is that of the cases from m on, before m + 1
pub between-case : (n : Net) (m : ℕ) (list : List Item) → IsAuditAt n m list → AreBetween n m (m + 1) list
between-case n m list at = record {
  each = λ i item e. let place = place-is n m list at i item e in ((at.audit.each i item e).0, omega (arith, place), omega (arith, place));
  ascending = λ i j a b lt ea eb. inr ((at.audit.each i a ea).1 ∙ sym (at.audit.each j b eb).1, at.audit.ascending i j a b lt ea eb);
  all = λ case d within above below affected. has-own n m list at case d within (omega (arith, above, below)) affected;
}

module _ (n : Net) (m k l : ℕ) (items more : List Item) (up : m ≤ k) (on : k ≤ l) (r : AreBetween n m k items) (next : AreBetween n k l more) where
  -- each item of either list is of one of the cases
  each-both : (i : ℕ) (item : Item) → IsIn items more i item → IsItem n item × (m ≤ place_of n.graph item.case) × (place_of n.graph item.case < l)
  each-both i item (inl h) = let one = r.each i item h.1 in (one.0, one.1, omega (arith, one.2))
  each-both i item (inr h) = let one = next.each h.0 item h.2 in (one.0, omega (arith, one.1), one.2)

  -- an item of the first list comes before one of the second
  before-next : (i j : ℕ) (a b : Item) → slice_get items i ≡ Some a → slice_get more j ≡ Some b → ItemLt a b
  before-next i j a b ea eb =
      let one = r.each i a ea in
      let two = next.each j b eb in
      inl (place-lt n.graph a.case b.case one.0.within two.0.within (omega (arith, one.2, two.1)))

  -- the items of both lists ascend
  ascending-both : (i j : ℕ) (a b : Item) → i < j → IsIn items more i a → IsIn items more j b → ItemLt a b
  ascending-both i j a b lt (inl h) (inl h') = r.ascending i j a b lt h.1 h'.1
  ascending-both i j a b lt (inl h) (inr h') = before-next i h'.0 a b h.1 h'.2
  ascending-both i j a b lt (inr h) (inl h') = absurd (omega (arith, h.1, h'.0))
  ascending-both i j a b lt (inr h) (inr h') = next.ascending h.0 h'.0 a b (omega (arith, h.1, h'.1)) h.2 h'.2

  -- what the first list has
  has-left : (case : Case) (d : ℕ) → HasItem items case d → HasItem (items ++ more) case d
  has-left case d h = (h.0, h.1, get-left items more h.0 h.1 h.2, h.3, h.4)

  -- what the second list has
  has-right : (case : Case) (d : ℕ) → HasItem more case d → HasItem (items ++ more) case d
  has-right case d h = (length items + h.0, h.1, get-right items more h.0 (length items + h.0) h.1 refl h.2, h.3, h.4)

  -- the cases up to a place, and those from there on
  pub between-append : AreBetween n m l (items ++ more)
  between-append = record {
    each = λ i item e. each-both i item (get-append items more i item e);
    ascending = λ i j a b lt ea eb. ascending-both i j a b lt (get-append items more i a ea) (get-append items more j b eb);
    all = λ case d within above below affected. ⊎_elim
        (λ (early : place_of n.graph case < k). has-left case d (r.all case d within above early affected))
        (λ (late : k ≤ place_of n.graph case). has-right case d (next.all case d within late below affected))
        (cases_lt (place_of n.graph case) k);
  }

-- the items of one case more
pub between-more : (n : Net) (m k : ℕ) (items list : List Item) → m ≤ k → AreBetween n m k items → IsAuditAt n k list → AreBetween n m (k + 1) (items ++ list)
between-more n m k items list up r at = between-append n m k (k + 1) items list up (omega arith) r (between-case n k list at)

-- the items of k cases
between-lists : (n : Net) (m k p : ℕ) (lists : List (Vec Item)) → m + k ≡ p → AreAuditsAt n m k lists → AreBetween n m p (flat_map vec_items lists)
between-lists n m zero p [] e zip = let here : m ≡ p = omega (arith, e) in subst (λ q. AreBetween n m q []) here (between-none n m)
between-lists n m zero p (list ∷ lists) e zip = absurd zip
between-lists n m (suc k) p [] e zip = absurd zip
between-lists n m (suc k) p (list ∷ lists) e zip =
    let more = between-lists n (m + 1) k p lists (omega (arith, e)) zip.1 in
    between-append n m (m + 1) p list.items (flat_map vec_items lists) (omega arith) (omega (arith, e)) (between-case n m list.items zip.0) more

-- the audit of the cases at all places is the audit
pub between-audit : (n : Net) (items : List Item) → AreBetween n 0 (case_count n.graph) items → IsAudit n items
between-audit n items r = record {
  each = λ i item e. (r.each i item e).0;
  ascending = r.ascending;
  all = λ case d within affected. r.all case d within (omega arith) (rank-within (link_count n.graph) case.kind case.link.0 within) affected;
}

-- the joined lists of all cases are the audit
pub audit-joined : (n : Net) (lists : List (Vec Item)) → AreAuditsAt n 0 (case_count n.graph) lists → IsAudit n (flat_map vec_items lists)
audit-joined n lists zip = between-audit n (flat_map vec_items lists) (between-lists n 0 (case_count n.graph) (case_count n.graph) lists (omega arith) zip)

-- the lists of k cases have few items
pub few-joined : (n : Net) (m k : ℕ) (lists : List (Vec Item)) → AreAuditsAt n m k lists → length (flat_map vec_items lists) ≤ k * 256
few-joined n m zero [] zip = omega arith
few-joined n m zero (list ∷ lists) zip = absurd zip
few-joined n m (suc k) [] zip = absurd zip
few-joined n m (suc k) (list ∷ lists) zip = omega (arith, length-append list.items (flat_map vec_items lists), zip.0.few, few-joined n (m + 1) k lists zip.1)
