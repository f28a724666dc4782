-- Groups that two lists share, and the links that fail.
use Rattle.std.proofs.Common.{◌≡◌, ◌≢◌, ◌↔◌, ℕ, ◌+◌, ◌<◌, ◌≤◌, ◌⊎◌, inl, inr, ⊎_elim, Bool, true, false, List, length, set, replicate, refl, arith, ap, sym, ◌∙◌, subst, Err}
use Rattle.std.specs.Prelude.{Contains}
use Rattle.std.specs.declared.cmp.Ordering.TheVariants.{Less, Equal}
use Rattle.std.specs.Ordering.{nat_cmp}
use Rattle.std.specs.List.Sorted.{IsStrictlyIncreasing, IsBinarySearchResult}
use Rattle.std.proofs.lemmas.Bool.{cases_eq, cases_lt}
use Rattle.std.proofs.lemmas.List.{get_or_default, length-replicate}
use Rattle.sr_model.specs.declared.case.Case.{Case}
use Rattle.sr_model.specs.declared.case.Kind.{Kind}
use Rattle.sr_model.specs.declared.case.Kind.TheVariants.{Link as LinkKind, Node as NodeKind, Risk as RiskKind}
use Rattle.sr_model.specs.declared.link.LinkNo.{LinkNo}
use Rattle.sr_model.specs.declared.name.LinkKey.{LinkKey}
use Rattle.sr_model.specs.Key.{KeyLt, mirror}
use Rattle.sr_model.specs.Graph.{Graph, link_count, tail, head, has, groups_at, IsNamed}
use Rattle.sr_model.specs.Case.{key_at, Touches, ShareGroup, IsFailedSet, FailsWith}
use Rattle.sr_model.proofs.KeyOrderLemmas.{key_cmp-lt, key_cmp-same}
use Rattle.sr_graph.specs.Failed.{HaveCommon}
use Rattle.sr_graph.specs.Members.{number_at, IsInList, IsInRange, IsWidened}
use Rattle.sr_graph.specs.Ranges.{HoldsLinks, EndAt}
use Rattle.sr_graph.proofs.MemberLemmas.{widened-as, widened-then, widened-one, widened-empty}
use Rattle.sr_graph.proofs.NumbersLemmas.{nowhere}

-- a search that found nothing
pub not_in : (xs : List ℕ) (x i : ℕ) → IsStrictlyIncreasing xs → IsBinarySearchResult (λ y. nat_cmp y x) xs (Err i) → Contains xs x → ⊥
not_in xs x i up is held = nowhere xs x i up is held.0 held.1 (get_or_default xs held.0 0 x held.1 ∙ held.2)

-- an empty list shares nothing
no_common : (one other : List ℕ) → length other ≡ 0 → HaveCommon one other → ⊥
no_common one other none common =
    let some : common.2.0 < length other = common.2.1 in
    omega arith

-- no key is below one that is the same
unlike : (a b : LinkKey) → a ≡ b → KeyLt a b → ⊥
unlike a b same low = absurd (let bad : Less ≡ Equal = sym (key_cmp-lt a b low) ∙ key_cmp-same a b same in cc)

module _ (g : Graph) (p : LinkNo) where
  -- the case of this kind that protects the link
  abbrev pub case_of : Kind → Case
  case_of kind = record { kind = kind; link = p }

  -- the links that were added to the empty set are those that fail
  pub failed-from_widened : (kind : Kind) (n : ℕ) (Fact : ℕ → Type 0) (x : List Bool) → n ≡ link_count g → IsWidened (replicate n false) Fact x → ((l : ℕ) → l < link_count g → Fact l ↔ FailsWith g kind p.0 l) → IsFailedSet g (case_of kind) x
  failed-from_widened kind n Fact x count k same = record {
    long = k.long ∙ length-replicate n false ∙ count;
    each = λ l lt.
        let at : (has x l ≡ true) ↔ Fact l = widened-empty n Fact x k l (omega arith) in
        (λ is. (same l lt).0 (at.0 is), λ fails. at.1 ((same l lt).1 fails));
  }

  -- links that fail in a case of another kind are added
  pub failed-widened : (kind other : Kind) (Fact : ℕ → Type 0) (x y : List Bool) → IsFailedSet g (case_of kind) x → IsWidened x Fact y → ((l : ℕ) → l < link_count g → (FailsWith g kind p.0 l ⊎ Fact l) ↔ FailsWith g other p.0 l) → IsFailedSet g (case_of other) y
  failed-widened kind other Fact x y failed k same = record {
    long = k.long ∙ failed.long;
    each = λ l lt.
        let at : (has y l ≡ true) ↔ ((has x l ≡ true) ⊎ Fact l) = k.each l (omega (arith, failed.long)) in (
          λ is. (same l lt).0 (⊎_elim (λ old. inl ((failed.each l lt).0 old)) (λ fact. inr fact) (at.0 is)),
          λ fails. at.1 (⊎_elim (λ old. inl ((failed.each l lt).1 old)) (λ fact. inr fact) ((same l lt).1 fails)),
        );
  }

  -- the pair: the link, and the opposite one where there is one
  module _ (named : IsNamed g) (within : p.0 < link_count g) where
    only : (k l : ℕ) → k < link_count g → l < link_count g → key_at g k ≡ key_at g l → k ≡ l
    only k l in_k in_l same =
        ⊎_elim
        (λ (lt : k < l). absurd (unlike (key_at g k) (key_at g l) same (named.keys k l lt in_l)))
        (λ (ge : l ≤ k). ⊎_elim
        (λ (gt : l < k). absurd (unlike (key_at g l) (key_at g k) (sym same) (named.keys l k gt in_k)))
        (λ (le : k ≤ l). omega arith)
        (cases_lt l k))
        (cases_lt k l)

    pub failed-pair : (o : LinkNo) (n : ℕ) (x y : List Bool) → n ≡ link_count g → o.0 < link_count g → key_at g o.0 ≡ mirror (key_at g p.0) → x ≡ set (replicate n false) p.0 true → y ≡ set x o.0 true → IsFailedSet g (case_of LinkKind) y
    failed-pair o n x y count inside opposite is is' =
        let first : IsWidened (replicate n false) (λ l. l ≡ p.0) x = rw is (widened-one (replicate n false) p.0 (omega (arith, length-replicate n false))) in
        let second : IsWidened x (λ l. l ≡ o.0) y = rw is' (widened-one x o.0 (omega (arith, first.long, length-replicate n false))) in
        failed-from_widened LinkKind n (λ l. (l ≡ p.0) ⊎ (l ≡ o.0)) y count (widened-then (replicate n false) x y (λ l. l ≡ p.0) (λ l. l ≡ o.0) first second) (λ l lt. (
          λ either. ⊎_elim (λ (e : l ≡ p.0). inl (ap (key_at g) e)) (λ (e : l ≡ o.0). inr (ap (key_at g) e ∙ opposite)) either,
          λ fails. ⊎_elim (λ same. inl (only l p.0 lt within same)) (λ mirrored. inr (only l o.0 lt inside (mirrored ∙ sym opposite))) fails,
        ))

    pub failed-alone : (n : ℕ) (x : List Bool) → n ≡ link_count g → ((l : ℕ) → l < link_count g → key_at g l ≢ mirror (key_at g p.0)) → x ≡ set (replicate n false) p.0 true → IsFailedSet g (case_of LinkKind) x
    failed-alone n x count none is =
        failed-from_widened LinkKind n (λ l. l ≡ p.0) x count (rw is (widened-one (replicate n false) p.0 (omega (arith, length-replicate n false)))) (λ l lt. (
          λ e. inl (ap (key_at g) e),
          λ fails. ⊎_elim (λ same. only l p.0 lt within same) (λ mirrored. absurd (none l lt mirrored)) fails,
        ))

  -- the links that begin at a node, and those that end there, are all that touch it
  touches-either : (v i j : ℕ) (links : List LinkNo) → HoldsLinks g v i j → EndAt g v links → (l : ℕ) → l < link_count g → (IsInRange i j l ⊎ IsInList links l) ↔ Touches g l v
  touches-either v i j links holds ending l lt = (
    λ either. ⊎_elim
        (λ within. inl (holds.from l within.0 within.1))
        (λ listed. inr (sym (ap (head g) listed.2) ∙ (ending.each listed.0 listed.1).1))
        either,
    λ touches. ⊎_elim (λ begins. inl (holds.to l lt begins)) (λ ends. inr (ending.all l lt ends)) touches,
  )

  pub failed-node : (v i j n : ℕ) (links : List LinkNo) (x y : List Bool) → v ≡ head g p.0 → HoldsLinks g v i j → EndAt g v links → n ≡ link_count g → IsWidened (replicate n false) (IsInRange i j) x → IsWidened x (IsInList links) y → IsFailedSet g (case_of NodeKind) y
  failed-node v i j n links x y e holds ending count first second =
      failed-from_widened NodeKind n (λ l. IsInRange i j l ⊎ IsInList links l) y count (widened-then (replicate n false) x y (IsInRange i j) (IsInList links) first second)
      (λ l lt. let P : ℕ → Type 0 = λ w. (IsInRange i j l ⊎ IsInList links l) ↔ Touches g l w in subst P e (touches-either v i j links holds ending l lt))

  -- the link has an end at the node, and shares a group
  pub failed-risk : (v i j : ℕ) (links : List LinkNo) (x y z : List Bool) → v ≡ tail g p.0 → HoldsLinks g v i j → EndAt g v links → IsFailedSet g (case_of LinkKind) x
      → IsWidened x (λ l. IsInRange i j l × ShareGroup g l p.0) y → IsWidened y (λ l. IsInList links l × ShareGroup g l p.0) z → IsFailedSet g (case_of RiskKind) z
  failed-risk v i j links x y z e holds ending failed first second =
      let Begins : ℕ → Type 0 = λ l. IsInRange i j l × ShareGroup g l p.0 in
      let Ends : ℕ → Type 0 = λ l. IsInList links l × ShareGroup g l p.0 in
      failed-widened LinkKind RiskKind (λ l. Begins l ⊎ Ends l) x z failed (widened-then x y z Begins Ends first second) (λ l lt.
      let touch : (IsInRange i j l ⊎ IsInList links l) ↔ Touches g l v = touches-either v i j links holds ending l lt in
      let Q : ℕ → Type 0 = λ w. Touches g l w in (
        λ either. ⊎_elim (λ pair. inl pair) (λ new. inr (⊎_elim
            (λ begins. (subst Q e (touch.0 (inl begins.0)), begins.1))
            (λ ends. (subst Q e (touch.0 (inr ends.0)), ends.1))
            new)) either,
        λ fails. ⊎_elim (λ pair. inl pair) (λ risk. inr (⊎_elim
            (λ begins. inl (begins, risk.1))
            (λ ends. inr (ends, risk.1))
            (touch.1 (subst Q (sym e) risk.0)))) fails,
      ))

  -- where the protected link has no group, no link shares one with it
  pub failed-no_group : (x : List Bool) → length (groups_at g p.0) ≡ 0 → IsFailedSet g (case_of LinkKind) x → IsFailedSet g (case_of RiskKind) x
  failed-no_group x none failed = record {
    long = failed.long;
    each = λ l lt. (
      λ is. inl ((failed.each l lt).0 is),
      λ fails. ⊎_elim
          (λ pair. (failed.each l lt).1 pair)
          (λ risk. absurd (no_common (groups_at g l) (groups_at g p.0) none risk.1))
          fails,
    );
  }

-- of the first i listed links, those that share a group with link p
abbrev pub Sharing : Graph → ℕ → List LinkNo → ℕ → ℕ → Type 0
Sharing g p links i n = ((k : ℕ) × (k < i) × (number_at links k ≡ n)) × ShareGroup g n p

module _ (g : Graph) (p : ℕ) (links : List LinkNo) (i : ℕ) where
  later : (n : ℕ) → Sharing g p links i n → Sharing g p links (i + 1) n
  later n s = ((s.0.0, omega (arith, s.0.1), s.0.2), s.1)

  -- one listed link more
  pub sharing-more : (before set' : List Bool) → number_at links i < length before → ShareGroup g (number_at links i) p → IsWidened before (Sharing g p links i) set' → IsWidened before (Sharing g p links (i + 1)) (set set' (number_at links i) true)
  sharing-more before set' within shared k =
      let one : IsWidened set' (λ n. n ≡ number_at links i) (set set' (number_at links i) true) = widened-one set' (number_at links i) (omega (arith, k.long)) in
      widened-as before (set set' (number_at links i) true) (λ n. Sharing g p links i n ⊎ (n ≡ number_at links i)) (Sharing g p links (i + 1)) (widened-then before set' (set set' (number_at links i) true) (Sharing g p links i) (λ n. n ≡ number_at links i) k one) (λ n lt. (
        λ either. ⊎_elim
            (λ s. later n s)
            (λ (e : n ≡ number_at links i). let P : ℕ → Type 0 = λ m. Sharing g p links (i + 1) m in subst P (sym e) ((i, omega arith, refl), shared))
            either,
        λ s. ⊎_elim
            (λ (e : s.0.0 ≡ i). inr (sym s.0.2 ∙ ap (number_at links) e))
            (λ (ne : s.0.0 ≢ i). inl ((s.0.0, omega (arith, s.0.1), s.0.2), s.1))
            (cases_eq s.0.0 i),
      ))

  -- one listed link more, which shares none
  pub sharing-skip : (before set' : List Bool) → (ShareGroup g (number_at links i) p → ⊥) → IsWidened before (Sharing g p links i) set' → IsWidened before (Sharing g p links (i + 1)) set'
  sharing-skip before set' apart k =
      widened-as before set' (Sharing g p links i) (Sharing g p links (i + 1)) k (λ n lt. (
        λ s. later n s,
        λ s. ⊎_elim
            (λ (e : s.0.0 ≡ i). let P : ℕ → Type 0 = λ m. ShareGroup g m p in absurd (apart (subst P (sym s.0.2 ∙ ap (number_at links) e) s.1)))
            (λ (ne : s.0.0 ≢ i). ((s.0.0, omega (arith, s.0.1), s.0.2), s.1))
            (cases_eq s.0.0 i),
      ))
