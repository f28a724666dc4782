-- The least offer, link by link.
use Rattle.std.proofs.Common.{◌≡◌, ◌≢◌, ℕ, ◌+◌, ◌<◌, ◌≤◌, ◌⊎◌, ⊎_elim, inl, inr, Bool, List, refl, arith, sym, ◌∙◌, subst}
use Rattle.std.specs.Prelude.{slice_index, ◌↔◌, min}
use Rattle.std.proofs.lemmas.Bool.{cases_lt, cases_eq}
use Rattle.sr_model.specs.declared.link.LinkNo.{LinkNo}
use Rattle.sr_model.specs.declared.link.TheConstants.{FAR}
use Rattle.sr_model.specs.Graph.{Graph, link_count, head}
use Rattle.sr_graph.specs.Members.{number_at, IsInList, IsInRange}
use Rattle.sr_graph.specs.Ranges.{EndAt, HoldsLinks}
use Rattle.sr_cert.specs.Rows.{Heading, From, To}
use Rattle.sr_cert.specs.Settled.{base, Serves, offer_at, IsOffer, IsLeastOffer, Reaches, IsToldByLinks}

-- one of the first n listed links
abbrev pub IsInListBelow : List LinkNo → ℕ → ℕ → Type 0
IsInListBelow links n l = (i : ℕ) × (i < n) × (number_at links i ≡ l)

module _ (g : Graph) (x : List Bool) (h : Heading) (cells : List ℕ) where
  -- of no link there is no offer
  pub least-none : (F : ℕ → Type 0) → ((l : ℕ) → F l → ⊥) → IsLeastOffer g x h cells F FAR
  least-none F none = record { top = omega arith; least = λ l f s. absurd (none l f); met = λ lt. absurd (omega (arith, lt)) }

  -- with one link more, the lesser of the two
  pub least-more : (F G : ℕ → Type 0) (c l o m : ℕ) → IsLeastOffer g x h cells F c → IsOffer g x h cells l o → ((k : ℕ) → G k → F k ⊎ (k ≡ l)) → ((k : ℕ) → F k → G k) → G l → m ≡ min c o → IsLeastOffer g x h cells G m
  least-more F G c l o m a b split wider here is =
      let top : c ≤ FAR = a.top in
      let le : (m ≤ c) × (m ≤ o) = (omega (arith, is), omega (arith, is)) in
      record {
        top = omega (arith, le.0);
        least = λ k f s. ⊎_elim
            (λ (old : F k). let low : c ≤ offer_at g h cells k = a.least k old s in omega (arith, le.0))
            (λ (e : k ≡ l). let low : o ≤ offer_at g h cells l = b.least (subst (Serves g x h) e s) in rw e (omega (arith, le.1)))
            (split k f);
        met = λ lt. ⊎_elim
            (λ (first : c < o + 1).
            let same : c ≡ m = omega (arith, is) in
            let r = a.met (omega arith) in
            (r.0, wider r.0 r.1, r.2, r.3 ∙ same))
            (λ second.
            let same : o ≡ m = omega (arith, is) in
            let r = b.met (omega arith) in
            (l, here, r.0, r.1 ∙ same))
            (cases_lt c (o + 1));
      }

  -- of the same links that serve the least offer is the same
  pub least-same : (F G : ℕ → Type 0) (c : ℕ) → ((k : ℕ) → k < link_count g → F k → G k) → ((k : ℕ) → k < link_count g → G k → F k) → IsLeastOffer g x h cells F c → IsLeastOffer g x h cells G c
  least-same F G c to from a = record {
    top = a.top;
    least = λ l f s. a.least l (from l s.within f) s;
    met = λ lt. let r = a.met lt in (r.0, to r.0 r.2.within r.1, r.2, r.3);
  }

  least-under : (F : ℕ → Type 0) (a b : ℕ) → IsLeastOffer g x h cells F a → IsLeastOffer g x h cells F b → a ≤ b
  least-under F a b p q =
      ⊎_elim
      (λ near. let r = q.met near in let low : a ≤ offer_at g h cells r.0 = p.least r.0 r.1 r.2 in omega (arith, r.3))
      (λ far. let top : a ≤ FAR = p.top in omega arith)
      (cases_lt b FAR)

  -- there is one
  pub least-one : (F : ℕ → Type 0) (a b : ℕ) → IsLeastOffer g x h cells F a → IsLeastOffer g x h cells F b → a ≡ b
  least-one F a b p q =
      let le : a ≤ b = least-under F a b p q in
      let ge : b ≤ a = least-under F b a q p in
      omega arith

  -- so one more than n of the list
  pub listed-more : (links : List LinkNo) (n c o m : ℕ) → IsLeastOffer g x h cells (IsInListBelow links n) c → IsOffer g x h cells (number_at links n) o → m ≡ min c o → IsLeastOffer g x h cells (IsInListBelow links (n + 1)) m
  listed-more links n c o m a b is =
      least-more (IsInListBelow links n) (IsInListBelow links (n + 1)) c (number_at links n) o m a b
      (λ k r. ⊎_elim
      (λ (e : r.0 ≡ n). inr (subst (λ i. k ≡ number_at links i) e (sym r.2)))
      (λ (ne : r.0 ≢ n). inl (r.0, omega (arith, r.1), r.2))
      (cases_eq r.0 n))
      (λ k r. (r.0, omega (arith, r.1), r.2))
      (n, omega arith, refl)
      is

  pub range-more : (i j c o m : ℕ) → i ≤ j → IsLeastOffer g x h cells (IsInRange i j) c → IsOffer g x h cells j o → m ≡ min c o → IsLeastOffer g x h cells (IsInRange i (j + 1)) m
  range-more i j c o m le a b is =
      least-more (IsInRange i j) (IsInRange i (j + 1)) c j o m a b
      (λ k r. ⊎_elim (λ (e : k ≡ j). inr e) (λ (ne : k ≢ j). inl (r.0, omega (arith, r.1))) (cases_eq k j))
      (λ k r. (r.0, omega (arith, r.1)))
      (le, omega arith)
      is

-- the links that a walk from a node comes by are those that end there
pub least-to_node : (g : Graph) (x : List Bool) (u w : ℕ) (cells : List ℕ) (links : List LinkNo) (c : ℕ) → EndAt g w links → IsLeastOffer g x (From u) cells (IsInList links) c → IsLeastOffer g x (From u) cells (Reaches g (From u) w) c
least-to_node g x u w cells links c there a =
    least-same g x (From u) cells (IsInList links) (Reaches g (From u) w) c
    (λ k within r. subst (λ l. head g l ≡ w) r.2 (there.each r.0 r.1).1)
    (λ k within r. there.all k within r)
    a

-- those that a walk to a node goes on by are those that begin there
pub least-from_node : (g : Graph) (x : List Bool) (v w : ℕ) (cells : List ℕ) (i j : ℕ) (c : ℕ) → HoldsLinks g w i j → IsLeastOffer g x (To v) cells (IsInRange i j) c → IsLeastOffer g x (To v) cells (Reaches g (To v) w) c
least-from_node g x v w cells i j c there a =
    least-same g x (To v) cells (IsInRange i j) (Reaches g (To v) w) c
    (λ k within r. there.from k r.0 r.1)
    (λ k within r. there.to k within r)
    a

-- a cell of another node than the row's is settled where it is the least offer
pub settled-other : (g : Graph) (x : List Bool) (h : Heading) (cells : List ℕ) (w c : ℕ) → w ≢ base h → IsLeastOffer g x h cells (Reaches g h w) c → (slice_index cells w ≡ c) ↔ IsToldByLinks g x h cells w
settled-other g x h cells w c ne least = (
  λ e. inr (ne, rw e least),
  λ settled. ⊎_elim
      (λ own. absurd (ne own.0))
      (λ other. least-one g x h cells (Reaches g h w) (slice_index cells w) c other.1 least)
      settled,
)

pub settled-own : (g : Graph) (x : List Bool) (h : Heading) (cells : List ℕ) (w : ℕ) → w ≡ base h → (slice_index cells w ≡ 0) ↔ IsToldByLinks g x h cells w
settled-own g x h cells w is = (
  λ e. inl (is, e),
  λ settled. ⊎_elim (λ own. own.1) (λ other. absurd (other.0 is)) settled,
)
