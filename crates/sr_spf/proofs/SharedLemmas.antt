-- Lists as they are renewed place by place.
use Rattle.std.proofs.Common.{◌≡◌, ◌≢◌, ◌<◌, ⊎_elim, List, [], ◌∷◌, ◌++◌, append_assoc, length, Option, Some, None, refl, arith, ap, sym, ◌∙◌, subst}
use Rattle.std.specs.Prelude.{slice_index_or, unwrap_or}
use Rattle.std.proofs.lemmas.Bool.{cases_eq}
use Rattle.std.proofs.lemmas.List.{length_push, get_or_push, get_or_append_left}
use Rattle.sr_spf.specs.Renewed.{AreRenewed, SharesNext}

-- one item more
renewed-more : {X : Type 0} (old : List X) (done : List (Option X)) (o : Option X) (s : List X) (x : X) → AreRenewed old done s → ((d : X) → x ≡ unwrap_or o (slice_index_or old (length s) d)) → AreRenewed old (done ++ o ∷ []) (s ++ x ∷ [])
renewed-more old done o s x r is = record {
  long = omega (arith, length_push s x, length_push done o, r.long);
  each = λ i d lt. ⊎_elim
      (λ (e : i ≡ length done).
      let here : slice_index_or (s ++ x ∷ []) i d ≡ x = get_or_push s x d i (r.long ∙ sym e) in
      let test : slice_index_or (done ++ o ∷ []) i None ≡ o = get_or_push done o None i (sym e) in
      here ∙ is d ∙ ap (λ k. unwrap_or o (slice_index_or old k d)) (r.long ∙ sym e) ∙ ap (λ p. unwrap_or p (slice_index_or old i d)) (sym test))
      (λ (ne : i ≢ length done).
      let low : i < length done = omega (arith, length_push done o) in
      get_or_append_left s (x ∷ []) d i (omega (arith, r.long)) ∙ r.each i d low ∙ ap (λ p. unwrap_or p (slice_index_or old i d)) (sym (get_or_append_left done (o ∷ []) None i low)))
      (cases_eq i (length done));
}

-- the items are renewed up to those of which what was found is still to come
pub record AreRenewedUpTo {X : Type 0} (old : List X) (found rest : List (Option X)) (items : List X) : Type 0 where
  pub done : List (Option X)
  pub joined : done ++ rest ≡ found
  pub made : AreRenewed old done items

-- an item that was found
pub renewed-found : {X : Type 0} (old : List X) (found rest : List (Option X)) (s : List X) (x : X) → AreRenewedUpTo old found (Some x ∷ rest) s → AreRenewedUpTo old found rest (s ++ x ∷ [])
renewed-found old found rest s x r = record {
  done = r.done ++ Some x ∷ [];
  joined = append_assoc r.done (Some x ∷ []) rest ∙ r.joined;
  made = renewed-more old r.done (Some x) s x r.made (λ d. refl);
}

-- an old item
pub renewed-shared : {X : Type 0} (old : List X) (found rest : List (Option X)) (s t : List X) → AreRenewedUpTo old found (None ∷ rest) s → SharesNext old s t → AreRenewedUpTo old found rest t
renewed-shared old found rest s t r next =
    subst (λ k. AreRenewedUpTo old found rest k) (sym next.joined) (record {
      done = r.done ++ None ∷ [];
      joined = append_assoc r.done (None ∷ []) rest ∙ r.joined;
      made = renewed-more old r.done None s next.item r.made (λ d. sym (next.is d));
    })
