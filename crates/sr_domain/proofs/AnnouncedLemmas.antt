-- What keys there are of announcements, and what a filter by keys keeps.
use Rattle.std.proofs.Common.{◌≡◌, ℕ, ◌+◌, ◌<◌, Bool, true, false, cond, List, [], ◌∷◌, ◌++◌, length, get_or, take, refl, ap, sym, ◌∙◌, append_assoc}
use Rattle.std.specs.List.{filter, list_any}
use Rattle.std.specs.List.Sorted.{IsStrictlySortedBy}
use Rattle.std.proofs.Common.{◌||◌, append-nil}
use Rattle.std.proofs.lemmas.Cmp.{eq_by_cmp_equiv}
use Rattle.std.proofs.lemmas.List.{take_more}
use Rattle.std.proofs.lemmas.List.Folds.{list_any-append}
use Rattle.std.proofs.lemmas.List.Elements.{filter_more}
use Rattle.sr_model.specs.declared.name.LinkKey.{LinkKey}
use Rattle.sr_model.proofs.KeyOrderLemmas.{key_total}
use Rattle.sr_lsdb.specs.declared.announcement.Announcement.{Announcement}
use Rattle.sr_model.specs.KeyOrder.{key_cmp, same_key}
use Rattle.sr_domain.specs.Announced.{AreKeysOf}

or_last : (e b : Bool) → cond e true b ≡ (b || (e || false))
or_last true true = refl
or_last true false = refl
or_last false true = refl
or_last false false = refl

pub keys-more : (anns : List Announcement) (a : Announcement) (keys keys' : List LinkKey) → AreKeysOf anns keys → IsStrictlySortedBy key_cmp keys' → ((q : LinkKey) → list_any (same_key q) keys' ≡ cond (same_key a.key q) true (list_any (same_key q) keys)) → AreKeysOf (anns ++ a ∷ []) keys'
keys-more anns a keys keys' are ascending updates = record {
  ascending = ascending;
  each = λ k.
      updates k
      ∙ or_last (same_key a.key k) (list_any (same_key k) keys)
      ∙ ap (λ e. list_any (same_key k) keys || (e || false)) ((eq_by_cmp_equiv key_total).symm a.key k)
      ∙ ap (λ b. b || (same_key k a.key || false)) (are.each k)
      ∙ sym (list_any-append (λ (b : Announcement). same_key k b.key) anns (a ∷ []));
}

pub keys-step : (anns : List Announcement) (i : ℕ) (d : Announcement) (keys keys' : List LinkKey) → i < length anns → AreKeysOf (take i anns) keys → IsStrictlySortedBy key_cmp keys' → ((q : LinkKey) → list_any (same_key q) keys' ≡ cond (same_key (get_or anns i d).key q) true (list_any (same_key q) keys)) → AreKeysOf (take (i + 1) anns) keys'
keys-step anns i d keys keys' within are ascending updates = rw (take_more anns i d within) (keys-more (take i anns) (get_or anns i d) keys keys' are ascending updates)

-- a filter as far as a loop has come
pub filter-kept : {X : Type 0} (p : X → Bool) (xs : List X) (i : ℕ) (d : X) → i < length xs → p (get_or xs i d) ≡ true → filter p (take (i + 1) xs) ≡ filter p (take i xs) ++ get_or xs i d ∷ []
filter-kept p xs i d within e = filter_more p xs i d within ∙ ap (λ b. filter p (take i xs) ++ cond b (get_or xs i d ∷ []) []) e

pub filter-dropped : {X : Type 0} (p : X → Bool) (xs : List X) (i : ℕ) (d : X) → i < length xs → p (get_or xs i d) ≡ false → filter p (take (i + 1) xs) ≡ filter p (take i xs)
filter-dropped p xs i d within e = filter_more p xs i d within ∙ ap (λ b. filter p (take i xs) ++ cond b (get_or xs i d ∷ []) []) e ∙ append-nil (filter p (take i xs))

-- a push that follows a list
pub pushed : {X : Type 0} (out : List X) (y : X) (out' before now' : List X) → out' ≡ out ++ y ∷ [] → out ≡ before → now' ≡ before ++ y ∷ [] → out' ≡ now'
pushed out y out' before now' e f g = e ∙ ap (λ l. l ++ y ∷ []) f ∙ sym g

pub pushed-after : {X : Type 0} (first out : List X) (y : X) (out' before now' : List X) → out' ≡ out ++ y ∷ [] → out ≡ first ++ before → now' ≡ before ++ y ∷ [] → out' ≡ first ++ now'
pushed-after first out y out' before now' e f g = e ∙ ap (λ l. l ++ y ∷ []) f ∙ append_assoc first before (y ∷ []) ∙ ap (λ l. first ++ l) (sym g)

-- the same steps, of the element as the loop names it
pub keys-next : (anns : List Announcement) (i : ℕ) (a : Announcement) (keys keys' : List LinkKey) → i < length anns → get_or anns i a ≡ a → AreKeysOf (take i anns) keys → IsStrictlySortedBy key_cmp keys' → ((q : LinkKey) → list_any (same_key q) keys' ≡ cond (same_key a.key q) true (list_any (same_key q) keys)) → AreKeysOf (take (i + 1) anns) keys'
keys-next anns i a keys keys' within is are ascending updates = keys-step anns i a keys keys' within are ascending (λ q. updates q ∙ ap (λ (b : Announcement). cond (same_key b.key q) true (list_any (same_key q) keys)) (sym is))

pub filter-kept_at : {X : Type 0} (p : X → Bool) (xs : List X) (i : ℕ) (x : X) → i < length xs → get_or xs i x ≡ x → p x ≡ true → filter p (take (i + 1) xs) ≡ filter p (take i xs) ++ x ∷ []
filter-kept_at p xs i x within is e = filter-kept p xs i x within (ap p is ∙ e) ∙ ap (λ y. filter p (take i xs) ++ y ∷ []) is

pub filter-dropped_at : {X : Type 0} (p : X → Bool) (xs : List X) (i : ℕ) (x : X) → i < length xs → get_or xs i x ≡ x → p x ≡ false → filter p (take (i + 1) xs) ≡ filter p (take i xs)
filter-dropped_at p xs i x within is e = filter-dropped p xs i x within (ap p is ∙ e)
