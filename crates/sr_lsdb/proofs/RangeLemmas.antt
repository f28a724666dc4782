-- An edit in range keeps the facts in range, and live PDUs stay under their own ids.
use Rattle.std.proofs.Common.{◌≡◌, List, [], ◌∷◌, All, Bool, true, false, cond, refl, sym, subst, if◌then◌else◌, ◌==◌}
use Rattle.std.specs.Prelude.{IfSome, Some, None}
use Rattle.std.specs.declared.cmp.Ordering.{Ordering}
use Rattle.std.specs.declared.cmp.Ordering.TheVariants.{Less, Equal, Greater}
use Rattle.std.specs.Ordering.{match_ordering}
use Rattle.std.specs.BTreeMap.{insert_entry, is_at}
use Rattle.std.specs.Map.{lookup, remove_entry}
use Rattle.std.proofs.lemmas.List.{map-id}
use Rattle.std.proofs.lemmas.List.Elements.{All-cons, All-head, All-nil, All-tail}
use Rattle.std.proofs.lemmas.Map.Lookups.{CmpEqualImpliesEq}
use Rattle.std.proofs.lemmas.Map.Views.{All-map-remove_entry, tells_apart}
use Rattle.sr_lsp.specs.declared.lsp.LspId.{LspId}
use Rattle.sr_lsp.specs.declared.lsp.Lsp.{Lsp}
use Rattle.sr_lsp.specs.InRange.{FitsLsp}
use Rattle.sr_lsdb.specs.declared.facts.Facts.{Facts}
use Rattle.sr_lsdb.specs.declared.facts.Stored.{Stored}
use Rattle.sr_lsdb.specs.Edit.{Edit, IsEditInRange, apply}
use Rattle.sr_lsdb.specs.Edit.Edit.{Announce, SetCost, TakeDown, BringUp, SetDepth}
use Rattle.sr_lsdb.specs.Facts.{AreInRange, IsCost, IsStoredWell, StandsUnderItsId, stored_of}
use Rattle.sr_lsdb.specs.Order.{id_cmp}
use Rattle.sr_lsdb.proofs.OrderLemmas.{id_exact, key_exact}

pick : {X : Type 0} (P : X → Type 0) (r : Ordering) (xs ys zs : List X) → All P xs → (r ≡ Equal → All P ys) → All P zs → All P (match_ordering r xs ys zs)
pick P Less xs ys zs less equal greater = less
pick P Equal xs ys zs less equal greater = equal refl
pick P Greater xs ys zs less equal greater = greater

pub All-insert_entry : {K X : Type 0} {cmp : K → K → Ordering} → CmpEqualImpliesEq cmp → (P : K × X → Type 0) (es : List (K × X)) (k : K) (v : X) → All P es → P (k, v) → All P (insert_entry cmp es k v)
All-insert_entry exact P [] k v all one = All-cons P (k, v) [] one (All-nil P)
All-insert_entry {K} {X} {cmp} exact P (e ∷ es) k v all one =
    pick P (cmp k e.0) ((k, v) ∷ e ∷ es) ((e.0, v) ∷ es) (e ∷ insert_entry cmp es k v)
    (All-cons P (k, v) (e ∷ es) one all)
    (λ same. All-cons P (e.0, v) es (subst (λ (key : K). P (key, v)) (exact k e.0 same) one) (All-tail P e es all))
    (All-cons P e (insert_entry cmp es k v) (All-head P e es all) (All-insert_entry exact P es k v (All-tail P e es all) one))

-- what holds of each entry holds of those that are left
pub All-remove_entry : {K X : Type 0} (P : K × X → Type 0) (test : K → Bool) (es : List (K × X)) → All P es → All P (remove_entry test es)
All-remove_entry P test es all = subst (λ rest. All P rest) (map-id (remove_entry test es)) (All-map-remove_entry test (λ e. e) P es (subst (λ rest. All P rest) (sym (map-id es)) all))

-- an entry of an id that a look-up finds stands under it
pub stands-found : (id : LspId) (stored : Stored) (es : List (LspId × Stored)) → All StandsUnderItsId es → lookup (is_at (id_cmp id)) es ≡ Some stored → StandsUnderItsId (id, stored)
stands-found id stored [] all e = absurd (cc)
stands-found id stored (entry ∷ es) all e = by (λ h. stands-found id stored es (All-tail StandsUnderItsId entry es all) h) (is_at (id_cmp id) entry.0) refl e
  where
    by : (lookup (is_at (id_cmp id)) es ≡ Some stored → StandsUnderItsId (id, stored)) → (b : Bool) → is_at (id_cmp id) entry.0 ≡ b → cond b (Some entry.1) (lookup (is_at (id_cmp id)) es) ≡ Some stored → StandsUnderItsId (id, stored)
    by rest true here e =
        let same : entry.1 ≡ stored = cc in
        subst (λ (key : LspId). StandsUnderItsId (key, stored)) (sym (tells_apart id_exact id entry.0 here)) (subst (λ (held : Stored). StandsUnderItsId (entry.0, held)) same (All-head StandsUnderItsId entry es all))
    by rest false here e = rest e

stored_well : (lsp : Lsp) (gone : Bool) → FitsLsp lsp → IfSome (if gone then None else Some lsp) (λ (live : Lsp). FitsLsp live × (live.id ≡ lsp.id))
stored_well lsp true fits = tt
stored_well lsp false fits = (fits, refl)

pub AreInRange-apply : (edit : Edit) (facts : Facts) → IsEditInRange edit → AreInRange facts → AreInRange (apply edit facts)
AreInRange-apply (Announce lsp) facts fits was = record {
  database = All-insert_entry id_exact IsStoredWell facts.database lsp.id (stored_of lsp) was.database (stored_well lsp (lsp.lifetime == 0) fits);
  costs = was.costs;
  depth = was.depth;
}
AreInRange-apply (SetCost key metric) facts fits was = record {
  database = was.database;
  costs = All-insert_entry key_exact IsCost facts.costs key metric was.costs fits;
  depth = was.depth;
}
AreInRange-apply (TakeDown pair) facts fits was = record { database = was.database; costs = was.costs; depth = was.depth }
AreInRange-apply (BringUp pair) facts fits was = record { database = was.database; costs = was.costs; depth = was.depth }
AreInRange-apply (SetDepth depth) facts fits was = record { database = was.database; costs = was.costs; depth = fits }
