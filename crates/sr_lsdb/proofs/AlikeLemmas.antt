-- Sides that are alike at every name that is touched say the same, and only those.
use Rattle.std.proofs.Common.{◌≡◌, ℕ, Bool, T, cond, true, false, List, [], ◌∷◌, refl, sym, ap, subst, ◌∙◌}
use Rattle.std.specs.Prelude.{Option, Some}
use Rattle.std.specs.declared.cmp.Ordering.{Ordering}
use Rattle.std.specs.declared.cmp.Ordering.TheVariants.{Less, Equal, Greater}
use Rattle.std.specs.BTreeMap.{is_at}
use Rattle.std.specs.FinMap.{find, is_sorted, entries, from_sorted, entries-from_sorted, get-from_sorted, same_map}
use Rattle.std.specs.FinMap.Entries.{below_all}
use Rattle.std.specs.List.{list_any, AllByRecursion}
use Rattle.std.specs.List.Sorted.{IsStrictlySortedBy}
use Rattle.std.specs.Map.{keys_of, lookup}
use Rattle.std.specs.Option.{option_map}
use Rattle.std.specs.Ordering.{is_eq}
use Rattle.std.proofs.lemmas.Map.Lookups.{CmpEqualImpliesEq}
use Rattle.std.proofs.lemmas.Map.Made.{lookup-map_values}
use Rattle.sr_model.specs.declared.name.LinkKey.{LinkKey}
use Rattle.sr_model.specs.declared.name.PairKey.{PairKey}
use Rattle.sr_model.specs.KeyOrder.{key_cmp}
use Rattle.sr_lsp.specs.declared.lsp.LspId.{LspId}
use Rattle.sr_lsp.specs.Said.{Said}
use Rattle.sr_lsdb.specs.declared.facts.Facts.{Facts}
use Rattle.sr_lsdb.specs.declared.facts.Stored.{Stored}
use Rattle.sr_lsdb.specs.declared.touched.Touched.{Touched}
use Rattle.sr_lsdb.specs.declared.touched.Touched.TheVariants.{Lsp, Cost, Pair}
use Rattle.sr_lsdb.specs.Alike.{IsAlikeAt, said_at}
use Rattle.sr_lsdb.specs.Order.{id_cmp, pair_cmp}
use Rattle.sr_lsdb.specs.Renewed.{SayTheSame, all_said, said_of}
use Rattle.sr_lsdb.specs.Tables.{is_down, metric_at}
use Rattle.sr_lsdb.specs.Touched.{Agree, names_cost, names_lsp, names_pair}
use Rattle.sr_lsdb.proofs.OrderLemmas.{id_exact, id_total, key_exact, pair_exact}

-- what is said under an id is found among all that is said
said-found : (entries : List (LspId × Stored)) (id : LspId) → lookup (is_at (id_cmp id)) (all_said entries) ≡ said_at entries id
said-found entries id = lookup-map_values said_of (is_at (id_cmp id)) entries

said-keys : (entries : List (LspId × Stored)) → keys_of (all_said entries) ≡ keys_of entries
said-keys [] = refl
said-keys (entry ∷ entries) = ap (λ (ids : List LspId). entry.0 ∷ ids) (said-keys entries)

before-all : (id : LspId) (sayings : List (LspId × Option Said)) → AllByRecursion (λ (other : LspId). id_cmp id other ≡ Less) (keys_of sayings) → below_all id_cmp id sayings ≡ true
before-all id [] less = refl
before-all id (entry ∷ sayings) less = rw (less.0, before-all id sayings less.1) refl

in-order : (sayings : List (LspId × Option Said)) → IsStrictlySortedBy id_cmp (keys_of sayings) → is_sorted id_cmp sayings ≡ true
unfolding IsStrictlySortedBy
in-order [] ascend = refl
in-order (entry ∷ sayings) ascend = rw (before-all entry.0 sayings ascend.0, in-order sayings ascend.1) refl

said-of-map : (sayings : List (LspId × Option Said)) (id : LspId) → find id_cmp id sayings ≡ lookup (is_at (id_cmp id)) sayings
said-of-map [] id = refl
said-of-map (entry ∷ sayings) id = ap (λ (rest : Option (Option Said)). cond (is_at (id_cmp id) entry.0) (Some entry.1) rest) (said-of-map sayings id)

-- lists in order of id that answer alike under every id are the same, as the maps that they make
same-sayings : (one other : List (LspId × Option Said)) → is_sorted id_cmp one ≡ true → is_sorted id_cmp other ≡ true → ((id : LspId) → lookup (is_at (id_cmp id)) one ≡ lookup (is_at (id_cmp id)) other) → one ≡ other
same-sayings one other first second alike =
    let one_rises : T (is_sorted id_cmp one) = subst T (sym first) tt in
    let other_rises : T (is_sorted id_cmp other) = subst T (sym second) tt in
    sym (entries-from_sorted id_cmp one one_rises)
    ∙ ap entries (same_map id_total id_exact (from_sorted one) (from_sorted other) (λ (id : LspId).
    get-from_sorted id_cmp one id one_rises ∙ said-of-map one id ∙ alike id ∙ sym (said-of-map other id) ∙ sym (get-from_sorted id_cmp other id other_rises)))
    ∙ entries-from_sorted id_cmp other other_rises

-- databases in order of id of which the same is said under every id say the same
pub said-settled : (one other : List (LspId × Stored)) → IsStrictlySortedBy id_cmp (keys_of one) → IsStrictlySortedBy id_cmp (keys_of other) → ((id : LspId) → said_at one id ≡ said_at other id) → all_said one ≡ all_said other
said-settled one other first second same =
    same-sayings (all_said one) (all_said other)
    (in-order (all_said one) (subst (IsStrictlySortedBy id_cmp) (sym (said-keys one)) first))
    (in-order (all_said other) (subst (IsStrictlySortedBy id_cmp) (sym (said-keys other)) second))
    (λ (id : LspId). said-found one id ∙ same id ∙ sym (said-found other id))

-- facts that say the same are alike at every name
pub alike-said : (one other : Facts) → SayTheSame one other → (name : Touched) → IsAlikeAt name one other
alike-said one other same (Lsp id) =
    sym (said-found one.database id) ∙ ap (lookup (is_at (id_cmp id))) same.database ∙ said-found other.database id
alike-said one other same (Cost key) = ap (λ (costs : List (LinkKey × ℕ)). metric_at costs key) same.costs
alike-said one other same (Pair pair) = ap (λ (pairs : List PairKey). is_down pairs pair) same.downs

-- a key that is told by a name is that of the name
told : {K : Type 0} (cmp : K → K → Ordering) → CmpEqualImpliesEq cmp → (a b : K) → is_at (cmp a) b ≡ true → a ≡ b
told cmp exact a b at = exact a b (by (cmp a b) at)
  where
    by : (r : Ordering) → is_eq r ≡ true → r ≡ Equal
    by Less h = absurd (cc)
    by Equal h = refl
    by Greater h = absurd (cc)

-- the same holds where a name tells so, and where none of the names does
by-names : {P : Type 0} (test : Touched → Bool) (one other : Facts) → ((name : Touched) → IsAlikeAt name one other → test name ≡ true → P) → (names : List Touched) → AllByRecursion (λ name. IsAlikeAt name one other) names → (list_any test names ≡ false → P) → P
by-names test one other named [] all beyond = beyond refl
by-names {P} test one other named (name ∷ names) all beyond =
    by (test name) refl (λ missed. by-names test one other named names all.1 (λ none. beyond (rw (missed, none) refl)))
  where
    by : (met : Bool) → test name ≡ met → (test name ≡ false → P) → P
    by true met rest = named name all.0 met
    by false missed rest = rest missed

-- sides that agree beyond what is touched, and are alike at all that is, are alike at every name
pub alike-everywhere : (names : List Touched) (one other : Facts) → Agree names one other → AllByRecursion (λ name. IsAlikeAt name one other) names → (name : Touched) → IsAlikeAt name one other
alike-everywhere names one other agree all (Lsp id) =
    by-names (λ name. names_lsp name id) one other
    (λ name alike. by name alike)
    names all (λ none. ap (option_map said_of) (agree.database id none))
  where
    by : (name : Touched) → IsAlikeAt name one other → names_lsp name id ≡ true → said_at one.database id ≡ said_at other.database id
    by (Lsp known) alike at = subst (λ (i : LspId). said_at one.database i ≡ said_at other.database i) (told id_cmp id_exact known id at) alike
    by (Cost key) alike at = absurd (cc)
    by (Pair pair) alike at = absurd (cc)
alike-everywhere names one other agree all (Cost key) =
    by-names (λ name. names_cost name key) one other
    (λ name alike. by name alike)
    names all (λ none. agree.costs key none)
  where
    by : (name : Touched) → IsAlikeAt name one other → names_cost name key ≡ true → metric_at one.costs key ≡ metric_at other.costs key
    by (Lsp id) alike at = absurd (cc)
    by (Cost known) alike at = subst (λ (k : LinkKey). metric_at one.costs k ≡ metric_at other.costs k) (told key_cmp key_exact known key at) alike
    by (Pair pair) alike at = absurd (cc)
alike-everywhere names one other agree all (Pair pair) =
    by-names (λ name. names_pair name pair) one other
    (λ name alike. by name alike)
    names all (λ none. agree.downs pair none)
  where
    by : (name : Touched) → IsAlikeAt name one other → names_pair name pair ≡ true → is_down one.downs pair ≡ is_down other.downs pair
    by (Lsp id) alike at = absurd (cc)
    by (Cost key) alike at = absurd (cc)
    by (Pair known) alike at = subst (λ (p : PairKey). is_down one.downs p ≡ is_down other.downs p) (told pair_cmp pair_exact known pair at) alike
