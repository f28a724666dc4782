-- Least labels, and what a filtered map has once more.
use Rattle.std.proofs.Common.{◌≡◌, ℕ, ◌+◌, ◌<◌, List, [], ◌∷◌, ◌++◌, length, get_or, take, refl, arith, ap, ◌∙◌, Option, Some, None, append-nil}
use Rattle.std.specs.List.{cons_option, filter_map}
use Rattle.std.specs.Option.{option_to_list}
use Rattle.std.proofs.lemmas.List.{take_more}
use Rattle.std.proofs.lemmas.List.Elements.{filter_map-append}
use Rattle.sr_lsdb.specs.Announcement.{least, lesser}

lesser-swap : (r : Option ℕ) (x y : ℕ) → lesser (lesser r y) x ≡ lesser (lesser r x) y
lesser-swap None x y = ap Some (omega arith)
lesser-swap (Some z) x y = ap Some (omega arith)

-- one more number at the end
pub least-push : (xs : List ℕ) (y : ℕ) → least (xs ++ y ∷ []) ≡ lesser (least xs) y
least-push [] y = refl
least-push (x ∷ xs) y = ap (λ r. lesser r x) (least-push xs y) ∙ lesser-swap (least xs) x y

-- one more element
pub filter_map-more : {X Y : Type 0} (h : X → Option Y) (xs : List X) (i : ℕ) (d : X) → i < length xs → filter_map h (take (i + 1) xs) ≡ filter_map h (take i xs) ++ option_to_list (h (get_or xs i d))
filter_map-more h xs i d within = rw (take_more xs i d within) (filter_map-append h (take i xs) (get_or xs i d ∷ []) ∙ ap (λ r. filter_map h (take i xs) ++ r) (one (h (get_or xs i d))))
  where
    one : {Y : Type 0} (o : Option Y) → cons_option o [] ≡ option_to_list o
    one None = refl
    one (Some y) = refl

pub filter_map-some : {X Y : Type 0} (h : X → Option Y) (xs : List X) (i : ℕ) (d : X) (y : Y) → i < length xs → h (get_or xs i d) ≡ Some y → filter_map h (take (i + 1) xs) ≡ filter_map h (take i xs) ++ y ∷ []
filter_map-some h xs i d y within e = filter_map-more h xs i d within ∙ ap (λ o. filter_map h (take i xs) ++ option_to_list o) e

pub filter_map-none : {X Y : Type 0} (h : X → Option Y) (xs : List X) (i : ℕ) (d : X) → i < length xs → h (get_or xs i d) ≡ None → filter_map h (take (i + 1) xs) ≡ filter_map h (take i xs)
filter_map-none h xs i d within e = filter_map-more h xs i d within ∙ ap (λ o. filter_map h (take i xs) ++ option_to_list o) e ∙ append-nil (filter_map h (take i xs))
