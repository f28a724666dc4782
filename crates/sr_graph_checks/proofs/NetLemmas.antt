-- Nets with no adjacency label, whose keys are those of their links, are accepted.
use Rattle.std.proofs.Common.{◌≡◌, ◌≢◌, ℕ, ◌+◌, ◌<◌, ◌≤◌, ⊎_elim, List, [], ◌∷◌, ◌++◌, length, get_or}
use Rattle.std.proofs.Common.{arith, ap, sym, ◌∙◌, subst, Some, None, replicate}
use Rattle.std.specs.Prelude.{slice_get}
use Rattle.std.proofs.lemmas.Bool.{cases_eq}
use Rattle.std.proofs.lemmas.List.{length-append, length-replicate, get_or_push, get_or_append_left}
use Rattle.std.proofs.lemmas.Option.{slice_get_within, get_or_from_slice_get, slice_get-get_or}
use Rattle.sr_model.specs.declared.name.LinkKey.{LinkKey}
use Rattle.sr_model.specs.Graph.{Graph, IsGraph, IsGrouped, IsNamed, link_count, node_count, no_link}
use Rattle.sr_model.specs.Case.{key_at}
use Rattle.sr_model.specs.Label.{Labels}
use Rattle.sr_model.specs.Rule.{AreAnnounced, IsAccepted, IsFirstBroken}
use Rattle.sr_labels.specs.Rules.{HaveSrgbs}
use Rattle.sr_labels.proofs.NetLemmas.{none-listed}

-- what stands for a key past the end
abbrev pub no_key : LinkKey
no_key = no_link.key

-- the keys of the first n links
pub record AreKeys (g : Graph) (n : ℕ) (keys : List LinkKey) : Type 0 where
  pub long : length keys ≡ n
  pub each : (l : ℕ) → l < n → get_or keys l no_key ≡ key_at g l

pub keys-push : (g : Graph) (n : ℕ) (keys : List LinkKey) (key : LinkKey) → AreKeys g n keys → key ≡ key_at g n
    → AreKeys g (n + 1) (keys ++ key ∷ [])
keys-push g n keys key k is = record {
  long = omega (arith, length-append keys (key ∷ []), k.long);
  each = λ l lt. ⊎_elim
      (λ (e : l ≡ n).
      let Q : ℕ → Type 0 = λ m. get_or (keys ++ key ∷ []) m no_key ≡ key_at g m in
      subst Q (sym e) (get_or_push keys key no_key n k.long ∙ is))
      (λ (ne : l ≢ n).
      get_or_append_left keys (key ∷ []) no_key l (omega (arith, k.long)) ∙ k.each l (omega arith))
      (cases_eq l n);
}

-- the key at a place of the list is that of the link
key-at : (g : Graph) (n : ℕ) (keys : List LinkKey) (i : ℕ) (a : LinkKey) → AreKeys g n keys → i < n
    → slice_get keys i ≡ Some a → a ≡ key_at g i
key-at g n keys i a k lt found = sym (get_or_from_slice_get keys i a no_key found) ∙ k.each i lt

-- they are announced as a net wants them
pub keys-announced : (g : Graph) (n : ℕ) (keys : List LinkKey) → IsNamed g → AreKeys g n keys → n ≡ link_count g
    → AreAnnounced g keys
keys-announced g n keys named k all = record {
  ascending = λ i j a b lt first second.
      let within : j < n = omega (arith, k.long, slice_get_within keys j b second) in
      let one : a ≡ key_at g i = key-at g n keys i a k (omega arith) first in
      let two : b ≡ key_at g j = key-at g n keys j b k within second in
      rw (one, two) (named.keys i j lt (omega arith));
  holds = λ l lt.
      (l, slice_get-get_or keys l no_key (omega (arith, k.long, all)) ∙ ap Some (k.each l (omega (arith, all))));
}

-- what is left to know of such a net
pub record AreAcceptable (g : Graph) (nodes : List Labels) (keys : List LinkKey) (depth : ℕ) : Type 0 where
  pub graph : IsGraph g
  pub named : IsNamed g
  pub grouped : IsGrouped g
  pub long : length nodes ≡ node_count g
  pub ranges : HaveSrgbs nodes
  pub rules : IsFirstBroken nodes [] None
  pub announced : AreAnnounced g keys
  pub few : depth ≤ 12

pub plain-accepted : (g : Graph) (nodes : List Labels) (keys : List LinkKey) (depth : ℕ)
    → AreAcceptable g nodes keys depth
    → IsAccepted
    (record { graph = g; labels = nodes; adj = replicate (link_count g) None; announced = keys; depth = depth })
plain-accepted g nodes keys depth a = record {
  graph = a.graph;
  named = a.named;
  grouped = a.grouped;
  nodes = a.long;
  links = length-replicate (link_count g) None;
  ranges = a.ranges;
  rules = rw (none-listed g.links (link_count g)) a.rules;
  announced = a.announced;
  depth = a.few;
}
