-- The marks of overloaded nodes: which they are, and that they change nothing else of a graph.
use Rattle.std.proofs.Common.{◌≡◌, ℕ, ◌<◌, ⊎_elim, Bool, true, false, cond, List, [], ◌∷◌, map, length, arith, ap, sym, ◌∙◌, subst}
use Rattle.std.specs.Prelude.{Contains, filter}
use Rattle.std.proofs.lemmas.List.{ext_get_or, get_or_default, get_or-map, length-map}
use Rattle.std.proofs.lemmas.List.Elements.{All-contains, filter_passes}
use Rattle.sr_model.specs.declared.link.Link.{Link}
use Rattle.sr_model.specs.Graph.{Graph, has, system_at, IsGraph, IsNamed, IsGrouped}
use Rattle.sr_graph.specs.Marks.{IsMarked}
use Rattle.sr_domain.proofs.MemberLemmas.{here, later, cases, nowhere}
use Rattle.sr_laws.proofs.Failures.{test-same}

-- what passes the test is kept
passed : (p : ℕ → Bool) (xs : List ℕ) (z : ℕ) → Contains xs z → p z ≡ true → Contains (filter p xs) z
passed p [] z c e = absurd (nowhere z c)
passed p (x ∷ xs) z c e = ⊎_elim
    (λ (same : x ≡ z). subst (λ (b : Bool). Contains (cond b (x ∷ filter p xs) (filter p xs)) z) (sym (ap p same ∙ e)) (subst (λ (v : ℕ). Contains (v ∷ filter p xs) z) (sym same) (here z (filter p xs))))
    (λ (rest : Contains xs z). by (p x) (passed p xs z rest e))
    (cases x xs z c)
  where
    by : (b : Bool) → Contains (filter p xs) z → Contains (cond b (x ∷ filter p xs) (filter p xs)) z
    by true r = later x (filter p xs) z r
    by false r = r

-- the marks of the nodes that pass a test are the tests of all nodes
pub marks-are : (p : ℕ → Bool) (g after : Graph) → IsMarked g (filter p g.systems) after → after.overloaded ≡ map p g.systems
marks-are p g after is = ext_get_or false after.overloaded (map p g.systems) (is.long ∙ sym (length-map g.systems p)) (λ v lt.
    let long : length after.overloaded ≡ length g.systems = is.long in
    let within : v < length g.systems = omega arith in
    let there : Contains g.systems (system_at g v) = (v, within, get_or_default g.systems v (system_at g v) 0 within) in
    test-same (has after.overloaded v) (p (system_at g v))
    (λ e. All-contains (λ (x : ℕ). p x ≡ true) (filter p g.systems) (system_at g v) (filter_passes p g.systems) ((is.each v within).0 e))
    (λ e. (is.each v within).1 (passed p g.systems (system_at g v) there e))
    ∙ sym (get_or-map p g.systems v 0 false within))

abbrev pub graph_made : List ℕ → List Link → List (List ℕ) → List Bool → Graph
graph_made systems links groups overloaded = record { systems = systems; links = links; groups = groups; overloaded = overloaded }

-- a marked graph is the graph from before with other marks
pub marked-is : (g after : Graph) (overloaded : List ℕ) → IsMarked g overloaded after → graph_made g.systems g.links g.groups after.overloaded ≡ after
marked-is g after overloaded is =
    ap (λ (s : List ℕ). graph_made s g.links g.groups after.overloaded) (sym is.systems)
    ∙ ap (λ (l : List Link). graph_made after.systems l g.groups after.overloaded) (sym is.links)
    ∙ ap (λ (r : List (List ℕ)). graph_made after.systems after.links r after.overloaded) (sym is.groups)

-- other marks keep what a graph keeps
pub graph-kept : (g : Graph) (marks : List Bool) → IsGraph g → IsGraph (graph_made g.systems g.links g.groups marks)
graph-kept g marks k = record { few_nodes = k.few_nodes; few_links = k.few_links; each = k.each; by_tail = k.by_tail }

pub named-kept : (g : Graph) (marks : List Bool) → IsNamed g → IsNamed (graph_made g.systems g.links g.groups marks)
named-kept g marks k = record { ascending = k.ascending; ends = k.ends; keys = k.keys }

pub grouped-kept : (g : Graph) (marks : List Bool) → IsGrouped g → IsGrouped (graph_made g.systems g.links g.groups marks)
grouped-kept g marks k = record { long = k.long; ascending = k.ascending; pairs = k.pairs }
