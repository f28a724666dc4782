-- Links as text.
use Rattle.std.specs.Prelude.{ℕ, ◌+◌, ◌<◌, List, ◌++◌, All, codes, decimal}
use Rattle.std.specs.List.{flat_map, position_or_len}
use Rattle.sr_model.specs.declared.link.LinkNo.{LinkNo}
use Rattle.sr_model.specs.declared.name.LinkKey.{LinkKey}
use Rattle.sr_model.specs.Case.{key_at}
use Rattle.sr_model.specs.Graph.{Graph, link_count}
use Rattle.sr_model.specs.KeyOrder.{same_key}
use Rattle.sr_model.specs.Label.{Net, keys_between}
use Rattle.sr_model.specs.SystemText.{system_text}
use Rattle.sr_print.specs.Printed.{word, node_word, numbered}

-- the number of a key among the announced keys between its nodes, counted from 1
abbrev pub place_between : List LinkKey → LinkKey → ℕ
place_between keys key = position_or_len (λ (k : LinkKey). same_key k key) (keys_between keys key.from key.to) + 1

-- the number of link l among the announced keys between its ends, counted from 1
abbrev pub link_place : Net → ℕ → ℕ
link_place n l = place_between n.announced (key_at n.graph l)

-- the system ids of a link's ends
unfoldable pub ends_text : LinkKey → List ℕ
ends_text key = system_text key.from ++ codes ">" ++ system_text key.to

-- the ends of link l, and its number among the announced keys between them
unfoldable pub link_text : Net → ℕ → List ℕ
link_text n l = ends_text (key_at n.graph l) ++ numbered (codes "#") (link_place n l)

-- the system ids of a link's ends, each as one more word
unfoldable pub end_words : LinkKey → List ℕ
end_words key = node_word key.from ++ node_word key.to

-- link l as a script names it, by three more words: its ends, and its number among the announced keys between them
unfoldable pub named_link : Net → ℕ → List ℕ
named_link n l = end_words (key_at n.graph l) ++ word (decimal (link_place n l))

-- a link as one more word
unfoldable pub link_word : Net → ℕ → List ℕ
link_word n l = word (link_text n l)

-- the words of the links, in this order
abbrev pub link_words : Net → List LinkNo → List ℕ
link_words n links = flat_map (λ (l : LinkNo). link_word n l.0) links

-- each of these is a link of the graph
abbrev pub AreLinks : Graph → List LinkNo → Type 0
AreLinks g links = All (λ (l : LinkNo). l.0 < link_count g) links
