-- The lines that a session answers, each with its line feed.
use Rattle.std.specs.Prelude.{◌≡◌, ℕ, List, ◌++◌, Option, Some, None, codes, decimal}
use Rattle.sr_model.specs.SystemText.{system_text}

-- the second text begins with the first: what stood before stands, and more may stand behind it
abbrev pub BeginsWith : List ℕ → List ℕ → Type 0
BeginsWith old new = (more : List ℕ) × (new ≡ old ++ more)

-- a text as a line
abbrev pub ended : List ℕ → List ℕ
ended text = text ++ codes "\n"

-- one more word behind others
abbrev pub word : List ℕ → List ℕ
word text = codes " " ++ text

-- a node's system id as one more word
unfoldable pub node_word : ℕ → List ℕ
node_word system = word (system_text system)

-- a text with a number behind it
abbrev pub numbered : List ℕ → ℕ → List ℕ
numbered text number = text ++ decimal number

-- how many edits are staged
abbrev pub staged_line : ℕ → List ℕ
staged_line count = ended (numbered (codes "staged ") count)

-- how many staged edits were dropped
abbrev pub dropped_line : ℕ → List ℕ
dropped_line count = ended (numbered (codes "dropped ") count)

-- a text with the number of a version, and how many nodes and links its net has
abbrev pub net_text : List ℕ → ℕ → ℕ → ℕ → List ℕ
net_text text number nodes links =
    numbered text number ++ numbered (codes " nodes ") nodes ++ numbered (codes " links ") links

-- the number of a version, and how many nodes and links its net has
abbrev pub version_line : ℕ → ℕ → ℕ → List ℕ
version_line number nodes links = ended (net_text (codes "version ") number nodes links)

-- a distance, or that there is no walk
abbrev pub dist_line : Option ℕ → List ℕ
dist_line None = ended (codes "dist none")
dist_line (Some cost) = ended (numbered (codes "dist ") cost)

-- the accepted depth, and how many edits are staged
abbrev pub settings_text : ℕ → ℕ → List ℕ
settings_text depth staged = numbered (codes " depth ") depth ++ numbered (codes " staged ") staged

-- the current version, its nodes and links, the accepted depth, and how many edits are staged
abbrev pub show_line : ℕ → ℕ → ℕ → ℕ → ℕ → List ℕ
show_line version nodes links depth staged =
    ended (net_text (codes "show version ") version nodes links ++ settings_text depth staged)
