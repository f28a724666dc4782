-- The first words of commands, by what these ask for. Those of link-state PDUs and certificates are not among them.
use Rattle.std.specs.Prelude.{◌≡◌, ◌⊎◌, ℕ, Bool, true, false, List, [], ◌∷◌, codes}
use Rattle.sr_script.specs.declared.command.Command.{Command}
use Rattle.sr_script.specs.declared.command.Command.TheVariants.{Commit, DropStaged, Check, Hold, Join, Show, Nodes, Links, Aside}

-- the command is one word, with which no other command begins
abbrev pub is_lone : Command → Bool
is_lone Commit = true
is_lone DropStaged = true
is_lone Check = true
is_lone Hold = true
is_lone Join = true
is_lone Show = true
is_lone Nodes = true
is_lone Links = true
is_lone Aside = true
is_lone command = false

-- an edit, or the check, the end or the loss of what is staged
abbrev pub edit_words : List (List ℕ)
edit_words =
    codes "cost" ∷ codes "down" ∷ codes "up" ∷ codes "depth" ∷ codes "check" ∷ codes "commit" ∷ codes "drop" ∷ []

-- a question of ways and of what is on them
abbrev pub way_words : List (List ℕ)
way_words = codes "dist" ∷ codes "next" ∷ codes "label" ∷ codes "walk" ∷ codes "load" ∷ []

-- a question of the domain's tables
abbrev pub table_words : List (List ℕ)
table_words = codes "show" ∷ codes "nodes" ∷ codes "links" ∷ codes "aside" ∷ []

-- a question of one failure
abbrev pub failure_words : List (List ℕ)
failure_words =
    codes "spaces" ∷ codes "repair" ∷ codes "adjrepair" ∷ codes "adjbackup" ∷ codes "prove" ∷ codes "why" ∷ []

-- a question of all cases, or work beside the script
abbrev pub work_words : List (List ℕ)
work_words =
    codes "audit" ∷ codes "fails" ∷ codes "diff" ∷ codes "hold" ∷ codes "watch" ∷ codes "join" ∷ []

-- the word is one of these
abbrev pub IsWordAmong : List ℕ → List (List ℕ) → Type 0
IsWordAmong word [] = ⊥
IsWordAmong word (first ∷ others) = (word ≡ first) ⊎ IsWordAmong word others
