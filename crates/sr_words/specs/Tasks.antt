-- The tasks, and the words that ask for each.
use Rattle.std.specs.Prelude.{◌≡◌, List, [], ◌∷◌, map, codes, Option, Some, None, String, string_bytes}
use Rattle.std.specs.declared.alloc.Global.{Global}
use Rattle.clap.specs.Walk.{Text}
use Rattle.sr_words.specs.declared.task.AskedTask.{AskedTask}
use Rattle.sr_words.specs.declared.task.AskedTask.TheVariants.{Run, Make}
use Rattle.sr_words.specs.Making.{GiveNumbers}

-- the words are the one word `run`; or they are `make` and words that its command takes and that give these numbers
abbrev pub AskFor : List Text → AskedTask → Type 0
AskFor words Run = words ≡ codes "run" ∷ []
AskFor words (Make nodes start) = (rest : List Text) × (words ≡ codes "make" ∷ rest) × GiveNumbers rest (nodes, start)

-- the program's words ask for this task
abbrev pub Asked : List (String Global) → AskedTask → Type 0
Asked words task = AskFor (map (λ word. string_bytes word) words) task

-- the words begin with `make`
abbrev pub BeginWithMake : List (String Global) → Type 0
BeginWithMake words = (rest : List Text) × (map (λ word. string_bytes word) words ≡ codes "make" ∷ rest)

-- the words ask for this task, or there is none that they ask for
abbrev pub IsTaskOf : List (String Global) → Option AskedTask → Type 0
IsTaskOf words (Some task) = Asked words task
IsTaskOf words None = (task : AskedTask) → ¬ Asked words task
