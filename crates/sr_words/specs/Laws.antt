-- The law of the words.
use Rattle.std.specs.Prelude.{◌≡◌, List, String}
use Rattle.std.specs.declared.alloc.Global.{Global}
use Rattle.sr_words.specs.declared.task.AskedTask.{AskedTask}
use Rattle.sr_words.specs.Tasks.{Asked}

-- words ask for at most one task
abbrev pub WordsAskForOneTask : Type 0
WordsAskForOneTask = (words : List (String Global)) (one other : AskedTask)
    → Asked words one → Asked words other → one ≡ other
