-- What may be answered to lines, as relations: where several answers are allowed, each of them is one.
use Rattle.std.specs.Prelude.{◌≡◌, ℕ, ◌+◌, Bool, false, ◌||◌, ◌⊎◌, List, [], ◌∷◌, ◌++◌, MatchResult}
use Rattle.std.specs.declared.result.Result.{Result}
use Rattle.sr_base.specs.declared.SinkFault.{SinkFault}
use Rattle.sr_engine.specs.Lines.{Splits, last_line, head_of}
use Rattle.sr_engine.specs.Written.{Written, Says, Breaks}

-- these bytes may be answered, the line refused or not, and that is the state after it
abbrev pub Allowed : Type 0 → Type 1
Allowed S = List ℕ → Bool → S → Type 0

-- from a state, to the line of this number, these bytes may be answered, the line refused or not, and that is the
-- state after it
abbrev pub Answering : Type 0 → Type 1
Answering S = S → ℕ → List ℕ → List ℕ → Bool → S → Type 0

-- from a state, at the end of the script, these bytes are answered, and that is the state after it
abbrev pub Closing : Type 0 → Type 1
Closing S = S → List ℕ → S → Type 0

-- what a session may answer to lines, and at the end of the script
pub record Conduct (S : Type 0) : Type 1 where
  pub answers : Answering S
  pub ends : Closing S

-- the answers to these lines one after the other, the first of them of this number, and whether one was refused
abbrev pub Replies : {S : Type 0} → Answering S → S → ℕ → List (List ℕ) → Allowed S
Replies {S} answers old number [] out refused new = (out ≡ []) × (refused ≡ false) × (new ≡ old)
Replies {S} answers old number (line ∷ lines) out refused new =
    (mid : S) × (first : List ℕ) × (here : Bool) × (later : List ℕ) × (after : Bool)
    × answers old number line first here mid
    × Replies answers mid (number + 1) lines later after new
    × (out ≡ first ++ later) × (refused ≡ here || after)

-- the answers to all lines that end with a line feed within the bytes
pub record Answered {S : Type 0} (answers : Answering S) (opening : S) (bytes out : List ℕ) : Type 0 where
  pub lines : List (List ℕ)
  pub rest : List ℕ
  pub splits : Splits bytes lines rest
  pub refused : Bool
  pub last : S
  pub replies : Replies answers opening 1 lines out refused last

-- the answers to all lines of the script, also to a last one without a line feed, then what its end answers, and the
-- state after it
pub record Script {S : Type 0} (conduct : Conduct S) (opening : S) (bytes out : List ℕ) (refused : Bool) (final : S)
    : Type 0 where
  pub lines : List (List ℕ)
  pub rest : List ℕ
  pub splits : Splits bytes lines rest
  pub last : S
  pub said : List ℕ
  pub replies : Replies conduct.answers opening 1 (lines ++ last_line rest) said refused last
  pub tail : List ℕ
  pub end : conduct.ends last tail final
  pub whole : out ≡ said ++ tail

-- what may be answered to every line with this head
abbrev pub ToHead : {S : Type 0} → Answering S → S → ℕ → List ℕ → Allowed S
ToHead answers old number head =
    λ said refused new. (line : List ℕ) → head ≡ head_of line → answers old number line said refused new

-- what may be answered at the end of the script, which refuses nothing
abbrev pub AtEnd : {S : Type 0} → Closing S → S → Allowed S
AtEnd ends old = λ said refused new. (refused ≡ false) × ends old said new

-- first this may be answered, and then what the end of the script answers
pub record ThenEnds {S : Type 0} (first : Allowed S) (ends : Closing S) (said : List ℕ) (refused : Bool) (new : S)
    : Type 0 where
  pub front : List ℕ
  pub last : S
  pub is : first front refused last
  pub tail : List ℕ
  pub end : ends last tail new
  pub whole : said ≡ front ++ tail

-- what may be answered to a last line with this head, if there is one, and then to the end of the script
abbrev pub ToLast : {S : Type 0} → Conduct S → S → ℕ → List ℕ → Allowed S
ToLast conduct old number head = λ said refused new. (rest : List ℕ) → head ≡ head_of rest
    → ThenEnds (Replies conduct.answers old number (last_line rest)) conduct.ends said refused new

-- exactly an allowed answer was answered
pub record Gave {S : Type 0} (allowed : Allowed S) (before after : Written) (refused : Bool) (new : S) : Type 0 where
  pub said : List ℕ
  pub says : Says before after said
  pub is : allowed said refused new

-- this is an allowed answer
pub record HasSome {S : Type 0} (allowed : Allowed S) (text : List ℕ) : Type 0 where
  pub refused : Bool
  pub new : S
  pub is : allowed text refused new

-- at a fault a beginning of an allowed answer was answered, or nothing
pub record Broke {S : Type 0} (allowed : Allowed S) (before after : Written) (fault : SinkFault) : Type 0 where
  pub text : List ℕ
  pub breaks : Breaks before after text fault
  pub begins : (text ≡ []) ⊎ HasSome allowed text

-- an allowed answer was answered, or at a fault a beginning of one
abbrev pub Gives : {S : Type 0} → Allowed S → Written → Written → Result Bool SinkFault → S → Type 0
Gives allowed before after result new =
    MatchResult result (λ refused. Gave allowed before after refused new) (Broke allowed before after)
