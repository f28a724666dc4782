-- What is answered to lines of which only the head was seen.
use Rattle.std.proofs.Common.{◌≡◌, ◌≢◌, ℕ, ◌<◌, ◌≤◌, ◌++◌, Bool, true, false, List, [], ◌∷◌, length, Option, Some, None, refl, sym, ap, subst, arith, inl, inr, ⊎_elim, length-take}
use Rattle.std.specs.declared.result.Result.{Result}
use Rattle.std.specs.declared.result.Result.TheVariants.{Ok, Err}
use Rattle.std.proofs.lemmas.Bool.{cases_lt}
use Rattle.std.proofs.lemmas.Bool.Decides.{nat_tests}
use Rattle.sr_base.specs.declared.SinkFault.{SinkFault}
use Rattle.std.proofs.lemmas.List.{take_all}
use Rattle.sr_script.specs.declared.command.Command.{Command}
use Rattle.sr_script.specs.declared.command.Command.TheVariants.{Cost, Depth, Load, Watch}
use Rattle.sr_script.specs.declared.line.Line.{Line}
use Rattle.sr_script.specs.declared.line.Line.TheVariants.{Nothing as NoWord, Word, Try}
use Rattle.sr_script.specs.declared.line.LineFault.{LineFault}
use Rattle.sr_script.specs.declared.line.LineFault.TheVariants.{TooLong, UnknownWord, BadForm, BadHex, Memory}
use Rattle.sr_script.specs.Says.{SaysCommand, is_question}
use Rattle.sr_script.specs.LineSays.{LineSays, SaysTry, IsLineFault}
use Rattle.sr_script.specs.Number.{number_in, number_read, within}
use Rattle.sr_script.specs.Words.{word_at, words_of}
use Rattle.sr_model.specs.declared.link.TheConstants.{MOST_METRIC}
use Rattle.sr_script.specs.declared.command.TheConstants.{MOST_WORKERS, MOST_EACH}
use Rattle.sr_model.specs.declared.limits.TheConstants.{MOST_DEPTH, MOST_WATCHERS, MOST_ROUNDS}
use Rattle.sr_engine.specs.Lines.{head_of}
use Rattle.sr_engine.specs.Replies.{Gave, Broke, Gives, AtEnd, ToHead, ToLast}
use Rattle.sr_engine.specs.Written.{Written}
use Rattle.sr_engine.proofs.Answering.{breaks-then}
use Rattle.sr_engine.proofs.Last.{EndAnswers, ends-none, ends-none-broken, ends-line, ends-line-broken, ends-broken}
use Rattle.sr_print.specs.declared.refusal.Refusal.{Refusal}
use Rattle.sr_print.specs.Refused.{refused_line}
use Rattle.sr_print.specs.Told.{Told, spelled, is_refusal}
use Rattle.sr_print.specs.Told.Told.{Nothing, Refused}
use Rattle.sr_run.specs.State.{Session, CanReport}
use Rattle.sr_run.specs.Tries.{Tries}
use Rattle.sr_run.specs.Session.{IsRefusedAs, Tells}
use Rattle.sr_run.specs.Handlers.{GivesCommand, GivesTold, IsAsked, RefusesLine, SessionAnswers, SessionTells, SessionEnds, session_conduct}
use Rattle.sr_run.proofs.ReportLemmas.{end-has_answer}

short-head : (line : List ℕ) → length (head_of line) ≤ 140000 → head_of line ≡ line
unfolding head_of
short-head line h = take_all 140001 line (omega (arith, length-take 140001 line))

long-head : (line : List ℕ) → 140000 < length (head_of line) → 140000 < length line
unfolding head_of
long-head line h = omega (arith, length-take 140001 line)

-- a line says what its head says
line-says : (line : List ℕ) (said : Line) → LineSays (head_of line) said → LineSays line said
line-says line said p = subst (λ (l : List ℕ). LineSays l said) (short-head line p.short) p

-- a line has the fault of its head
line-fault : (line : List ℕ) (fault : LineFault) → IsLineFault (head_of line) fault → IsLineFault line fault
line-fault line TooLong p = long-head line p
line-fault line UnknownWord p = subst (λ (l : List ℕ). IsLineFault l UnknownWord) (short-head line p.0) p
line-fault line BadForm p = subst (λ (l : List ℕ). IsLineFault l BadForm) (short-head line p.0) p
line-fault line BadHex p = subst (λ (l : List ℕ). IsLineFault l BadHex) (short-head line p.0) p
line-fault line (Memory error) p = tt

-- the answer to a line that says nothing
pub answer-nothing : (state : Session) (number : ℕ) (head : List ℕ) → CanReport state.work → LineSays head NoWord → ToHead SessionAnswers state number head [] false state
answer-nothing state number head can p = λ line is. record {
  reports = can;
  steps = λ lent domain like.
      (domain, like, (Nothing, inr (inl (line-says line NoWord (subst (λ (h : List ℕ). LineSays h NoWord) is p), refl, refl)), refl, refl));
}

-- the answer to a line that says a command
pub answer-told : (command : Command) (old new : Session) (number : ℕ) (head : List ℕ) (told : Told) → LineSays head (Word command)
    → SessionTells (λ domain said next. Tells domain command said next) old new told → ToHead SessionAnswers old number head (spelled number told) (is_refusal told) new
answer-told command old new number head told p tells = λ line is. record {
  reports = tells.reports;
  steps = λ lent domain like.
      let next = tells.steps lent domain like in
      (next.0, next.1, (told, inr (inr (inl (command, line-says line (Word command) (subst (λ (h : List ℕ). LineSays h (Word command)) is p), next.2))), refl, refl));
}

-- the answer to a line that says a question which is tried
answer-tried : (question : Command) (old new : Session) (number : ℕ) (head : List ℕ) (told : Told) → LineSays head (Try question)
    → SessionTells (Tries question) old new told → ToHead SessionAnswers old number head (spelled number told) (is_refusal told) new
answer-tried question old new number head told p tells = λ line is. record {
  reports = tells.reports;
  steps = λ lent domain like.
      let next = tells.steps lent domain like in
      (next.0, next.1, (told, inr (inr (inr (question, line-says line (Try question) (subst (λ (h : List ℕ). LineSays h (Try question)) is p), next.2))), refl, refl));
}

-- the answer to a line that says no command
pub answer-refused : (state : Session) (number : ℕ) (head : List ℕ) (fault : LineFault) (reason : Refusal) → CanReport state.work → IsLineFault head fault → IsRefusedAs fault reason
    → ToHead SessionAnswers state number head (refused_line number reason) true state
answer-refused state number head fault reason can p r = λ line is. record {
  reports = can;
  steps = λ lent domain like.
      (domain, like, (Refused reason, inl (fault, reason, line-fault line fault (subst (λ (h : List ℕ). IsLineFault h fault) is p), r, (refl, refl)), refl, refl));
}

-- a number in a range lies in it
within-bounds : (low high : ℕ) (o : Option ℕ) (n : ℕ) → within low high o ≡ Some n → (low ≤ n) × (n ≤ high)
within-bounds low high None n e = grind (arith, nat_tests)
within-bounds low high (Some m) n e = grind (arith, nat_tests)

number-bounds : (low high : ℕ) (word : List ℕ) (n : ℕ) → number_in low high word ≡ Some n → (low ≤ n) × (n ≤ high)
unfolding number_in
number-bounds low high word n e = within-bounds low high (number_read word) n e

-- the arguments of a command that words say are in range; the last clause serves all commands that no other names
words-well : (ws : List (List ℕ)) (command : Command) → SaysCommand ws command → IsAsked command
words-well ws (Cost link metric) p = let b = number-bounds 1 MOST_METRIC (word_at ws 4) metric p.others.1.1.1.0 in (omega (arith, b.0), omega (arith, b.1))
words-well ws (Depth depth) p = (number-bounds 0 MOST_DEPTH (word_at ws 1) depth p.others.0).1
words-well ws (Load workers each) p =
    let w = number-bounds 1 MOST_WORKERS (word_at ws 1) workers p.others.0 in
    let k = number-bounds 1 MOST_EACH (word_at ws 2) each p.others.1.0 in
    (omega (arith, w.0), omega (arith, w.1), omega (arith, k.0), omega (arith, k.1))
words-well ws (Watch watchers rounds) p =
    let t = number-bounds 1 MOST_WATCHERS (word_at ws 1) watchers p.others.0 in
    let r = number-bounds 1 MOST_ROUNDS (word_at ws 2) rounds p.others.1.0 in
    (omega (arith, t.0), omega (arith, t.1), omega (arith, r.1))
words-well ws command p = tt

-- so are those of a command that a line says
pub said-well : (line : List ℕ) (command : Command) → LineSays line (Word command) → IsAsked command
said-well line command p = words-well (words_of line) command p.says

-- and of a question that is tried
try-well : (ws : List (List ℕ)) (question : Command) → SaysTry ws question → IsAsked question × (is_question question ≡ true)
try-well [] question s = absurd s
try-well (first ∷ rest) question s = (words-well rest question s.2, s.1)

pub tried-well : (line : List ℕ) (question : Command) → LineSays line (Try question) → IsAsked question × (is_question question ≡ true)
tried-well line question p = try-well (words_of line) question p.says

-- a head that isn't too long is that of itself
head-itself : (head : List ℕ) → length head ≤ 140001 → head ≡ head_of head
unfolding head_of
head-itself head few = sym (take_all 140001 head few)

head-few : (head line : List ℕ) → head ≡ head_of line → length head ≤ 140001
unfolding head_of
head-few head line is = omega (arith, ap length is, length-take 140001 line)

-- from each state that an answer leaves the end of a script has an answer
end-answers : (old : Session) (number : ℕ) (head : List ℕ) → length head ≤ 140001 → EndAnswers (ToHead SessionAnswers old number head) SessionEnds
end-answers old number head few said again mid is = end-has_answer mid (is head (head-itself head few)).reports

-- what a command gives is the answer to each line that says it
pub command-answers : (command : Command) (number : ℕ) (head : List ℕ) (old : Session) → LineSays head (Word command) → (said : List ℕ) (refused : Bool) (new : Session) → GivesCommand command number old said refused new → ToHead SessionAnswers old number head said refused new
command-answers command number head old p said refused new h =
    subst (λ (x : List ℕ). ToHead SessionAnswers old number head x refused new) (sym h.2)
    (subst (λ (b : Bool). ToHead SessionAnswers old number head (spelled number h.0) b new) (sym h.3) (answer-told command old new number head h.0 p h.1))

-- so is what a question gives that is tried
pub tries-answer : (question : Command) (number : ℕ) (head : List ℕ) (old : Session) → LineSays head (Try question) → (said : List ℕ) (refused : Bool) (new : Session) → GivesTold (Tries question) number old said refused new → ToHead SessionAnswers old number head said refused new
tries-answer question number head old p said refused new h =
    subst (λ (x : List ℕ). ToHead SessionAnswers old number head x refused new) (sym h.2)
    (subst (λ (b : Bool). ToHead SessionAnswers old number head (spelled number h.0) b new) (sym h.3) (answer-tried question old new number head h.0 p h.1))

-- and so is what a fault gives
pub fault-answers : (fault : LineFault) (number : ℕ) (head : List ℕ) (old : Session) → CanReport old.work → IsLineFault head fault → (said : List ℕ) (refused : Bool) (new : Session) → RefusesLine fault number old said refused new → ToHead SessionAnswers old number head said refused new
fault-answers fault number head old can p said refused new h =
    subst (λ (x : List ℕ). ToHead SessionAnswers old number head x refused new) (sym h.2)
    (subst (λ (b : Bool). ToHead SessionAnswers old number head (refused_line number h.0) b new) (sym h.3)
    (subst (λ (s : Session). ToHead SessionAnswers old number head (refused_line number h.0) true s) (sym h.4) (answer-refused old number head fault h.0 can p h.1)))

-- no line has so long a head: then all is said of a last line
too-long : (old new : Session) (number : ℕ) (head said : List ℕ) (refused : Bool) → 140001 < length head → ToLast session_conduct old number head said refused new
too-long old new number head said refused long rest is = absurd (omega (arith, long, head-few head rest is))

-- the last line was answered so, and then the end
pub last-answered : (old mid new : Session) (number : ℕ) (head : List ℕ) (before now after : Written) (again silent : Bool) → head ≢ []
    → Gave (ToHead SessionAnswers old number head) before now again mid → Gave (AtEnd SessionEnds mid) now after silent new → Gave (ToLast session_conduct old number head) before after again new
last-answered old mid new number head before now after again silent some g e =
    ends-line session_conduct old mid number some g (record { said = e.said; says = e.says; is = (refl, e.is.1) })

-- a fault came while the end was answered
pub last-ended_broken : (old mid : Session) (number : ℕ) (head : List ℕ) (before now after : Written) (again : Bool) (fault : SinkFault) → head ≢ []
    → Gave (ToHead SessionAnswers old number head) before now again mid → Broke (AtEnd SessionEnds mid) now after fault → Broke (ToLast session_conduct old number head) before after fault
last-ended_broken old mid number head before now after again fault some g b =
    ⊎_elim {A = 140001 < length head} {B = length head ≤ 140001}
    (λ long. record {
      text = g.said ++ b.text;
      breaks = breaks-then before now after g.said b.text fault g.says b.breaks;
      begins = inr (record { refused = again; new = mid; is = too-long old mid number head (g.said ++ b.text) again long });
    })
    (λ few. ends-line-broken session_conduct old mid number (end-answers old number head few) some g b)
    (cases_lt 140001 (length head))

-- a fault came while the last line was answered
pub last-broken : (old : Session) (number : ℕ) (head : List ℕ) (before after : Written) (fault : SinkFault) → head ≢ []
    → Broke (ToHead SessionAnswers old number head) before after fault → Broke (ToLast session_conduct old number head) before after fault
last-broken old number head before after fault some b =
    ⊎_elim {A = 140001 < length head} {B = length head ≤ 140001}
    (λ long. record {
      text = b.text;
      breaks = b.breaks;
      begins = inr (record { refused = false; new = old; is = too-long old old number head b.text false long });
    })
    (λ few. ends-broken session_conduct old number (end-answers old number head few) some b)
    (cases_lt 140001 (length head))

-- there is no last line, and the end was answered, or a fault came
pub last-none : (old new : Session) (number : ℕ) (head : List ℕ) (before after : Written) (result : Result Bool SinkFault) → head ≡ []
    → Gives (AtEnd SessionEnds old) before after result new → Gives (ToLast session_conduct old number head) before after result new
last-none old new number head before after (Ok refused) none g =
    subst (λ (b : Bool). Gave (ToLast session_conduct old number head) before after b new) (sym g.is.0)
    (ends-none session_conduct old number none (record { said = g.said; says = g.says; is = (refl, g.is.1) }))
last-none old new number head before after (Err fault) none b = ends-none-broken session_conduct old number none b
