-- What a line says, and why it is refused.
use Rattle.std.proofs.Common.{◌≡◌, ◌≢◌, ℕ, ◌<◌, Bool, true, false, List, Option, Some, [], ◌∷◌, length, refl, sym, ap, ◌∙◌, subst, arith, ◌⊎◌, ⊎_elim, inl, inr}
use Rattle.std.specs.Prelude.{codes, drop, slice_index, IsErr, slice_index_or, IsTrue, None, MatchOption, ◌↔◌}
use Rattle.std.proofs.lemmas.Bool.{false≢true}
use Rattle.std.specs.declared.result.Result.TheVariants.{Err}
use Rattle.hex.specs.Hex.{decode_of}
use Rattle.sr_script.specs.declared.command.Command.{Command}
use Rattle.sr_script.specs.declared.command.Command.TheVariants.{Lsp, ProofDone}
use Rattle.sr_script.specs.declared.line.Line.{Line}
use Rattle.sr_script.specs.declared.line.Line.TheVariants.{Nothing, Word, Try}
use Rattle.sr_script.specs.declared.line.LineFault.{LineFault}
use Rattle.sr_script.specs.declared.line.LineFault.TheVariants.{TooLong, UnknownWord, BadForm, BadHex, Memory}
use Rattle.sr_script.specs.Words.{pieces, word_at, words, words_of}
use Rattle.sr_script.specs.Says.{SaysCommand, is_question}
use Rattle.sr_script.specs.LineSays.{BeginsCommand, BeginsLine, IsRemark, SayNothing, IsUnknown, IsKnown, IsLspOf, SaysTry, WordsSay, IsBadForm, IsBadHex, IsWordsFault, IsShortLine, LineSays, IsLineFault, IsMemory}
use Rattle.sr_script.specs.Answers.{IsFormFault, IsHexFault, IsQuestionOf, IsReading}
use Rattle.sr_script.proofs.SaidLemmas.{said-once, first-not_remark, first-not_try, lsp-length, lsp-decoded}

-- ---- first words

nothing-cases : (ws : List (List ℕ)) → 0 < length ws → (IsRemark (word_at ws 0) → SayNothing ws) × (SayNothing ws → IsRemark (word_at ws 0))
unfolding word_at
nothing-cases [] some = absurd (omega arith)
nothing-cases (first ∷ rest) some = (λ r. r, λ r. r)

-- the first word is a remark, or the words say something
pub nothing-is : (ws : List (List ℕ)) (answer : Bool) → 0 < length ws → IsTrue answer ↔ IsRemark (word_at ws 0) → IsTrue answer ↔ SayNothing ws
nothing-is ws answer some is =
    let p = nothing-cases ws some in
    (λ yes. p.0 (is.0 yes), λ said. is.1 (p.1 said))

unknown-is : (ws : List (List ℕ)) → ¬ SayNothing ws → ¬ BeginsLine (word_at ws 0) → IsUnknown ws
unfolding word_at
unknown-is [] some none = some tt
unknown-is (first ∷ rest) some none = (some, none)

known-is : (ws : List (List ℕ)) → 0 < length ws → BeginsLine (word_at ws 0) → IsKnown ws
unfolding word_at
known-is [] some k = absurd (omega arith)
known-is (first ∷ rest) some k = k

something : (ws : List (List ℕ)) → ¬ SayNothing ws → 0 < length ws
something [] some = absurd (some tt)
something (first ∷ rest) some = omega arith

known-of : (ws : List (List ℕ)) (command : Command) → SaysCommand ws command → IsKnown ws
known-of ws command p = known-is ws (omega (arith, p.count)) (inl (command, p.first))

-- a question that is tried begins with its word
first-try : (ws : List (List ℕ)) (question : Command) → SaysTry ws question → word_at ws 0 ≡ codes "try"
unfolding word_at
first-try [] question s = absurd s
first-try (first ∷ rest) question s = s.0

known-try : (ws : List (List ℕ)) (question : Command) → SaysTry ws question → IsKnown ws
known-try [] question s = s
known-try (first ∷ rest) question s = inr s.0

no-command-tries : (ws : List (List ℕ)) (command : Command) → word_at ws 0 ≡ codes "try" → ¬ SaysCommand ws command
no-command-tries ws command first p = first-not_try command (sym p.first ∙ first)

first-lsp : (ws : List (List ℕ)) (text : List ℕ) → IsLspOf ws text → word_at ws 0 ≡ codes "lsp"
unfolding word_at
first-lsp ws text e = ap (λ (w : List (List ℕ)). slice_index_or w 0 []) e

second-lsp : (ws : List (List ℕ)) (text : List ℕ) → IsLspOf ws text → word_at ws 1 ≡ text
unfolding word_at
second-lsp ws text e = ap (λ (w : List (List ℕ)). slice_index_or w 1 []) e

-- ---- refusals

-- words that no reader answers have a bad form
form-refused : (ws : List (List ℕ)) → ¬ SayNothing ws → word_at ws 0 ≢ codes "lsp" → word_at ws 0 ≢ codes "try" → BeginsCommand (word_at ws 0) → ((command : Command) → ¬ SaysCommand ws command) → IsBadForm ws
form-refused ws some first other begins none = record {
  known = known-is ws (something ws some) (inl begins);
  other = λ text e. first (first-lsp ws text e);
  unsaid = none;
  untried = λ question s. other (first-try ws question s);
}

-- and what the readers refuse is refused so
pub reading-refused : (ws : List (List ℕ)) (fault : LineFault) → ¬ SayNothing ws → word_at ws 0 ≢ codes "lsp" → word_at ws 0 ≢ codes "try" → IsReading ws (Err fault) → IsWordsFault ws fault
reading-refused ws UnknownWord some first other r = unknown-is ws some (λ begins. ⊎_elim r other begins)
reading-refused ws BadForm some first other r = form-refused ws some first other r.0 r.1
reading-refused ws TooLong some first other r = absurd r
reading-refused ws BadHex some first other r = absurd r
reading-refused ws (Memory error) some first other r = tt

no-try-octets : codes "lsp" ≢ codes "try"
no-try-octets e = absurd (omega (arith, ap (λ (word : List ℕ). slice_index word 0) e))

two-words : (ws : List (List ℕ)) (first : List ℕ) → length ws ≡ 2 → word_at ws 0 ≡ first → ws ≡ first ∷ word_at ws 1 ∷ []
unfolding word_at
two-words [] first two e = absurd (omega arith)
two-words (a ∷ []) first two e = absurd (omega arith)
two-words (a ∷ b ∷ []) first two e = ap (λ (w : List ℕ). w ∷ b ∷ []) e
two-words (a ∷ b ∷ c ∷ rest) first two e = absurd (omega arith)

-- words of which the first has letters are some
words-begin : (ws : List (List ℕ)) (letter : ℕ) (letters : List ℕ) → word_at ws 0 ≡ letter ∷ letters → 0 < length ws
unfolding word_at
words-begin [] letter letters e = absurd (omega (arith, ap length e))
words-begin (first ∷ rest) letter letters e = omega arith

-- `lsp` with no text, or more than one
pub lsp-refused : (ws : List (List ℕ)) → word_at ws 0 ≡ codes "lsp" → length ws ≢ 2 → IsBadForm ws
lsp-refused ws first count = record {
  known = known-is ws (words-begin ws _ _ first) (inl (Lsp [], first));
  other = λ text e. count (ap length e);
  unsaid = λ command p. count (lsp-length ws command p first);
  untried = λ question s. no-try-octets (sym first ∙ first-try ws question s);
}

pub hex-refused : (ws : List (List ℕ)) (fault : LineFault) → word_at ws 0 ≡ codes "lsp" → length ws ≡ 2 → IsHexFault (word_at ws 1) fault → IsWordsFault ws fault
hex-refused ws BadHex first two e = record { text = word_at ws 1; lsp = two-words ws (codes "lsp") two first; refused = e }
hex-refused ws (Memory error) first two e = tt
hex-refused ws TooLong first two e = absurd e
hex-refused ws UnknownWord first two e = absurd e
hex-refused ws BadForm first two e = absurd e

-- words of a certificate that its readers refuse are refused so
pub proof-refused : (ws : List (List ℕ)) (fault : LineFault) → word_at ws 0 ≡ codes "proof" → IsFormFault ws fault → IsWordsFault ws fault
proof-refused ws BadForm first none = record {
  known = known-is ws (words-begin ws _ _ first) (inl (ProofDone [], first));
  other = λ text e. no-octets (sym first ∙ first-lsp ws text e);
  unsaid = none;
  untried = λ question s. no-try (sym first ∙ first-try ws question s);
}
  where
    no-octets : codes "proof" ≢ codes "lsp"
    no-octets e = absurd (omega (arith, ap length e))

    no-try : codes "proof" ≢ codes "try"
    no-try e = absurd (omega (arith, ap length e))
proof-refused ws TooLong first none = absurd none
proof-refused ws UnknownWord first none = absurd none
proof-refused ws BadHex first none = absurd none
proof-refused ws (Memory error) first none = tt

-- ---- questions that are tried

-- a command is the question that the words say where it is a question, and else they say none
pub question-of : (ws : List (List ℕ)) (command : Command) (found : Option Command) → SaysCommand ws command → MatchOption found (is_question command ≡ false) (λ question. (question ≡ command) × (is_question question ≡ true)) → IsQuestionOf ws found
question-of ws command None says none = λ question asks other.
    absurd (false≢true (sym none ∙ subst (λ (c : Command). is_question c ≡ true) (said-once ws question command other says) asks))
question-of ws command (Some question) says one = (one.1, subst (SaysCommand ws) (sym one.0) says)

-- behind `try` stand the words of the question
pub try-said : (ws : List (List ℕ)) (question : Command) → word_at ws 0 ≡ codes "try" → is_question question ≡ true → SaysCommand (drop 1 ws) question → SaysTry ws question
unfolding word_at
try-said [] question first q p = absurd (omega (arith, ap length first))
try-said (first ∷ rest) question e q p = (e, q, p)

-- words behind `try` that say no question
pub try-refused : (ws : List (List ℕ)) → word_at ws 0 ≡ codes "try" → IsQuestionOf (drop 1 ws) None → IsBadForm ws
try-refused ws first none = record {
  known = known-is ws (words-begin ws _ _ first) (inr first);
  other = λ text e. no-try-octets (sym (first-lsp ws text e) ∙ first);
  unsaid = λ command p. no-command-tries ws command first p;
  untried = λ question s. untried-in ws question none s;
}
  where
    untried-in : (ws : List (List ℕ)) (question : Command) → IsQuestionOf (drop 1 ws) None → ¬ SaysTry ws question
    untried-in [] question none s = s
    untried-in (first ∷ rest) question none s = none question s.1 s.2

-- ---- what is said isn't refused

known-not_remark : (word : List ℕ) → BeginsLine word → ¬ IsRemark word
known-not_remark word (inl k) remark = first-not_remark k.0 (subst IsRemark k.1 remark)
known-not_remark word (inr e) remark = absurd (omega (arith, subst IsRemark e remark))

not-both : (ws : List (List ℕ)) → SayNothing ws → ¬ IsKnown ws
not-both [] s k = k
not-both (first ∷ rest) s k = known-not_remark first k s

nothing-known : (ws : List (List ℕ)) → SayNothing ws → ¬ IsUnknown ws
nothing-known [] s u = u
nothing-known (first ∷ rest) s u = u.0 s

not-unknown : (ws : List (List ℕ)) → IsKnown ws → ¬ IsUnknown ws
not-unknown [] k u = u
not-unknown (first ∷ rest) k u = u.1 k

hex-known : (ws : List (List ℕ)) → IsBadHex ws → IsKnown ws
hex-known ws f = subst IsKnown (sym f.lsp) (inl (Lsp [], refl))

hex-unsaid : (ws : List (List ℕ)) (command : Command) → IsBadHex ws → ¬ SaysCommand ws command
hex-unsaid ws command f p = lsp-decoded ws command p (first-lsp ws f.text f.lsp) (subst (λ (word : List ℕ). IsErr (decode_of word)) (sym (second-lsp ws f.text f.lsp)) f.refused)

words-agree : (ws : List (List ℕ)) (said : Line) (fault : LineFault) → WordsSay ws said → IsWordsFault ws fault → IsMemory fault
words-agree ws said TooLong s f = f
words-agree ws Nothing UnknownWord s f = nothing-known ws s f
words-agree ws (Word c) UnknownWord s f = not-unknown ws (known-of ws c s) f
words-agree ws (Try q) UnknownWord s f = not-unknown ws (known-try ws q s) f
words-agree ws Nothing BadForm s f = not-both ws s f.known
words-agree ws (Word c) BadForm s f = f.unsaid c s
words-agree ws (Try q) BadForm s f = f.untried q s
words-agree ws Nothing BadHex s f = not-both ws s (hex-known ws f)
words-agree ws (Word c) BadHex s f = hex-unsaid ws c f s
words-agree ws (Try q) BadHex s f = absurd (no-try-octets (sym (first-lsp ws f.text f.lsp) ∙ first-try ws q s))
words-agree ws said (Memory error) s f = tt

pub said-agrees : (line : List ℕ) (said : Line) (fault : LineFault) → LineSays line said → IsLineFault line fault → IsMemory fault
said-agrees line said TooLong s f = absurd (omega (arith, s.short))
said-agrees line said UnknownWord s f = words-agree (words_of line) said UnknownWord s.says f.1
said-agrees line said BadForm s f = words-agree (words_of line) said BadForm s.says f.1
said-agrees line said BadHex s f = words-agree (words_of line) said BadHex s.says f.1
said-agrees line said (Memory error) s f = tt

-- ---- there is one meaning, and one fault

tries-once : (ws : List (List ℕ)) (a b : Command) → SaysTry ws a → SaysTry ws b → a ≡ b
tries-once [] a b s t = absurd s
tries-once (first ∷ rest) a b s t = said-once rest a b s.2 t.2

words-once : (ws : List (List ℕ)) (a b : Line) → WordsSay ws a → WordsSay ws b → a ≡ b
words-once ws Nothing Nothing s t = refl
words-once ws Nothing (Word d) s t = absurd (not-both ws s (known-of ws d t))
words-once ws (Word c) Nothing s t = absurd (not-both ws t (known-of ws c s))
words-once ws Nothing (Try d) s t = absurd (not-both ws s (known-try ws d t))
words-once ws (Try c) Nothing s t = absurd (not-both ws t (known-try ws c s))
words-once ws (Word c) (Try d) s t = absurd (no-command-tries ws c (first-try ws d t) s)
words-once ws (Try c) (Word d) s t = absurd (no-command-tries ws d (first-try ws c s) t)
words-once ws (Try c) (Try d) s t = ap (λ (question : Command). Try question) (tries-once ws c d s t)
words-once ws (Word c) (Word d) s t = ap (λ (command : Command). Word command) (said-once ws c d s t)

pub one-thing : (line : List ℕ) (a b : Line) → LineSays line a → LineSays line b → a ≡ b
one-thing line a b s t = words-once (words_of line) a b s.says t.says

pub faults-agree : (line : List ℕ) (a b : LineFault) → IsLineFault line a → IsLineFault line b → (a ≡ b) ⊎ IsMemory a ⊎ IsMemory b
faults-agree line (Memory error) b f g = inr (inl tt)
faults-agree line a (Memory error) f g = inr (inr tt)
faults-agree line TooLong TooLong f g = inl refl
faults-agree line TooLong UnknownWord f g = absurd (omega (arith, g.0))
faults-agree line TooLong BadForm f g = absurd (omega (arith, g.0))
faults-agree line TooLong BadHex f g = absurd (omega (arith, g.0))
faults-agree line UnknownWord TooLong f g = absurd (omega (arith, f.0))
faults-agree line UnknownWord UnknownWord f g = inl refl
faults-agree line UnknownWord BadForm f g = absurd (not-unknown (words_of line) g.1.known f.1)
faults-agree line UnknownWord BadHex f g = absurd (not-unknown (words_of line) (hex-known (words_of line) g.1) f.1)
faults-agree line BadForm TooLong f g = absurd (omega (arith, f.0))
faults-agree line BadForm UnknownWord f g = absurd (not-unknown (words_of line) f.1.known g.1)
faults-agree line BadForm BadForm f g = inl refl
faults-agree line BadForm BadHex f g = absurd (f.1.other g.1.text g.1.lsp)
faults-agree line BadHex TooLong f g = absurd (omega (arith, f.0))
faults-agree line BadHex UnknownWord f g = absurd (not-unknown (words_of line) (hex-known (words_of line) f.1) g.1)
faults-agree line BadHex BadForm f g = absurd (g.1.other f.1.text f.1.lsp)
faults-agree line BadHex BadHex f g = inl refl

-- ---- lines

pub line-refused : (line : List ℕ) (fault : LineFault) → IsShortLine line → IsWordsFault (words_of line) fault → IsLineFault line fault
line-refused line TooLong short f = absurd f
line-refused line UnknownWord short f = (short, f)
line-refused line BadForm short f = (short, f)
line-refused line BadHex short f = (short, f)
line-refused line (Memory error) short f = tt

-- a line without bytes says nothing
empty-line : LineSays [] Nothing
unfolding words pieces
empty-line = record { short = omega arith; says = tt }

pub empty-said : (line : List ℕ) → length line ≡ 0 → LineSays line Nothing
empty-said [] e = empty-line
empty-said (byte ∷ bytes) e = absurd (omega (arith, e))
