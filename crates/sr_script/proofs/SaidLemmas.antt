-- What words say, command by command: each last clause serves all commands that no other clause names.
use Rattle.std.proofs.Common.{◌≡◌, ◌≢◌, ℕ, List, length, ap, arith}
use Rattle.std.specs.Prelude.{codes, slice_index, IsErr}
use Rattle.hex.specs.Hex.{decode_of}
use Rattle.sr_script.specs.declared.command.Command.{Command}
use Rattle.sr_script.specs.declared.command.Command.TheVariants.{Lsp, ProofRow, ProofDone}
use Rattle.sr_script.specs.Words.{word_at}
use Rattle.sr_script.specs.Says.{SaysCommand, first_word}
use Rattle.sr_script.specs.LineSays.{IsRemark}
use Rattle.sr_script.proofs.CertificateWords.{row-once, done-once}

-- words say at most one command
pub said-once : (ws : List (List ℕ)) (a b : Command) → SaysCommand ws a → SaysCommand ws b → a ≡ b
said-once ws (Lsp octets) b p q = grind arith
said-once ws (ProofRow a) (ProofRow b) p q = row-once ws a b p q
said-once ws (ProofDone a) (ProofDone b) p q = done-once ws a b p q
said-once ws a b p q = grind arith

-- no word that begins a command begins with `#`
pub first-not_remark : (command : Command) → ¬ IsRemark (first_word command)
first-not_remark (Lsp octets) remark = absurd (omega (arith, remark))
first-not_remark command remark = absurd (omega (arith, remark))

-- no command begins with `try`
pub first-not_try : (command : Command) → first_word command ≢ codes "try"
first-not_try (Lsp octets) e = absurd (omega (arith, ap (λ (word : List ℕ). slice_index word 0) e))
first-not_try command e = grind arith

-- a command that begins with `lsp` has two words
pub lsp-length : (ws : List (List ℕ)) (command : Command) → SaysCommand ws command → word_at ws 0 ≡ codes "lsp" → length ws ≡ 2
lsp-length ws (Lsp octets) p first = p.count
lsp-length ws command p first = grind arith

-- and the second is pairs of hexadecimal digits
pub lsp-decoded : (ws : List (List ℕ)) (command : Command) → SaysCommand ws command → word_at ws 0 ≡ codes "lsp" → ¬ IsErr (decode_of (word_at ws 1))
lsp-decoded ws (Lsp octets) p first = grind arith
lsp-decoded ws command p first = grind arith
