-- What the words of certificates say: rows, and labels.
use Rattle.std.proofs.Common.{◌≡◌, ℕ, ◌+◌, ◌<◌, ◌≤◌, ◌⊎◌, inl, inr, List, [], ◌∷◌, length, map, drop, Some, None, refl, sym, ap, ◌∙◌, arith}
use Rattle.std.specs.Prelude.{codes}
use Rattle.std.proofs.lemmas.List.{length-map}
use Rattle.sr_script.specs.declared.command.Command.{Command}
use Rattle.sr_script.specs.declared.command.Command.TheVariants.{ProofRow, ProofDone}
use Rattle.sr_script.specs.declared.command.TheConstants.{MOST_CELLS, MOST_LABEL, MOST_LABELS}
use Rattle.sr_script.specs.declared.line.LineFault.{LineFault}
use Rattle.sr_script.specs.declared.line.LineFault.TheVariants.{TooLong, UnknownWord, BadForm, BadHex, Memory}
use Rattle.sr_script.specs.Answers.{IsListFault, IsFormFault}
use Rattle.sr_script.specs.Number.{number_in, number_read, cell_read}
use Rattle.sr_script.specs.Words.{word_at}
use Rattle.sr_script.specs.Says.{SaysCommand}
use Rattle.sr_script.specs.Says.Argument.{Cell, Number}
use Rattle.sr_script.proofs.ListLemmas.{values-one, values-read, values-count, values-given}

-- the words are `proof` and this one, and maybe others
pub record BeginsProof (ws : List (List ℕ)) (second : List ℕ) : Type 0 where
  pub first_is : word_at ws 0 ≡ codes "proof"
  pub second_is : word_at ws 1 ≡ second

-- words of a row or of an end with no word behind say no command
pub none-behind : (ws : List (List ℕ)) (second : List ℕ) → BeginsProof ws second → (second ≡ codes "row") ⊎ (second ≡ codes "done") → length ws < 3
    → (command : Command) → ¬ SaysCommand ws command
none-behind ws second begins either short (ProofRow cells) p = absurd (omega (arith, short, p.count, length-map cells Cell, p.room))
none-behind ws second begins either short (ProofDone []) p = absurd (omega (arith, short, p.count))
none-behind ws second begins either short (ProofDone (label ∷ labels)) p = absurd (omega (arith, short, p.count, length-map labels (Number 0 MOST_LABEL)))
none-behind ws second begins (inl row) short command p = grind (arith, row)
none-behind ws second begins (inr done) short command p = grind (arith, done)

-- ---- rows

pub row-read : (ws : List (List ℕ)) (cells : List ℕ) → SaysCommand ws (ProofRow cells) → map cell_read (drop 2 ws) ≡ map Some cells
row-read ws cells p = values-read cell_read Cell (λ word n given. given) ws 2 cells p.others.1 (omega (arith, p.count, length-map cells Cell))

pub row-said : (ws : List (List ℕ)) (cells : List ℕ) → BeginsProof ws (codes "row") → 3 ≤ length ws → map cell_read (drop 2 ws) ≡ map Some cells
    → length cells ≤ MOST_CELLS → SaysCommand ws (ProofRow cells)
row-said ws cells begins long e most =
    let count : length ws ≡ 2 + length cells = values-count cell_read ws 2 cells (omega (arith, long)) e in
    record {
      first = begins.first_is;
      others = (begins.second_is, values-given cell_read Cell (λ word n read. read) ws 2 cells (omega (arith, long)) e);
      count = omega (arith, count, length-map cells Cell);
      room = (omega (arith, count, long), most);
    }

-- words of a row that give no cells, or too many, say no command
pub row-unsaid : (ws : List (List ℕ)) → BeginsProof ws (codes "row")
    → ((cells : List ℕ) → map cell_read (drop 2 ws) ≡ map Some cells → MOST_CELLS < length cells) → (command : Command) → ¬ SaysCommand ws command
row-unsaid ws begins none (ProofRow cells) p = absurd (omega (arith, none cells (row-read ws cells p), p.room))
row-unsaid ws begins none command p = grind arith

pub row-refused : (ws : List (List ℕ)) (fault : LineFault) → BeginsProof ws (codes "row") → IsListFault (map cell_read (drop 2 ws)) MOST_CELLS fault → IsFormFault ws fault
row-refused ws BadForm begins none = row-unsaid ws begins none
row-refused ws (Memory error) begins none = tt
row-refused ws TooLong begins none = absurd none
row-refused ws UnknownWord begins none = absurd none
row-refused ws BadHex begins none = absurd none

-- ---- labels

-- `none` is no label
none-unread : number_in 0 MOST_LABEL (codes "none") ≡ None
unfolding number_in number_read
none-unread = refl

pub labels-read : (ws : List (List ℕ)) (label : ℕ) (labels : List ℕ) → SaysCommand ws (ProofDone (label ∷ labels))
    → map (number_in 0 MOST_LABEL) (drop 2 ws) ≡ map Some (label ∷ labels)
labels-read ws label labels p =
    values-read (number_in 0 MOST_LABEL) (Number 0 MOST_LABEL) (λ word n given. given) ws 2 (label ∷ labels) p.others.1 (omega (arith, p.count, length-map labels (Number 0 MOST_LABEL)))

pub none-said : (ws : List (List ℕ)) → BeginsProof ws (codes "done") → length ws ≡ 3 → word_at ws 2 ≡ codes "none" → SaysCommand ws (ProofDone [])
none-said ws begins three third = record {
  first = begins.first_is;
  others = (begins.second_is, (third, tt));
  count = three;
  room = omega arith;
}

pub labels-said : (ws : List (List ℕ)) (labels : List ℕ) → BeginsProof ws (codes "done") → 3 ≤ length ws → map (number_in 0 MOST_LABEL) (drop 2 ws) ≡ map Some labels
    → length labels ≤ MOST_LABELS → SaysCommand ws (ProofDone labels)
labels-said ws [] begins long e most = absurd (omega (arith, long, values-count (number_in 0 MOST_LABEL) ws 2 [] (omega (arith, long)) e))
labels-said ws (label ∷ labels) begins long e most =
    let count : length ws ≡ 2 + length (label ∷ labels) = values-count (number_in 0 MOST_LABEL) ws 2 (label ∷ labels) (omega (arith, long)) e in
    record {
      first = begins.first_is;
      others = (begins.second_is, values-given (number_in 0 MOST_LABEL) (Number 0 MOST_LABEL) (λ word n read. read) ws 2 (label ∷ labels) (omega (arith, long)) e);
      count = omega (arith, count, length-map labels (Number 0 MOST_LABEL));
      room = most;
    }

-- words of an end that give no labels, or too many, say no command, unless they are `none` alone
pub labels-unsaid : (ws : List (List ℕ)) → BeginsProof ws (codes "done") → ¬ ((length ws ≡ 3) × (word_at ws 2 ≡ codes "none"))
    → ((labels : List ℕ) → map (number_in 0 MOST_LABEL) (drop 2 ws) ≡ map Some labels → MOST_LABELS < length labels) → (command : Command) → ¬ SaysCommand ws command
labels-unsaid ws begins other none (ProofDone []) p = absurd (other (p.count, p.others.1.0))
labels-unsaid ws begins other none (ProofDone (label ∷ labels)) p = absurd (omega (arith, none (label ∷ labels) (labels-read ws label labels p), p.room))
labels-unsaid ws begins other none command p = grind arith

pub labels-refused : (ws : List (List ℕ)) (fault : LineFault) → BeginsProof ws (codes "done") → ¬ ((length ws ≡ 3) × (word_at ws 2 ≡ codes "none"))
    → IsListFault (map (number_in 0 MOST_LABEL) (drop 2 ws)) MOST_LABELS fault → IsFormFault ws fault
labels-refused ws BadForm begins other none = labels-unsaid ws begins other none
labels-refused ws (Memory error) begins other none = tt
labels-refused ws TooLong begins other none = absurd none
labels-refused ws UnknownWord begins other none = absurd none
labels-refused ws BadHex begins other none = absurd none

-- ---- rows and labels are said once

pub row-once : (ws : List (List ℕ)) (a b : List ℕ) → SaysCommand ws (ProofRow a) → SaysCommand ws (ProofRow b) → ProofRow a ≡ ProofRow b
row-once ws a b p q = ap (λ (cells : List ℕ). ProofRow cells) (values-one a b (sym (row-read ws a p) ∙ row-read ws b q))

none-or-labels : (ws : List (List ℕ)) (label : ℕ) (labels : List ℕ) → SaysCommand ws (ProofDone []) → SaysCommand ws (ProofDone (label ∷ labels)) → ⊥
none-or-labels ws label labels p q = absurd (no-some label (sym none-unread ∙ ap (number_in 0 MOST_LABEL) (sym p.others.1.0) ∙ q.others.1.0))
  where
    no-some : (n : ℕ) → None ≡ Some n → ⊥
    no-some n e = grind arith

pub done-once : (ws : List (List ℕ)) (a b : List ℕ) → SaysCommand ws (ProofDone a) → SaysCommand ws (ProofDone b) → ProofDone a ≡ ProofDone b
done-once ws [] [] p q = refl
done-once ws [] (label ∷ labels) p q = absurd (none-or-labels ws label labels p q)
done-once ws (label ∷ labels) [] p q = absurd (none-or-labels ws label labels q p)
done-once ws (a ∷ ls) (b ∷ ms) p q = ap (λ (labels : List ℕ). ProofDone labels) (values-one (a ∷ ls) (b ∷ ms) (sym (labels-read ws a ls p) ∙ labels-read ws b ms q))
