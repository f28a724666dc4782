-- Lines that are answered one after the other.
use Rattle.std.proofs.Common.{◌≡◌, ℕ, zero, suc, ◌+◌, ◌-◌, ◌<◌, List, [], ◌∷◌, ◌++◌, refl, sym, ap, subst, ◌∙◌, arith, append_assoc, append-nil}
use Rattle.std.specs.List.{flat_map, range_with_len}
use Rattle.std.specs.declared.alloc.AllocError.{AllocError}
use Rattle.std.proofs.lemmas.List.Concat.{flat_map-append}
use Rattle.sr_base.specs.declared.SinkFault.{SinkFault}
use Rattle.sr_base.specs.declared.SinkFault.TheVariants.{Memory}
use Rattle.sr_engine.specs.Written.{Written, Says, Breaks}
use Rattle.sr_engine.proofs.Answering.{breaks-more, breaks-nothing, breaks-then, says-then}
use Rattle.sr_make.specs.declared.pairs.MadePair.{MadePair}
use Rattle.sr_make.specs.Script.{lsp_line, lsp_lines}
use Rattle.sr_make.proofs.PairLemmas.{range-more}

-- the lines of the first nodes, and the line of the next one
pub lines-next : (pairs : List MadePair) (n : ℕ) → lsp_lines pairs n ++ lsp_line pairs (n + 1) ≡ lsp_lines pairs (n + 1)
lines-next pairs n =
    let at : 1 + n ≡ n + 1 = omega arith in
    ap (λ l. lsp_lines pairs n ++ l) (sym (append-nil (lsp_line pairs (n + 1))))
    ∙ sym (flat_map-append (lsp_line pairs) (range_with_len 1 n) ((n + 1) ∷ []))
    ∙ ap (flat_map (lsp_line pairs)) (ap (λ m. range_with_len 1 n ++ m ∷ []) (sym at) ∙ sym (range-more 1 n))

-- the lines of all nodes begin with those of the first ones
pub lines-begin : (pairs : List MadePair) (n more : ℕ) → (rest : List ℕ) × (lsp_lines pairs n ++ rest ≡ lsp_lines pairs (n + more))
lines-begin pairs n zero = ([], append-nil (lsp_lines pairs n) ∙ ap (lsp_lines pairs) (omega arith))
lines-begin pairs n (suc more) =
    let h = lines-begin pairs n more in (
      h.0 ++ lsp_line pairs (n + more + 1),
      sym (append_assoc (lsp_lines pairs n) h.0 (lsp_line pairs (n + more + 1))) ∙ ap (λ l. l ++ lsp_line pairs (n + more + 1)) h.1 ∙ lines-next pairs (n + more) ∙ ap (lsp_lines pairs) (omega arith),
    )

-- the line of one more node was answered
pub lines-said : (pairs : List MadePair) (n : ℕ) (a b c : Written) (line : List ℕ) → line ≡ lsp_line pairs (n + 1)
    → Says a b (lsp_lines pairs n) → Says b c line → Says a c (lsp_lines pairs (n + 1))
lines-said pairs n a b c line is p q =
    subst (Says a c) (ap (λ l. lsp_lines pairs n ++ l) is ∙ lines-next pairs n) (says-then a b c (lsp_lines pairs n) line p q)

-- a fault came in the line of one more node
pub lines-broke : (pairs : List MadePair) (n nodes : ℕ) (a b c : Written) (line : List ℕ) (fault : SinkFault) → n < nodes → line ≡ lsp_line pairs (n + 1)
    → Says a b (lsp_lines pairs n) → Breaks b c line fault → Breaks a c (lsp_lines pairs nodes) fault
lines-broke pairs n nodes a b c line fault less is p q =
    let front = subst (λ l. Breaks a c l fault) (ap (λ l. lsp_lines pairs n ++ l) is ∙ lines-next pairs n) (breaks-then a b c (lsp_lines pairs n) line fault p q) in
    let more = lines-begin pairs (n + 1) (nodes - (n + 1)) in
    let all : n + 1 + (nodes - (n + 1)) ≡ nodes = omega (arith, less) in
    subst (λ l. Breaks a c l fault) (more.1 ∙ ap (lsp_lines pairs) all) (breaks-more a c (lsp_lines pairs (n + 1)) more.0 fault front)

-- memory was wanted before the line of one more node
pub lines-stopped : (pairs : List MadePair) (n nodes : ℕ) (a b : Written) (error : AllocError) → n < nodes
    → Says a b (lsp_lines pairs n) → Breaks a b (lsp_lines pairs nodes) (Memory error)
lines-stopped pairs n nodes a b error less p =
    let none = breaks-nothing b error in
    lines-broke pairs n nodes a b b (lsp_line pairs (n + 1)) (Memory error) less refl p (breaks-more b b [] (lsp_line pairs (n + 1)) (Memory error) none)
