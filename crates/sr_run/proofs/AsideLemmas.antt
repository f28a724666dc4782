-- What isn't used of facts, as it is written LSP by LSP.
use Rattle.std.proofs.Common.{◌≡◌, ℕ, List, [], ◌∷◌, ◌++◌, length, Option, Some, None, sym, ap, subst, ◌∙◌, append-nil, append_assoc}
use Rattle.std.proofs.lemmas.Grind.{flat_map-append}
use Rattle.std.specs.List.{flat_map}
use Rattle.std.specs.List.Sorted.{IsStrictlySortedBy}
use Rattle.std.specs.Map.{keys_of}
use Rattle.std.specs.declared.result.Result.{Result}
use Rattle.std.specs.declared.result.Result.TheVariants.{Ok, Err}
use Rattle.std.specs.declared.alloc.AllocError.{AllocError}
use Rattle.sr_base.specs.declared.SinkFault.{SinkFault}
use Rattle.sr_base.specs.declared.SinkFault.TheVariants.{Memory}
use Rattle.sr_lsp.specs.declared.lsp.LspId.{LspId}
use Rattle.sr_lsdb.specs.declared.facts.Stored.{Stored}
use Rattle.sr_lsdb.specs.declared.facts.Facts.{Facts}
use Rattle.sr_lsdb.specs.Order.{id_cmp}
use Rattle.sr_account.specs.declared.aside.Aside.{Aside}
use Rattle.sr_account.specs.Asides.{AreAsides, IsAsideCount}
use Rattle.sr_account.specs.Steps.{AddsTold, entry_items}
use Rattle.sr_account.proofs.TakenLemmas.{IsTakenTo, taken-all, taken-next, taken-none}
use Rattle.sr_print.specs.Account.{aside_count_line, aside_line, asides_text}
use Rattle.sr_repair.specs.Version.{NumberedNet}
use Rattle.sr_engine.specs.Written.{Written, Breaks, Puts, Says}
use Rattle.sr_engine.proofs.Answering.{says-nothing, says-then, breaks-then, breaks-more, breaks-nothing}
use Rattle.sr_run.specs.State.{Session}
use Rattle.sr_run.specs.Handlers.{AwaitsAsides, WritesAsides}

-- of what is yet to be written it is known how much it is
pub awaits-count : (facts : Facts) (current : Option NumberedNet) (count : ℕ) → AwaitsAsides facts current count → IsAsideCount facts count
awaits-count facts None count a = absurd a
awaits-count facts (Some version) count a = (a.0, a.1, a.3)

-- so it is for the accepted facts of a session that stays
pub awaits-last : (facts : Facts) (old new : Session) (count : ℕ) → AwaitsAsides old.state.editing.accepted old.state.current count → new ≡ old → facts ≡ new.state.editing.accepted → IsAsideCount facts count
awaits-last facts old new count a same is =
    subst (λ (f : Facts). IsAsideCount f count) (sym (is ∙ ap (λ (s : Session). s.state.editing.accepted) same)) (awaits-count old.state.editing.accepted old.state.current count a)

-- memory ran out before a text
pub puts-none : (a : Written) (text : List ℕ) (error : AllocError) → Puts a a text (Err (Memory error))
puts-none a text error = breaks-more a a [] text (Memory error) (breaks-nothing a error)

-- the lines of the LSPs before these were written
pub record WroteAsides (facts : Facts) (count : ℕ) (es : List (LspId × Stored)) (before now : Written) : Type 0 where
  pub asides : List Aside
  pub are : AreAsides facts asides
  pub long : length asides ≡ count
  pub said : List Aside
  pub taken : IsTakenTo facts asides es said
  pub says : Says before now (flat_map aside_line said)

pub wrote-none : (facts : Facts) (count : ℕ) (es : List (LspId × Stored)) (a : Written) → IsStrictlySortedBy id_cmp (keys_of facts.database) → es ≡ facts.database → IsAsideCount facts count → WroteAsides facts count es a a
wrote-none facts count es a up all c = record { asides = c.0; are = c.1; long = c.2; said = []; taken = taken-none facts c.0 es up c.1 all; says = says-nothing a }

-- the next LSP
pub wrote-more : (facts : Facts) (count : ℕ) (entry : LspId × Stored) (es rest : List (LspId × Stored)) (old new : List Aside) (before now after : Written) → es ≡ entry ∷ rest → old ≡ [] → AddsTold facts (entry_items entry) old new → Says now after (flat_map aside_line new) → WroteAsides facts count es before now → WroteAsides facts count rest before after
wrote-more facts count entry es rest old new before now after step none adds says w = record {
  asides = w.asides;
  are = w.are;
  long = w.long;
  said = w.said ++ new;
  taken = taken-next facts w.asides entry es rest w.said old new step none adds w.taken;
  says = subst (Says before after) (sym (flat_map-append aside_line w.said new)) (says-then before now after (flat_map aside_line w.said) (flat_map aside_line new) w.says says);
}

-- a fault behind the lines of some LSPs: the others have lines, too
broke-behind : (facts : Facts) (asides : List Aside) (es : List (LspId × Stored)) (said : List Aside) (before after : Written) (fault : SinkFault) → AreAsides facts asides → IsTakenTo facts asides es said → Breaks before after (flat_map aside_line said) fault → WritesAsides facts before after (Err fault)
broke-behind facts asides es said before after fault are t b =
    let line = aside_count_line (length asides) in
    let text : flat_map aside_line said ++ (flat_map aside_line t.rest ++ line) ≡ asides_text asides =
    sym (ap (λ (l : List Aside). flat_map aside_line l ++ line) t.all ∙ ap (λ (l : List ℕ). l ++ line) (flat_map-append aside_line said t.rest) ∙ append_assoc (flat_map aside_line said) (flat_map aside_line t.rest) line) in (
      asides,
      are,
      subst (λ (l : List ℕ). Breaks before after l fault) text (breaks-more before after (flat_map aside_line said) (flat_map aside_line t.rest ++ line) fault b),
    )

-- a fault within the lines of the next LSP
pub wrote-broke : (facts : Facts) (count : ℕ) (entry : LspId × Stored) (es rest : List (LspId × Stored)) (old new : List Aside) (before now after : Written) (fault : SinkFault) → es ≡ entry ∷ rest → old ≡ [] → AddsTold facts (entry_items entry) old new → Breaks now after (flat_map aside_line new) fault → WroteAsides facts count es before now → WritesAsides facts before after (Err fault)
wrote-broke facts count entry es rest old new before now after fault step none adds breaks w =
    broke-behind facts w.asides rest (w.said ++ new) before after fault w.are (taken-next facts w.asides entry es rest w.said old new step none adds w.taken)
    (subst (λ (l : List ℕ). Breaks before after l fault) (sym (flat_map-append aside_line w.said new)) (breaks-then before now after (flat_map aside_line w.said) (flat_map aside_line new) fault w.says breaks))

-- memory ran out before them
pub wrote-stopped : (facts : Facts) (count : ℕ) (es : List (LspId × Stored)) (before now : Written) (error : AllocError) → WroteAsides facts count es before now → WritesAsides facts before now (Err (Memory error))
wrote-stopped facts count es before now error w =
    broke-behind facts w.asides es w.said before now (Memory error) w.are w.taken
    (subst (λ (l : List ℕ). Breaks before now l (Memory error)) (append-nil (flat_map aside_line w.said)) (breaks-then before now now (flat_map aside_line w.said) [] (Memory error) w.says (breaks-nothing now error)))

-- behind the lines of all LSPs how many there are
pub asides-written : (facts : Facts) (count : ℕ) (es : List (LspId × Stored)) (before now after : Written) (result : Result (Unit {0}) SinkFault) → es ≡ [] → WroteAsides facts count es before now → Puts now after (aside_count_line count) result → WritesAsides facts before after result
asides-written facts count es before now after result none w puts = (w.asides, w.are, by result puts)
  where
    text : flat_map aside_line w.said ++ aside_count_line count ≡ asides_text w.asides
    text = ap (λ (l : List Aside). flat_map aside_line l ++ aside_count_line count) (taken-all facts w.asides es w.said none w.taken) ∙ ap (λ (n : ℕ). flat_map aside_line w.asides ++ aside_count_line n) (sym w.long)

    by : (r : Result (Unit {0}) SinkFault) → Puts now after (aside_count_line count) r → Puts before after (asides_text w.asides) r
    by (Ok done) p = subst (Says before after) text (says-then before now after (flat_map aside_line w.said) (aside_count_line count) w.says p)
    by (Err fault) p = subst (λ (l : List ℕ). Breaks before after l fault) text (breaks-then before now after (flat_map aside_line w.said) (aside_count_line count) fault w.says p)

-- memory ran out before the first LSP
pub asides-unbegun : (facts : Facts) (count : ℕ) (a : Written) (error : AllocError) → IsAsideCount facts count → WritesAsides facts a a (Err (Memory error))
asides-unbegun facts count a error c = (c.0, c.1, puts-none a (asides_text c.0) error)
