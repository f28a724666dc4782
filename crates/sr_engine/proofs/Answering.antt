-- Laws of what is written and answered.
use Rattle.std.proofs.Common.{◌≡◌, ℕ, suc, ◌+◌, Bool, false, ◌||◌, List, [], ◌∷◌, ◌++◌, length, refl, sym, ap, subst, ◌∙◌, arith, append_assoc, append-nil, inl, inr, ⊎_elim, Ok, Err}
use Rattle.std.specs.declared.result.Result.{Result}
use Rattle.std.proofs.KnownBytes.{Appends-trans, Appends-nil}
use Rattle.sr_base.specs.declared.SinkFault.{SinkFault}
use Rattle.sr_base.specs.declared.SinkFault.TheVariants.{Memory}
use Rattle.std.specs.declared.alloc.AllocError.{AllocError}
use Rattle.sr_base.specs.Writing.{CauseOf}
use Rattle.sr_engine.specs.Written.{Written, Says, Breaks}
use Rattle.sr_engine.specs.Replies.{Allowed, Answering, Replies, Gives}
use Rattle.sr_engine.proofs.Steps.{or_assoc, or_false}

-- ---- answers

-- the answers to some lines, and to those behind them
pub replies-then : {S : Type 0} (answers : Answering S) (old : S) (number : ℕ) (first second : List (List ℕ)) (said more : List ℕ) (here later : Bool) (mid new : S)
    → Replies answers old number first said here mid → Replies answers mid (number + length first) second more later new
    → Replies answers old number (first ++ second) (said ++ more) (here || later) new
replies-then answers old number [] second said more here later mid new p q =
    let out : more ≡ said ++ more = sym (ap (λ l. l ++ more) p.0) in
    let refusal : later ≡ here || later = sym (ap (λ r. r || later) p.1) in
    let at : number + 0 ≡ number = omega arith in
    let q1 = subst (λ n. Replies answers mid n second more later new) at q in
    let q2 = subst (λ s. Replies answers s number second more later new) p.2 q1 in
    let q3 = subst (λ l. Replies answers old number second l later new) out q2 in
    subst (λ r. Replies answers old number second (said ++ more) r new) refusal q3
replies-then answers old number (line ∷ first) second said more here later mid new p q =
    let at : number + suc (length first) ≡ number + 1 + length first = omega arith in
    let q1 = subst (λ n. Replies answers mid n second more later new) at q in (
      p.0,
      p.1,
      p.2,
      p.3 ++ more,
      p.4 || later,
      p.5,
      replies-then answers p.0 (number + 1) first second p.3 more p.4 later mid new p.6 q1,
      ap (λ l. l ++ more) p.7 ∙ append_assoc p.1 p.3 more,
      ap (λ r. r || later) p.8 ∙ or_assoc p.2 p.4 later,
    )

-- the answer to one line
pub replies-one : {S : Type 0} (answers : Answering S) (old : S) (number : ℕ) (line said : List ℕ) (refused : Bool) (new : S)
    → answers old number line said refused new → Replies answers old number (line ∷ []) said refused new
replies-one answers old number line said refused new a =
    (new, said, refused, [], false, a, (refl, refl, refl), sym (append-nil said), sym (or_false refused))

-- ---- what is written

-- nothing at all
pub says-nothing : (a : Written) → Says a a []
says-nothing a = record { given = []; appended = Appends-nil a.held; rest = append-nil a.gathered; faults = refl }

-- one text after the other
pub says-then : (a b c : Written) (x y : List ℕ) → Says a b x → Says b c y → Says a c (x ++ y)
says-then a b c x y p q = record {
  given = p.given ++ q.given;
  appended = Appends-trans a.held b.held c.held p.given q.given p.appended q.appended;
  rest = sym (append_assoc a.gathered x y) ∙ ap (λ l. l ++ y) p.rest ∙ append_assoc p.given b.gathered y ∙ ap (λ l. p.given ++ l) q.rest ∙ sym (append_assoc p.given q.given c.gathered);
  faults = q.faults ∙ p.faults;
}

-- a fault in the second text
pub breaks-then : (a b c : Written) (x y : List ℕ) (fault : SinkFault) → Says a b x → Breaks b c y fault → Breaks a c (x ++ y) fault
breaks-then a b c x y fault p q = record {
  given = p.given ++ q.given;
  more = q.more;
  appended = Appends-trans a.held b.held c.held p.given q.given p.appended q.appended;
  rest = sym (append_assoc a.gathered x y) ∙ ap (λ l. l ++ y) p.rest ∙ append_assoc p.given b.gathered y ∙ ap (λ l. p.given ++ l) q.rest ∙ sym (append_assoc p.given q.given q.more);
  cause = subst (λ n. CauseOf n c.faults fault) p.faults q.cause;
}

-- what would have come after the fault
pub breaks-more : (a b : Written) (x y : List ℕ) (fault : SinkFault) → Breaks a b x fault → Breaks a b (x ++ y) fault
breaks-more a b x y fault p = record {
  given = p.given;
  more = p.more ++ y;
  appended = p.appended;
  rest = sym (append_assoc a.gathered x y) ∙ ap (λ l. l ++ y) p.rest ∙ append_assoc p.given p.more y;
  cause = p.cause;
}

-- what a command gave, where each answer that it allows is allowed further out
pub gives-map : {S : Type 0} (A B : Allowed S) (before after : Written) (result : Result Bool SinkFault) (new : S)
    → ((said : List ℕ) (refused : Bool) (next : S) → A said refused next → B said refused next)
    → Gives A before after result new → Gives B before after result new
gives-map A B before after (Ok refused) new f g = record { said = g.said; says = g.says; is = f g.said refused new g.is }
gives-map A B before after (Err fault) new f g = record {
  text = g.text;
  breaks = g.breaks;
  begins = ⊎_elim (λ e. inl e) (λ h. inr (record { refused = h.refused; new = h.new; is = f g.text h.refused h.new h.is })) g.begins;
}

-- a command that answered one text
pub gives-text : {S : Type 0} (A : Allowed S) (before after : Written) (text : List ℕ) (refused : Bool) (new : S) → Says before after text → A text refused new → Gives A before after (Ok refused) new
gives-text A before after text refused new says is = record { said = text; says = says; is = is }

-- a fault came while a command answered one text
pub breaks-text : {S : Type 0} (A : Allowed S) (before after : Written) (text : List ℕ) (refused : Bool) (next new : S) (fault : SinkFault) → Breaks before after text fault → A text refused next → Gives A before after (Err fault) new
breaks-text A before after text refused next new fault breaks is = record { text = text; breaks = breaks; begins = inr (record { refused = refused; new = next; is = is }) }

-- memory was wanted before anything was answered
pub breaks-nothing : (a : Written) (error : AllocError) → Breaks a a [] (Memory error)
breaks-nothing a error = record { given = []; more = a.gathered; appended = Appends-nil a.held; rest = append-nil a.gathered; cause = refl }
