-- How a last line without a line feed is answered, and the end.
use Rattle.std.proofs.Common.{◌≡◌, ◌≢◌, ℕ, Bool, true, false, List, [], ◌∷◌, ◌++◌, length, refl, sym, ap, subst, ◌∙◌, eqb-true, eq-eqb, inl, inr, ⊎_elim}
use Rattle.std.specs.Bool.{◌==◌}
use Rattle.sr_base.specs.declared.SinkFault.{SinkFault}
use Rattle.sr_engine.specs.Lines.{head_of, last_line}
use Rattle.sr_engine.specs.Replies.{Allowed, Closing, Conduct, Replies, Gave, Broke, HasSome, AtEnd, ThenEnds, ToHead, ToLast}
use Rattle.sr_engine.specs.Written.{Written, Breaks}
use Rattle.sr_engine.proofs.Steps.{kept-none, kept-nothing, empty}
use Rattle.sr_engine.proofs.Answering.{says-nothing, says-then, breaks-then, breaks-more, replies-one}

-- ---- the end of the script

-- the end answers nothing
pub ends-silent : {S : Type 0} (ends : Closing S) (old new : S) (a : Written) → ends old [] new → Gave (AtEnd ends old) a a false new
ends-silent ends old new a end = record { said = []; says = says-nothing a; is = (refl, end) }

-- ---- the last line

last-none : {S : Type 0} (conduct : Conduct S) (old : S) (number : ℕ) (head said : List ℕ) (refused : Bool) (new : S)
    → head ≡ [] → AtEnd conduct.ends old said refused new → ToLast conduct old number head said refused new
last-none conduct old number head said refused new none end = λ rest is.
    let e : rest ≡ [] = kept-none head rest none is in
    subst (λ l. ThenEnds (Replies conduct.answers old number (last_line l)) conduct.ends said refused new) (sym e)
    (record { front = []; last = old; is = (refl, end.0, refl); tail = said; end = end.1; whole = refl })

one-line : (rest head : List ℕ) → head ≢ [] → head ≡ head_of rest → last_line rest ≡ rest ∷ []
one-line [] head some is = absurd (some (is ∙ sym kept-nothing))
one-line (x ∷ xs) head some is = refl

last-line : {S : Type 0} (conduct : Conduct S) (old mid new : S) (number : ℕ) (head said tail : List ℕ) (refused : Bool)
    → head ≢ [] → ToHead conduct.answers old number head said refused mid → conduct.ends mid tail new
    → ToLast conduct old number head (said ++ tail) refused new
last-line conduct old mid new number head said tail refused some a end = λ rest is. record {
  front = said;
  last = mid;
  is = subst (λ l. Replies conduct.answers old number l said refused mid) (sym (one-line rest head some is)) (replies-one conduct.answers old number rest said refused mid (a rest is));
  tail = tail;
  end = end;
  whole = refl;
}

-- there is no last line, and the end was answered so
pub ends-none : {S : Type 0} (conduct : Conduct S) (old : S) {new : S} (number : ℕ) {head : List ℕ} {before after : Written}
    → head ≡ [] → Gave (AtEnd conduct.ends old) before after false new → Gave (ToLast conduct old number head) before after false new
ends-none {S} conduct old {new} number {head} {before} {after} none g = record { said = g.said; says = g.says; is = last-none conduct old number head g.said false new none g.is }

-- there is no last line, and a fault came while the end was answered
pub ends-none-broken : {S : Type 0} (conduct : Conduct S) (old : S) (number : ℕ) {head : List ℕ} {before after : Written} {fault : SinkFault}
    → head ≡ [] → Broke (AtEnd conduct.ends old) before after fault → Broke (ToLast conduct old number head) before after fault
ends-none-broken {S} conduct old number {head} {before} {after} {fault} none b = record {
  text = b.text;
  breaks = b.breaks;
  begins = ⊎_elim {A = b.text ≡ []} {B = HasSome (AtEnd conduct.ends old) b.text} (λ e. inl e)
      (λ s. inr (record { refused = s.refused; new = s.new; is = last-none conduct old number head b.text s.refused s.new none s.is })) b.begins;
}

-- the last line was answered so, and then the end
pub ends-line : {S : Type 0} (conduct : Conduct S) (old mid : S) {new : S} (number : ℕ) {head : List ℕ} {before now after : Written} {again : Bool}
    → head ≢ [] → Gave (ToHead conduct.answers old number head) before now again mid → Gave (AtEnd conduct.ends mid) now after false new
    → Gave (ToLast conduct old number head) before after again new
ends-line {S} conduct old mid {new} number {head} {before} {now} {after} {again} some g e = record {
  said = g.said ++ e.said;
  says = says-then before now after g.said e.said g.says e.says;
  is = last-line conduct old mid new number head g.said e.said again some g.is e.is.1;
}

-- from each state that an answer to this line leaves, the end has an answer
abbrev pub EndAnswers : {S : Type 0} → Allowed S → Closing S → Type 0
EndAnswers {S} line ends = (said : List ℕ) (again : Bool) (mid : S) → line said again mid → (tail : List ℕ) × HasSome (AtEnd ends mid) tail

-- the last line was answered so, and a beginning of what the end answers
last-stopped : {S : Type 0} (conduct : Conduct S) (old mid : S) (number : ℕ) (head : List ℕ) (before now after : Written) (again : Bool) (fault : SinkFault)
    → head ≢ [] → (g : Gave (ToHead conduct.answers old number head) before now again mid) → (text : List ℕ) → Breaks now after text fault → HasSome (AtEnd conduct.ends mid) text
    → Broke (ToLast conduct old number head) before after fault
last-stopped conduct old mid number head before now after again fault some g text b s = record {
  text = g.said ++ text;
  breaks = breaks-then before now after g.said text fault g.says b;
  begins = inr (record { refused = again; new = s.new; is = last-line conduct old mid s.new number head g.said text again some g.is s.is.1 });
}

-- the last line was answered so, and a fault came while the end was
pub ends-line-broken : {S : Type 0} (conduct : Conduct S) (old mid : S) (number : ℕ) {head : List ℕ} {before now after : Written} {again : Bool} {fault : SinkFault}
    → EndAnswers (ToHead conduct.answers old number head) conduct.ends
    → head ≢ [] → Gave (ToHead conduct.answers old number head) before now again mid → Broke (AtEnd conduct.ends mid) now after fault
    → Broke (ToLast conduct old number head) before after fault
ends-line-broken {S} conduct old mid number {head} {before} {now} {after} {again} {fault} always some g b =
    let e = always g.said again mid g.is in
    ⊎_elim {A = b.text ≡ []} {B = HasSome (AtEnd conduct.ends mid) b.text} {C = Broke (ToLast conduct old number head) before after fault}
    (λ none. last-stopped conduct old mid number head before now after again fault some g e.0 (breaks-more now after [] e.0 fault (subst (λ l. Breaks now after l fault) none b.breaks)) e.1)
    (λ s. last-stopped conduct old mid number head before now after again fault some g b.text b.breaks s)
    b.begins

-- a fault came while the last line was answered
pub ends-broken : {S : Type 0} (conduct : Conduct S) (old : S) (number : ℕ) {head : List ℕ} {before after : Written} {fault : SinkFault}
    → EndAnswers (ToHead conduct.answers old number head) conduct.ends
    → head ≢ [] → Broke (ToHead conduct.answers old number head) before after fault → Broke (ToLast conduct old number head) before after fault
ends-broken {S} conduct old number {head} {before} {after} {fault} always some b =
    ⊎_elim {A = b.text ≡ []} {B = HasSome (ToHead conduct.answers old number head) b.text} {C = Broke (ToLast conduct old number head) before after fault}
    (λ none. record { text = b.text; breaks = b.breaks; begins = inl none })
    (λ h.
    let e = always b.text h.refused h.new h.is in
    record {
      text = b.text ++ e.0;
      breaks = breaks-more before after b.text e.0 fault b.breaks;
      begins = inr (record { refused = h.refused; new = e.1.new; is = last-line conduct old h.new e.1.new number head b.text e.0 h.refused some h.is e.1.is.1 });
    })
    b.begins

-- ---- whether there is a last line

pub no-bytes : (head : List ℕ) → true ≡ (length head == 0) → head ≡ []
no-bytes head e = empty head (eqb-true (length head) 0 (sym e))

pub some-bytes : (head : List ℕ) → false ≡ (length head == 0) → head ≢ []
some-bytes head e = λ h. let t : (length head == 0) ≡ true = eq-eqb (length head) 0 (ap length h) in let f : false ≡ true = e ∙ t in cc
