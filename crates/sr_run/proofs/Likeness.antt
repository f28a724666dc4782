-- A conduct that follows another: what one session answers, seen as the answers of a plainer one.
use Rattle.std.proofs.Common.{ℕ, ◌+◌, Bool, List, ◌∷◌, [], ◌++◌, refl, sym, subst, ⊎_elim, inl, inr}
use Rattle.std.specs.declared.option.Option.{Option}
use Rattle.sr_engine.specs.Replies.{Conduct, Replies, Answered, Script}
use Rattle.sr_engine.specs.Endings.{BeginsAnswers, BeginsScript, BeginsOutput}

-- whatever the first answers from a state, to a line or at the end, the second answers from each state that is like it, and their next states are alike
pub record Follows {S T : Type 0} (A : Conduct S) (B : Conduct T) (Like : S → T → Type 0) : Type 0 where
  pub step : (s s' : S) (t : T) (number : ℕ) (line out : List ℕ) (refused : Bool) → A.answers s number line out refused s' → Like s t
      → (t' : T) × B.answers t number line out refused t' × Like s' t'
  pub last : (s s' : S) (t : T) (out : List ℕ) → A.ends s out s' → Like s t → (t' : T) × B.ends t out t' × Like s' t'

module _ {S T : Type 0} (A : Conduct S) (B : Conduct T) (Like : S → T → Type 0) (f : Follows A B Like) where
  replies-like : (s s' : S) (t : T) (number : ℕ) (lines : List (List ℕ)) (out : List ℕ) (refused : Bool)
      → Replies A.answers s number lines out refused s' → Like s t → (t' : T) × Replies B.answers t number lines out refused t' × Like s' t'
  replies-like s s' t number [] out refused h like = (t, (h.0, h.1, refl), subst (λ (x : S). Like x t) (sym h.2) like)
  replies-like s s' t number (x ∷ xs) out refused h like =
      let one = f.step s h.0 t number x h.1 h.2 h.5 like in
      let rest = replies-like h.0 s' one.0 (number + 1) xs h.3 h.4 h.6 one.2 in
      (rest.0, (one.0, h.1, h.2, h.3, h.4, one.1, rest.1, h.7, h.8), rest.2)

  -- the answers to the lines that end within the bytes
  pub answered-like : (s : S) (t : T) (bytes out : List ℕ) → Answered A.answers s bytes out → Like s t → Answered B.answers t bytes out
  answered-like s t bytes out h like =
      let replies = replies-like s h.last t 1 h.lines out h.refused h.replies like in
      record { lines = h.lines; rest = h.rest; splits = h.splits; refused = h.refused; last = replies.0; replies = replies.1 }

  -- the answers to the whole script
  pub script-like : (s s' : S) (t : T) (bytes out : List ℕ) (refused : Bool) → Script A s bytes out refused s' → Like s t → (t' : T) × Script B t bytes out refused t' × Like s' t'
  script-like s s' t bytes out refused h like =
      let replies = replies-like s h.last t 1 _ h.said refused h.replies like in
      let end = f.last h.last s' replies.0 h.tail h.end replies.2 in
      (end.0, record { lines = h.lines; rest = h.rest; splits = h.splits; last = replies.0; said = h.said; replies = replies.1; tail = h.tail; end = end.1; whole = h.whole }, end.2)

  -- a beginning of the answers
  pub begins-like : (s : S) (t : T) (left : Option (List ℕ)) (taken out : List ℕ) → BeginsOutput A s left taken out → Like s t → BeginsOutput B t left taken out
  begins-like s t left taken out h like = ⊎_elim
      (λ (b : BeginsAnswers A.answers s taken out). inl (record { front = b.front; back = b.back; taken_is = b.taken_is; more = b.more; answered = answered-like s t b.front (out ++ b.more) b.answered like }))
      (λ (b : BeginsScript A s left taken out).
      let script = script-like s b.final t taken (out ++ b.more) b.refused b.script like in
      inr (record { at_end = b.at_end; more = b.more; refused = b.refused; final = script.0; script = script.1 }))
      h
