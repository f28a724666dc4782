-- The last turns of readers, one after the other.
use Rattle.std.proofs.Common.{◌≡◌, List, [], ◌∷◌, ◌++◌, Bool, true, sym, ◌∙◌, append_assoc}
use Rattle.std.proofs.lemmas.List.{append-nil}
use Rattle.std.proofs.lemmas.List.Elements.{AllZip-push}
use Rattle.sr_store.specs.declared.reader.Reader.{Reader}
use Rattle.sr_store.specs.Histories.{History, Begins}
use Rattle.sr_store.specs.Seats.{SameSeat, SawMark}
use Rattle.sr_store.specs.Closes.{Ended, SawMarks, HaveEnded, EndedSoFar}

ended-push : {V : Type 0} (list : History V) (rs : List (Reader V)) (es : List Bool) (r : Reader V) (e : Bool)
    → Ended list rs es → (e ≡ true → Begins r.list list) → Ended list (rs ++ r ∷ []) (es ++ e ∷ [])
ended-push list [] [] r e h p = (p, tt)
ended-push list [] (x ∷ xs) r e h p = absurd h
ended-push list (x ∷ xs) [] r e h p = absurd h
ended-push list (x ∷ xs) (y ∷ ys) r e h p = (h.0, ended-push list xs ys r e h.1 p)

marks-push : {V : Type 0} (rs : List (Reader V)) (es : List Bool) (r : Reader V) (e : Bool)
    → SawMarks rs es → (e ≡ true → SawMark r) → SawMarks (rs ++ r ∷ []) (es ++ e ∷ [])
marks-push [] [] r e h p = (p, tt)
marks-push [] (x ∷ xs) r e h p = absurd h
marks-push (x ∷ xs) [] r e h p = absurd h
marks-push (x ∷ xs) (y ∷ ys) r e h p = (h.0, marks-push xs ys r e h.1 p)

pub one-more : {V : Type 0} (list : History V) (all rest back : List (Reader V)) (es : List Bool) (r b : Reader V) (e : Bool)
    → EndedSoFar list all (r ∷ rest) back es → (e ≡ true → Begins r.list list) → SameSeat r b → (e ≡ true → SawMark b)
    → EndedSoFar list all rest (back ++ b ∷ []) (es ++ e ∷ [])
one-more {V} list all rest back es r b e h p seat mark = record {
  past = h.past ++ r ∷ [];
  whole = h.whole ∙ sym (append_assoc h.past (r ∷ []) rest);
  ends = ended-push list h.past es r e h.ends p;
  turned = (AllZip-push (SameSeat {V = V}) h.past back r b h.turned.0 seat, marks-push back es b e h.turned.1 mark);
}

pub all-ended : {V : Type 0} (list : History V) (all back : List (Reader V)) (es : List Bool)
    → EndedSoFar list all [] back es → Ended list all es × HaveEnded all back es
all-ended list all back es h = rw (h.whole ∙ append-nil h.past) (h.ends, h.turned)
