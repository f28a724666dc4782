-- Entries of a logbook and the versions among them.
use Rattle.std.proofs.Common.{◌≡◌, ℕ, suc, ◌≤◌, Bool, true, false, List, [], ◌∷◌, ◌++◌, length, refl, ap, sym, ◌∙◌, subst, arith, MatchBool}
use Rattle.std.proofs.lemmas.Bool.Decides.{nat_tests}
use lib.Dec.{leb}
use mathlib.Core.List.{IsPrefix}
use Rattle.sr_store.specs.declared.history.LogEntry.{LogEntry}
use Rattle.sr_store.specs.declared.history.LogEntry.TheVariants.{Version, Mark}
use Rattle.logbook.specs.Pages.{Book}
use Rattle.sr_store.specs.Entries.{entries_of, entry_versions}
use Rattle.sr_store.specs.Histories.{History, Begins}
use Rattle.sr_store.proofs.Fronts.{prefix_shorter}

pub entries-push : {V : Type 0} (vs : List V) (v : V) → entries_of vs false ++ Version v ∷ [] ≡ entries_of (vs ++ v ∷ []) false
entries-push [] v = refl
entries-push (w ∷ vs) v = ap (λ es. Version w ∷ es) (entries-push vs v)

pub entries-mark : {V : Type 0} (vs : List V) → entries_of vs false ++ Mark ∷ [] ≡ entries_of vs true
entries-mark [] = refl
entries-mark (w ∷ vs) = ap (λ es. Version w ∷ es) (entries-mark vs)

pub entries-length : {V : Type 0} (vs : List V) → length (entries_of vs false) ≡ length vs
entries-length [] = refl
entries-length (v ∷ vs) = ap (λ n. suc n) (entries-length vs)

pub versions-append : {V : Type 0} (es fs : List (LogEntry V)) → entry_versions (es ++ fs) ≡ entry_versions es ++ entry_versions fs
versions-append [] fs = refl
versions-append (Version v ∷ es) fs = ap (λ vs. v ∷ vs) (versions-append es fs)
versions-append (Mark ∷ es) fs = versions-append es fs

pub versions-prefix : {V : Type 0} (es fs : List (LogEntry V)) → IsPrefix es fs → IsPrefix (entry_versions es) (entry_versions fs)
versions-prefix es fs p = (entry_versions p.0, sym (versions-append es p.0) ∙ ap entry_versions p.1)

-- nothing stands after a mark
pub mark-last : {V : Type 0} (vs ws : List V) (closed : Bool) → IsPrefix (entries_of vs true) (entries_of ws closed)
    → (vs ≡ ws) × (closed ≡ true)
mark-last [] [] true p = (refl, refl)
mark-last [] [] false p = absurd (cc (p.1))
mark-last [] (w ∷ ws) closed p = absurd (cc (p.1))
mark-last (v ∷ vs) [] true p = absurd (cc (p.1))
mark-last (v ∷ vs) [] false p = absurd (cc (p.1))
mark-last (v ∷ vs) (w ∷ ws) closed p =
    let rest = mark-last vs ws closed (p.0, cc (p.1)) in (cc (p.1, rest.0), rest.1)

abbrev pub history_of : {V : Type 0} → Book → List (LogEntry V) → Bool → History V
history_of store entries closed = record { store = store; versions = entry_versions entries; closed = closed }

-- what begins another in the logbook begins it as a history
pub entries-begin : {V : Type 0} (one other : Book) (es fs : List (LogEntry V)) (c d : Bool) → one ≡ other
    → es ≡ entries_of (entry_versions es) c → fs ≡ entries_of (entry_versions fs) d → IsPrefix es fs
    → Begins (history_of one es c) (history_of other fs d)
entries-begin {V} one other es fs c d same left right p = record {
  store = same;
  versions = versions-prefix es fs p;
  closed = λ (ends : c ≡ true).
      let marked : es ≡ entries_of (entry_versions es) true = left ∙ ap (λ b. entries_of (entry_versions es) b) ends in
      let q : IsPrefix (entries_of (entry_versions es) true) (entries_of (entry_versions fs) d) = subst (λ l. IsPrefix l (entries_of (entry_versions fs) d)) marked (subst (λ l. IsPrefix es l) right p) in
      let all = mark-last (entry_versions es) (entry_versions fs) d q in
      cc (same, ends, all.0, all.1);
}

-- of two beginnings of one list the test of their lengths tells which begins which
pub by-length : {V : Type 0} (es fs all : List V) (m n : ℕ) (P Q : Type 0) → m ≡ length es → n ≡ length fs → IsPrefix es all → IsPrefix fs all
    → (IsPrefix es fs → P) → (IsPrefix fs es → Q) → (b : Bool) → leb m n ≡ b → MatchBool b P Q
by-length es fs all m n P Q here there p q so other true is =
    let less : m ≤ n = grind (arith, nat_tests) in so (prefix_shorter es fs all p q (omega (arith, less, here, there)))
by-length es fs all m n P Q here there p q so other false is =
    let less : n ≤ m = grind (arith, nat_tests) in other (prefix_shorter fs es all q p (omega (arith, less, here, there)))
