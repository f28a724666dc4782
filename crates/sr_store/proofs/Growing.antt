-- A front with one more entry.
use Rattle.std.proofs.Common.{◌≡◌, ℕ, ◌+◌, ◌<◌, ◌≤◌, ◌^◌, true, false, List, [], ◌∷◌, ◌++◌, length, ap, sym, ◌∙◌, subst, arith, length-append}
use Rattle.std.proofs.lemmas.List.{append-nil}
use Rattle.sr_store.specs.declared.history.LogEntry.{LogEntry}
use Rattle.sr_store.specs.declared.history.LogEntry.TheVariants.{Version, Mark}
use Rattle.sr_store.specs.Entries.{entries_of, entry_versions}
use Rattle.sr_store.specs.Fronts.{IsFront}
use Rattle.sr_store.specs.Histories.{IsNext, NumbersRise}
use Rattle.sr_store.proofs.Entries.{entries-push, entries-mark, entries-length, versions-append}
use Rattle.sr_store.proofs.Numbers.{rise-push, rise-bound}
use Rattle.sr_seq.proofs.ListLemmas.{get-last}

module _ {V : Type 0} (number : V → ℕ) where
  pub front-room : (count : ℕ) (log : List (LogEntry V)) → IsFront number count log false → count ≤ 2 ^ 32
  front-room count log f = omega (arith, f.count, ap length f.entries, entries-length (entry_versions log), f.few)

  pub front-push : (count : ℕ) (log now : List (LogEntry V)) (v : V) → IsFront number count log false → IsNext number (entry_versions log) v
      → number v < 2 ^ 32 → now ≡ log ++ Version v ∷ [] → IsFront number (count + 1) now false
  front-push count log now v f next small is =
      let vs = entry_versions log in
      let all : entry_versions now ≡ vs ++ v ∷ [] = ap entry_versions is ∙ versions-append log (Version v ∷ []) in
      let rise = rise-push number vs v f.rise next in
      let place = rise-bound number (vs ++ v ∷ []) rise (length vs) v (get-last vs v) in
      record {
        count = omega (arith, f.count, ap length is, length-append log (Version v ∷ []));
        entries = is ∙ (ap (λ es. es ++ Version v ∷ []) f.entries ∙ (entries-push vs v ∙ ap (λ ws. entries_of ws false) (sym all)));
        few = omega (arith, ap length all, length-append vs (v ∷ []), place, small);
        rise = subst (λ ws. NumbersRise number ws) (sym all) rise;
      }

  pub front-mark : (count : ℕ) (log now : List (LogEntry V)) → IsFront number count log false → now ≡ log ++ Mark ∷ []
      → IsFront number (count + 1) now true
  front-mark count log now f is =
      let vs = entry_versions log in
      let all : entry_versions now ≡ vs = ap entry_versions is ∙ (versions-append log (Mark ∷ []) ∙ append-nil vs) in
      record {
        count = omega (arith, f.count, ap length is, length-append log (Mark ∷ []));
        entries = is ∙ (ap (λ es. es ++ Mark ∷ []) f.entries ∙ (entries-mark vs ∙ ap (λ ws. entries_of ws true) (sym all)));
        few = omega (arith, ap length all, f.few);
        rise = subst (λ ws. NumbersRise number ws) (sym all) f.rise;
      }
