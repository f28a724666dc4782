-- What differs between two versions is told alike.
use Rattle.std.proofs.Common.{ℕ, List, [], ◌∷◌, All, Option, Some, None, IfSome, ap}
use Rattle.std.specs.Prelude.{◌==◌, if◌then◌else◌}
use Rattle.std.proofs.lemmas.Bool.{cond_both}
use Rattle.std.proofs.lemmas.List.Elements.{All-head, All-tail}
use Rattle.sr_model.specs.Label.{Net}
use Rattle.sr_model.specs.Rule.{IsNet}
use Rattle.sr_print.specs.declared.refusal.Refusal.TheVariants.{NoSuchVersion}
use Rattle.sr_print.specs.Told.{Told}
use Rattle.sr_print.specs.Told.Told.{Diff as DiffTold}
use Rattle.sr_repair.specs.Version.{NumberedNet}
use Rattle.sr_diff.proofs.DeterminedLemmas.{diffs-one}
use Rattle.sr_run.specs.Domain.{last_version, version_before}
use Rattle.sr_run.specs.Differences.{TellsBetween, TellsDiff, if_numbered, numbered_of}
use Rattle.sr_run.proofs.DeterminedTold.{AreAlike, alike, alike-refused}

-- the net of the version is accepted
abbrev pub HasNet : NumberedNet → Type 0
HasNet version = IsNet version.net

-- so is that of the last of accepted nets
pub last-net : (nets : List Net) → All IsNet nets → IfSome (last_version nets) HasNet
last-net [] are = tt
last-net (net ∷ earlier) are = All-head IsNet net earlier are

-- and that of the one before
pub before-net : (nets : List Net) → All IsNet nets → IfSome (version_before nets) HasNet
before-net [] are = tt
before-net (net ∷ earlier) are = last-net earlier (All-tail IsNet net earlier are)

if-numbered : (number : ℕ) (previous : Option NumberedNet) → IfSome previous HasNet → IfSome (if_numbered number previous) HasNet
if-numbered number None net = tt
if-numbered number (Some version) net =
    cond_both (version.number == number) (Some version) None (λ (o : Option NumberedNet). IfSome o HasNet) (λ yes. net) (λ no. tt)

-- and that of the one of the two that has the number
numbered-net : (number : ℕ) (previous : Option NumberedNet) (version : NumberedNet) → IfSome previous HasNet → IsNet version.net → IfSome (numbered_of number previous version) HasNet
numbered-net number previous version before net =
    cond_both (version.number == number) (Some version) (if_numbered number previous) (λ (o : Option NumberedNet). IfSome o HasNet)
    (λ yes. net) (λ no. if-numbered number previous before)

module _ (version : NumberedNet) (a b : Told) (number : ℕ) where
  between-alike : (old : Option NumberedNet) → IfSome old HasNet → TellsBetween number old version a → TellsBetween number old version b → AreAlike a b
  between-alike None net p q = alike-refused a b (NoSuchVersion number) p q
  between-alike (Some old) net p q =
      alike a b (DiffTold old version.net p.0) (DiffTold old version.net q.0) p.2 q.2
      (ap (DiffTold old version.net) (diffs-one old.net version.net p.0 q.0 net p.1 q.1))

-- what differs between the version of a number and this one
pub diff-alike : (version : NumberedNet) → IsNet version.net → (previous : Option NumberedNet) → IfSome previous HasNet → (a b : Told) (number : ℕ) → TellsDiff number previous version a → TellsDiff number previous version b → AreAlike a b
diff-alike version net previous before a b number p q =
    between-alike version a b number (numbered_of number previous version) (numbered-net number previous version before net) p q
