-- The versions of the accepted commits from a number on.
use Rattle.std.proofs.Common.{◌≡◌, ℕ, suc, ◌+◌, ◌-◌, ◌≤◌, List, [], ◌∷◌, ◌++◌, length, take, reverse, Some, ap, ◌∙◌, arith}
use Rattle.std.proofs.lemmas.List.{length-reverse, length-take, reverse-append}
use Rattle.sr_model.specs.Label.{Net}
use Rattle.sr_repair.specs.Version.{NumberedNet, version_of}
use Rattle.sr_run.specs.Domain.{last_version, versions_of, versions_since}

-- where no version came after this number, there is at most one from it on
pub since-few : (from : ℕ) (nets : List Net) → length nets ≤ from → length (versions_since from nets) ≤ 1
since-few from nets late =
    omega (arith, late, length-reverse (take (length nets + 1 - from) (versions_of nets)), length-take (length nets + 1 - from) (versions_of nets))

-- one more
pub since-more : (from : ℕ) (net : Net) (nets : List Net) → from ≤ length nets + 1 → versions_since from (net ∷ nets) ≡ versions_since from nets ++ version_of (length nets + 1) net ∷ []
since-more from net nets early =
    let count : length (net ∷ nets) + 1 - from ≡ suc (length nets + 1 - from) = omega (arith, early) in
    ap (λ (k : ℕ). reverse (take k (versions_of (net ∷ nets)))) count ∙ reverse-append (version_of (length nets + 1) net ∷ []) (take (length nets + 1 - from) (versions_of nets))

-- the last one alone
pub since-last : (nets : List Net) (version : NumberedNet) → last_version nets ≡ Some version → versions_since version.number nets ≡ version ∷ []
since-last [] version is = cc
since-last (net ∷ nets) version is =
    let same : version_of (length nets + 1) net ≡ version = cc in
    let count : length (net ∷ nets) + 1 - version.number ≡ 1 = omega (arith, ap (λ (v : NumberedNet). v.number) same) in
    ap (λ (k : ℕ). reverse (take k (versions_of (net ∷ nets)))) count ∙ ap (λ (v : NumberedNet). v ∷ []) same

-- its number is how many there are
pub last-number : (nets : List Net) (version : NumberedNet) → last_version nets ≡ Some version → version.number ≡ length nets
last-number [] version is = cc
last-number (net ∷ nets) version is =
    let same : version_of (length nets + 1) net ≡ version = cc in
    omega (arith, ap (λ (v : NumberedNet). v.number) same)
