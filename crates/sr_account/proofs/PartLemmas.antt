-- Why a part isn't used, from the reasons of its kind.
use Rattle.std.proofs.Common.{◌≡◌, ◌≢◌, ℕ, ◌==◌, ◌&&◌, not, Bool, true, false, cond, Option, Some, None, refl, arith, ap, sym, ◌∙◌, subst}
use Rattle.std.proofs.lemmas.Bool.Decides.{nat_tests}
use Rattle.sr_lsp.specs.declared.reach.Reach.{Reach}
use Rattle.sr_lsp.specs.declared.table.Part.{Part}
use Rattle.sr_lsp.specs.declared.table.Part.TheVariants as part
use Rattle.sr_lsdb.specs.declared.facts.Facts.{Facts}
use Rattle.sr_lsdb.specs.declared.announcement.Announcement.{Announcement}
use Rattle.sr_lsdb.specs.Announcement.{announced_by, announcement_of}
use Rattle.sr_account.specs.declared.aside.Reason.{Reason}
use Rattle.sr_account.specs.Items.{PartPlace}
use Rattle.sr_account.specs.Reasons.{PartFails}
use Rattle.sr_account.specs.Steps.{AnnouncementFails, IsFoundReason}
use Rattle.sr_account.proofs.ReasonLemmas.{reach-announced}

eq-from : (m n : ℕ) (b : Bool) → (m == n) ≡ b → b ≡ true → m ≡ n
eq-from m n b e f = grind (arith, nat_tests)

eq-not : (m n : ℕ) (b : Bool) → (m == n) ≡ b → b ≡ false → m ≢ n
eq-not m n b e f = λ same. (let bad : false ≡ true = sym f ∙ sym e ∙ yes m n same in cc)
  where
    yes : (m n : ℕ) → m ≡ n → (m == n) ≡ true
    yes m n e = grind (arith, nat_tests)

-- an entry that is an announcement
record IsAnnounced (node : ℕ) (reach : Reach) (a : Announcement) : Type 0 where
  real : reach.pseudonode ≡ 0
  other : reach.neighbour ≢ node
  is : announcement_of node reach ≡ a

entry-announced : (node : ℕ) (reach : Reach) (a : Announcement) → announced_by node (part.Reach reach) ≡ Some a → IsAnnounced node reach a
entry-announced node reach a e = by (reach.pseudonode == 0) (reach.neighbour == node) refl refl e
  where
    by : (p q : Bool) → (reach.pseudonode == 0) ≡ p → (reach.neighbour == node) ≡ q → cond (p && not q) (Some (announcement_of node reach)) None ≡ Some a → IsAnnounced node reach a
    by true false u v h = record { real = eq-from reach.pseudonode 0 true u refl; other = eq-not reach.neighbour node false v refl; is = let same : announcement_of node reach ≡ a = cc in same }
    by true true u v h = absurd (cc)
    by false q u v h = absurd (cc)

pub reach-own : (facts : Facts) (place : PartPlace) (said : Part) (reach : Reach) (a : Announcement) (o : Option Reason) → said ≡ part.Reach reach → announced_by place.id.system said ≡ Some a → IsFoundReason (AnnouncementFails facts a) o → IsFoundReason (PartFails facts place said) o
reach-own facts place said reach a o e f verdict =
    let at = entry-announced place.id.system reach a (ap (announced_by place.id.system) (sym e) ∙ f) in
    subst (λ (s : Part). IsFoundReason (PartFails facts place s) o) (sym e)
    (reach-announced facts place.id.system reach o at.real at.other
    (subst (λ (b : Announcement). IsFoundReason (AnnouncementFails facts b) o) (sym at.is) verdict))

-- of a part that is of a kind
pub part-at : (facts : Facts) (place : PartPlace) (said kind : Part) (o : Option Reason) → said ≡ kind → IsFoundReason (PartFails facts place kind) o → IsFoundReason (PartFails facts place said) o
part-at facts place said kind o e verdict = subst (λ (s : Part). IsFoundReason (PartFails facts place s) o) (sym e) verdict
