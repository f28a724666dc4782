-- What is listed in the net in which nothing is lacking, and where the least list is too deep, is a list.
use Rattle.std.proofs.Common.{◌≡◌, ◌≢◌, ℕ, ◌<◌, ⊎_elim, Bool, true, List, [], refl, ap, sym, ◌∙◌, subst}
use Rattle.std.specs.Prelude.{slice_index}
use Rattle.std.proofs.lemmas.Bool.{cases_lt}
use Rattle.sr_model.specs.declared.case.Case.{Case}
use Rattle.sr_model.specs.declared.link.TheConstants.{FAR}
use Rattle.sr_model.specs.declared.repair.Answer.{Answer}
use Rattle.sr_model.specs.declared.repair.Answer.TheVariants.{Least, NoPath, NoList, TooDeep}
use Rattle.sr_model.specs.declared.repair.RepairList.{RepairList}
use Rattle.sr_model.specs.Audit.{is_least}
use Rattle.sr_model.specs.Graph.{Graph, IsGraph, link_count, node_count}
use Rattle.sr_model.specs.Label.{Net}
use Rattle.sr_model.specs.Walk.{IsDistance, IsRow, IsNextHop, IsWalk}
use Rattle.sr_model.specs.Case.{IsAffected, IsFailedSet, IsOutside, source_of}
use Rattle.sr_model.specs.Repair.{Path, IsCaseAnswer, IsSound}
use Rattle.sr_laws.specs.Listed.{IsCaseListed, IsListed}
use Rattle.sr_laws.proofs.Failures.{failed-one}
use Rattle.sr_why.specs.Labelled.{IsLabelled}
use Rattle.sr_why.specs.Listed.{HasList}
use Rattle.sr_why.specs.Reasons.{IsLeastList}
use Rattle.sr_why.proofs.CoverLemmas.{labelled-covers}

-- where a list is sound, a list is listed
is-list : (m : Net) (x : List Bool) (s d : ℕ) (a : Path) → IsSound m x s d a → (answer : Answer) → IsListed m x s d answer → is_least answer ≡ true
is-list m x s d a sound (Least list) i = refl
is-list m x s d a sound NoPath i = absurd (i sound.fits.reached.0 sound.fits.reached.1)
is-list m x s d a sound NoList i = absurd (i.1 a sound)
is-list m x s d a sound (TooDeep k) i = absurd i

-- so it is in a case
case-list : (m : Net) (case : Case) (x : List Bool) → IsFailedSet m.graph case x → (d : ℕ) (a : Path) → IsSound m x (source_of m.graph case) d a → (answer : Answer) → IsCaseListed m case d answer → is_least answer ≡ true
case-list m case x set d a sound answer i =
    is-list m i.failed (source_of m.graph case) d a
    (subst (λ y. IsSound m y (source_of m.graph case) d a) (failed-one m.graph case x i.failed set i.set) sound)
    answer i.listed

-- where no list is sound, there is a list once nothing is lacking
pub labelled-listed : (n m : Net) → IsGraph n.graph → IsLabelled n m → (case : Case) (x : List Bool) → IsFailedSet n.graph case x → (cells : List ℕ) → IsRow n.graph x (source_of n.graph case) cells → (d : ℕ) → d < node_count n.graph → IsAffected n case d → IsCaseAnswer n case d NoList → HasList m case d
labelled-listed n m graph labelled case x set cells row d within affected i =
    let s : ℕ = source_of n.graph case in
    let cell = row.each d within in
    let left = i.answers.0 in
    let walk = subst (λ (y : List Bool). IsWalk n.graph y s left.0 d) (failed-one n.graph case i.failed x i.set set) left.1 in
    let near : slice_index cells d < FAR = ⊎_elim (λ lt. lt) (λ far. absurd (cell.far far left.0 walk)) (cases_lt (slice_index cells d) FAR) in
    let whole : IsDistance m.graph x (source_of m.graph case) d (slice_index cells d) = subst (λ (g : Graph). IsDistance g x (source_of g case) d (slice_index cells d)) (sym labelled.graph) (cell.near near) in
    let apart : source_of m.graph case ≢ d = λ e. affected.outside.source (sym e ∙ ap (λ (g : Graph). source_of g case) labelled.graph) in
    let all = λ (l : ℕ) (lt : l < link_count m.graph). labelled.labels l (subst (λ (g : Graph). l < link_count g) labelled.graph lt) in
    let list = labelled-covers m (subst (λ (g : Graph). IsGraph g) (sym labelled.graph) graph) all x (source_of m.graph case) d (slice_index cells d) apart whole in
    record {
      affected = record {
        index = labelled.indices d within;
        outside = subst (λ (g : Graph). IsOutside g case d) (sym labelled.graph) affected.outside;
        hop = subst (λ (g : Graph). IsNextHop g [] (source_of g case) d case.link.0) (sym labelled.graph) affected.hop;
      };
      list = case-list m case x (subst (λ (g : Graph). IsFailedSet g case x) (sym labelled.graph) set) d list.0 list.1;
    }

-- where the least list is too deep, a list is listed
pub deep-listed : (n : Net) (case : Case) (d k : ℕ) → IsCaseAnswer n case d (TooDeep k) → (answer : Answer) → IsCaseListed n case d answer → is_least answer ≡ true
deep-listed n case d k i answer listed = case-list n case i.failed i.set d i.answers.0 i.answers.1.sound answer listed

-- what a list of the case is
pub list-from_listed : (m : Net) (case : Case) (x : List Bool) → IsFailedSet m.graph case x → (d : ℕ) (list : RepairList) → IsCaseListed m case d (Least list) → IsLeastList m x (source_of m.graph case) d (record { first = list.first; segments = list.segments; cost = list.cost })
list-from_listed m case x set d list i =
    let a : IsListed m x (source_of m.graph case) d (Least list) = subst (λ y. IsListed m y (source_of m.graph case) d (Least list)) (failed-one m.graph case i.failed x i.set set) i.listed in
    record { least = a.0; costs = a.1 }
