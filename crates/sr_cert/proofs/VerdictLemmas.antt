-- The clauses in their order, and what a certificate is worth that meets them.
use Rattle.std.proofs.Common.{◌≡◌, ◌≢◌, ℕ, ◌+◌, ◌<◌, ◌≤◌, ⊎_elim, Bool, List, [], ◌∷◌, reverse, refl, arith, ap, sym, ◌∙◌, subst, if◌then◌else◌}
use Rattle.std.specs.Prelude.{◌==◌}
use Rattle.std.specs.List.{All}
use Rattle.std.proofs.lemmas.Bool.{cases_eq, cases_lt}
use Rattle.std.proofs.lemmas.List.Elements.{All-head, All-tail}
use Rattle.sr_model.specs.declared.repair.Segment.{Segment}
use Rattle.sr_model.specs.declared.repair.Segment.TheVariants.{Node, Adj}
use Rattle.sr_model.specs.Graph.{node_count, head, metric}
use Rattle.sr_model.specs.Walk.{IsDistance}
use Rattle.sr_model.specs.Space.{InQ}
use Rattle.sr_model.specs.Case.{IsFailedSet, source_of}
use Rattle.sr_model.specs.Label.{Net}
use Rattle.sr_model.specs.Rule.{IsNet}
use Rattle.sr_model.specs.Repair.{Leads, IsSound, path_of}
use Rattle.sr_model.specs.Forward.{Delivers}
use Rattle.sr_walks.proofs.Distances.{distance-unique}
use Rattle.sr_laws.proofs.Failures.{failed-one}
use Rattle.sr_laws.proofs.Delivery.{sound-delivers, sound-meets}
use Rattle.sr_cert.specs.declared.certificate.Certificate.{Certificate}
use Rattle.sr_cert.specs.declared.clause.Clause.{Clause}
use Rattle.sr_cert.specs.declared.clause.Clause.TheVariants as clause
use Rattle.sr_cert.specs.declared.clause.Verdict.{Verdict}
use Rattle.sr_cert.specs.declared.clause.Verdict.TheVariants.{Accepted, Rejected}
use Rattle.sr_cert.specs.Clauses.{Meets, AreUsable, StaysInSpaces, Costs, clause_number, begin_of}
use Rattle.sr_cert.specs.Verdict.{IsWithinNet, IsSegmentWithin, IsAcceptedAt, IsRejected, IsVerdict}
use Rattle.sr_cert.specs.Certified.{list_of, IsWorth, DeliversWhereAccepted}
use Rattle.sr_cert.specs.Walked.{whole_cell}
use Rattle.sr_cert.proofs.SumLemmas.{cell-whole}
use Rattle.sr_cert.specs.Failing.{MeetsBelow, MeetsAll}

-- the clause of a number
abbrev of_number : ℕ → Clause
of_number k =
    if k == 1
    then clause.Rows
    else if k == 2
    then clause.Form
    else if k == 3
    then clause.FirstRow
    else if k == 4
    then clause.OtherRows
    else if k == 5
    then clause.Spaces
    else if k == 6
    then clause.Sum
    else clause.Labels

of-number : (k : Clause) → of_number (clause_number k) ≡ k
of-number clause.Rows = refl
of-number clause.Form = refl
of-number clause.FirstRow = refl
of-number clause.OtherRows = refl
of-number clause.Spaces = refl
of-number clause.Sum = refl
of-number clause.Labels = refl

-- a number is one clause's
number-one : (j k : Clause) → clause_number j ≡ clause_number k → j ≡ k
number-one j k e = sym (of-number j) ∙ ap of_number e ∙ of-number k

-- numbers lie in 1..7
number-range : (k : Clause) → (0 < clause_number k) × (clause_number k < 8)
number-range clause.Rows = (omega arith, omega arith)
number-range clause.Form = (omega arith, omega arith)
number-range clause.FirstRow = (omega arith, omega arith)
number-range clause.OtherRows = (omega arith, omega arith)
number-range clause.Spaces = (omega arith, omega arith)
number-range clause.Sum = (omega arith, omega arith)
number-range clause.Labels = (omega arith, omega arith)

pub meets-none : (n : Net) (x : List Bool) (c : Certificate) → MeetsBelow n x c 1
meets-none n x c = λ j lt. absurd (omega (arith, lt, (number-range j).0))

pub meets-next : (n : Net) (x : List Bool) (c : Certificate) (k : Clause) → MeetsBelow n x c (clause_number k) → Meets n x c k → MeetsBelow n x c (clause_number k + 1)
meets-next n x c k below here = λ j lt. ⊎_elim
    (λ (e : clause_number j ≡ clause_number k). subst (Meets n x c) (sym (number-one j k e)) here)
    (λ (ne : clause_number j ≢ clause_number k). below j (omega (arith, lt)))
    (cases_eq (clause_number j) (clause_number k))

pub meets-all : (n : Net) (x : List Bool) (c : Certificate) → MeetsBelow n x c 8 → MeetsAll n x c
meets-all n x c below = λ k. below k (number-range k).1

-- a certificate that meets all is accepted with the destination's cell of the first row
pub meets-accepted : (n : Net) (x : List Bool) (c : Certificate) → IsWithinNet n c → IsFailedSet n.graph c.case x → MeetsAll n x c → IsAcceptedAt n c (whole_cell c)
meets-accepted n x c within failed meets = record {
  x = x;
  failed = failed;
  meets = meets;
  distance = cell-whole n x c within.dest (meets clause.FirstRow) (meets clause.Sum);
}

-- the segments of an accepted certificate lead on, and what is left is the distance from the last waypoint
leads-from : (n : Net) (x : List Bool) (u : ℕ) (ss : List Segment) (d b : ℕ) → AreUsable n x u ss → All (IsSegmentWithin n) ss → StaysInSpaces n x u ss d → Costs n u ss d b → (last : ℕ) × (middle : ℕ) × (rest : ℕ) × Leads n x u ss last middle × InQ n.graph x d last × IsDistance n.graph [] last d rest × (b ≡ middle + rest)
leads-from n x u [] d b usable within stays costs = (u, 0, b, (refl, refl), stays, costs, omega arith)
leads-from n x u (Node v ∷ ss) d b usable within stays costs =
    let r = leads-from n x v.0 ss d costs.1 usable.2 (All-tail (IsSegmentWithin n) (Node v) ss within) stays.1 costs.3 in (
      r.0,
      costs.0 + r.1,
      r.2,
      (costs.0, r.1, usable.0, All-head (IsSegmentWithin n) (Node v) ss within, usable.1, stays.0, costs.2, r.3, refl),
      r.4,
      r.5,
      omega (arith, r.6, costs.4),
    )
leads-from n x u (Adj l ∷ ss) d b usable within stays costs =
    let r = leads-from n x (head n.graph l.0) ss d costs.0 usable.3 (All-tail (IsSegmentWithin n) (Adj l) ss within) stays costs.1 in (
      r.0,
      metric n.graph l.0 + r.1,
      r.2,
      (r.1, All-head (IsSegmentWithin n) (Adj l) ss within, usable.0, usable.1, usable.2, r.3, refl),
      r.4,
      r.5,
      omega (arith, r.6, costs.2),
    )

-- so its list is sound
pub accepted-sound : (n : Net) (x : List Bool) (c : Certificate) (cost : ℕ) → IsWithinNet n c → MeetsAll n x c → IsSound n x (source_of n.graph c.case) c.dest.0 (path_of (list_of c cost))
accepted-sound n x c cost within meets =
    let form = meets clause.Form in
    let sum = meets clause.Sum in
    let r = leads-from n x (begin_of n c) c.segments c.dest.0 sum.0 form.usable within.segments (meets clause.Spaces) sum.1 in
    let whole : metric n.graph c.first.0 + sum.0 ≡ metric n.graph c.first.0 + r.1 + r.2 = omega (arith, r.6) in
    record {
      within = within.first;
      begins = form.begins;
      outside = form.outside;
      last = r.0;
      middle = r.1;
      rest = r.2;
      leads = r.3;
      clear = form.clear;
      ends = r.4;
      goes_on = r.5;
      fits = subst (IsDistance n.graph x (source_of n.graph c.case) c.dest.0) whole sum.2;
    }

-- and it is worth its cost
pub accepted-worth : (n : Net) → IsNet n → (c : Certificate) (cost : ℕ) → IsWithinNet n c → IsAcceptedAt n c cost → IsWorth n c cost
accepted-worth n r c cost within a =
    let source : source_of n.graph c.case < node_count n.graph = (r.graph.each c.case.link.0 within.case).0 in
    let sound = accepted-sound n a.x c cost within a.meets in
    record {
      delivers = record {
        delivers = λ x set.
            subst (λ y. Delivers n y (source_of n.graph c.case) c.dest.0 c.first.0 (reverse c.labels)) (failed-one n.graph c.case a.x x a.failed set)
            (sound-delivers n r a.x (source_of n.graph c.case) c.dest.0 (path_of (list_of c cost)) (reverse c.labels) source within.dest sound (a.meets clause.Labels));
        distinct = sound-meets n r a.x (source_of n.graph c.case) c.dest.0 (path_of (list_of c cost)) (reverse c.labels) source within.dest sound (a.meets clause.Labels);
      };
      least = λ x set. (subst (λ y. IsDistance n.graph y (source_of n.graph c.case) c.dest.0 cost) (failed-one n.graph c.case a.x x a.failed set) a.distance).least;
    }

pub verdict-delivers : (n : Net) → IsNet n → (c : Certificate) (verdict : Verdict) → IsWithinNet n c → IsVerdict n c verdict → DeliversWhereAccepted n c verdict
verdict-delivers n r c (Accepted cost) within is = accepted-worth n r c cost within is
verdict-delivers n r c (Rejected k) within is = tt

-- of two clauses that are rejected the first isn't before the second
rejected-after : (n : Net) (c : Certificate) (j k : Clause) → IsRejected n c j → IsRejected n c k → clause_number k ≤ clause_number j
rejected-after n c j k a b =
    ⊎_elim
    (λ lt. absurd (a.fails (subst (λ x. Meets n x c j) (failed-one n.graph c.case b.x a.x b.failed a.failed) (b.before j lt))))
    (λ le. le)
    (cases_lt (clause_number j) (clause_number k))

-- what is accepted isn't rejected
not-both : (n : Net) (c : Certificate) (cost : ℕ) (k : Clause) → IsAcceptedAt n c cost → IsRejected n c k → ⊥
not-both n c cost k a b = b.fails (subst (λ x. Meets n x c k) (failed-one n.graph c.case a.x b.x a.failed b.failed) (a.meets k))

-- a certificate has one verdict
pub verdict-one : (n : Net) (c : Certificate) (one two : Verdict) → IsVerdict n c one → IsVerdict n c two → one ≡ two
verdict-one n c (Accepted a) (Accepted b) p q =
    let d : IsDistance n.graph p.x (source_of n.graph c.case) c.dest.0 b = subst (λ x. IsDistance n.graph x (source_of n.graph c.case) c.dest.0 b) (failed-one n.graph c.case q.x p.x q.failed p.failed) q.distance in
    ap Accepted (distance-unique n.graph p.x (source_of n.graph c.case) c.dest.0 a b p.distance d)
verdict-one n c (Accepted a) (Rejected k) p q = absurd (not-both n c a k p q)
verdict-one n c (Rejected j) (Accepted b) p q = absurd (not-both n c b j q p)
verdict-one n c (Rejected j) (Rejected k) p q =
    let le = rejected-after n c j k p q in
    let ge = rejected-after n c k j q p in
    ap Rejected (number-one j k (omega (arith, le, ge)))
