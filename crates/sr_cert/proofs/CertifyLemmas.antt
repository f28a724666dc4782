-- The certificate of an answer meets all clauses.
use Rattle.std.proofs.Common.{◌≡◌, ℕ, ◌<◌, ◌≤◌, ◌+◌, Bool, List, [], ◌∷◌, length, reverse, refl, sym, ◌∙◌, ap, arith, subst, ⊎_elim}
use Rattle.std.proofs.lemmas.Bool.{cases_lt}
use Rattle.std.proofs.lemmas.List.{reverse-reverse}
use Rattle.std.specs.List.{All, AllZip}
use Rattle.std.proofs.lemmas.List.Elements.{All-nil, All-cons}
use Rattle.std.proofs.lemmas.Slice.Zip.{AllZip-long}
use Rattle.sr_model.specs.declared.case.Case.{Case}
use Rattle.sr_model.specs.declared.repair.Segment.{Segment}
use Rattle.sr_model.specs.declared.repair.Segment.TheVariants.{Node, Adj}
use Rattle.sr_model.specs.declared.repair.RepairList.{RepairList}
use Rattle.sr_model.specs.declared.repair.Answer.TheVariants.{Least}
use Rattle.sr_model.specs.Graph.{Graph, node_count, head, metric}
use Rattle.sr_model.specs.Walk.{IsDistance, IsCell}
use Rattle.sr_model.specs.declared.link.TheConstants.{FAR}
use Rattle.sr_walks.proofs.Distances.{distance-unique}
use Rattle.sr_walks.proofs.Rows.{row-one, list-same}
use Rattle.sr_laws.proofs.Answers.{case-answer-one}
use Rattle.sr_laws.proofs.Failures.{failed-one}
use Rattle.sr_laws.proofs.Stacks.{stack-one}
use Rattle.sr_model.specs.Space.{InP}
use Rattle.sr_model.specs.Case.{IsAffected, source_of}
use Rattle.sr_model.specs.Label.{Net}
use Rattle.sr_model.specs.Repair.{Leads, IsCaseAnswer}
use Rattle.sr_model.specs.Forward.{IsStack}
use Rattle.sr_spf.specs.Trees.{Forest, AreTrees, tree_count}
use Rattle.sr_cert.specs.declared.certificate.Certificate.{Certificate}
use Rattle.sr_cert.specs.declared.clause.Clause.{Clause}
use Rattle.sr_cert.specs.declared.clause.Clause.TheVariants as clause
use Rattle.sr_cert.specs.Rows.{Heading, From, To, IsRowTo, HoldsDistances, headings}
use Rattle.sr_cert.specs.Clauses.{begin_of, AreUsable, StaysInSpaces, Costs, BeginsExact, GoesOnExact, Meets}
use Rattle.sr_cert.specs.Verdict.{IsAcceptedAt}
use Rattle.sr_cert.specs.Certified.{IsCertificateOf}
use Rattle.sr_cert.specs.Laws.{CertificatesAreUnique}
use Rattle.sr_cert.specs.Taken.{IsRowWithout, IsColumn, AreTaken}

-- a column holds the distances to its node
pub column-exact : (g : Graph) (t : Forest) (v : ℕ) (cells : List ℕ) → AreTrees g t → v < node_count g → IsColumn t v (tree_count t) cells → IsRowTo g [] v cells
column-exact g t v cells are within c = record {
  long = c.long ∙ are.long;
  each = λ u lt. rw (c.each u (rw are.long lt)) ((are.rows u lt).each v within);
}

-- a row of each heading has a cell for each node
long-exact : (g : Graph) (h : Heading) (cells : List ℕ) → HoldsDistances g h cells → length cells ≡ node_count g
long-exact g (From u) cells is = is.long
long-exact g (To v) cells is = is.long

long-all : (g : Graph) (hs : List Heading) (rows : List (List ℕ)) → AllZip (HoldsDistances g) hs rows → All (λ row. length row ≡ node_count g) rows
long-all g [] [] are = All-nil (λ row. length row ≡ node_count g)
long-all g [] (row ∷ rows) are = absurd are
long-all g (h ∷ hs) [] are = absurd are
long-all g (h ∷ hs) (row ∷ rows) are = All-cons (λ row. length row ≡ node_count g) row rows (long-exact g h row are.0) (long-all g hs rows are.1)

-- segments that lead on may be used
leads-usable : (n : Net) (x : List Bool) (u : ℕ) (ss : List Segment) (w c : ℕ) → Leads n x u ss w c → AreUsable n x u ss
leads-usable n x u [] w c a = tt
leads-usable n x u (Node v ∷ ss) w c a = (a.2, a.4, leads-usable n x v.0 ss w a.1 a.7)
leads-usable n x u (Adj l ∷ ss) w c a = (a.2, a.3, a.4, leads-usable n x (head n.graph l.0) ss w a.0 a.5)

-- segments that lead to a waypoint in Q of d stay in the spaces
leads-stays : (n : Net) (x : List Bool) (u : ℕ) (ss : List Segment) (w c d : ℕ) → Leads n x u ss w c → InP n.graph x w d → StaysInSpaces n x u ss d
leads-stays n x u [] w c d a p = subst (λ y. InP n.graph x y d) (sym a.0) p
leads-stays n x u (Node v ∷ ss) w c d a p = (a.5, leads-stays n x v.0 ss w a.1 d a.7 p)
leads-stays n x u (Adj l ∷ ss) w c d a p = leads-stays n x (head n.graph l.0) ss w a.0 d a.5 p

-- segments that lead on, and the way from there, cost the sum
leads-cost : (n : Net) (x : List Bool) (u : ℕ) (ss : List Segment) (w c d r : ℕ) → Leads n x u ss w c → IsDistance n.graph [] w d r → Costs n u ss d (c + r)
leads-cost n x u [] w c d r a p =
    subst (λ k. IsDistance n.graph [] u d k) (let e : r ≡ c + r = omega (arith, a.1) in e) (subst (λ y. IsDistance n.graph [] y d r) (sym a.0) p)
leads-cost n x u (Node v ∷ ss) w c d r a p = (a.0, a.1 + r, a.6, leads-cost n x v.0 ss w a.1 d r a.7 p, omega (arith, a.8))
leads-cost n x u (Adj l ∷ ss) w c d r a p = (a.0 + r, leads-cost n x (head n.graph l.0) ss w a.0 d r a.5 p, omega (arith, a.6))

-- the certificate of a list meets each clause
pub certificate-meets : (n : Net) (case : Case) (d : ℕ) (list : RepairList) (c : Certificate) (first : List ℕ) (others : List (List ℕ)) → IsAffected n case d → (a : IsCaseAnswer n case d (Least list)) → c.case ≡ case → c.dest.0 ≡ d → c.first ≡ list.first → c.segments ≡ list.segments → c.rows ≡ first ∷ others → IsRowWithout n.graph case first → AllZip (HoldsDistances n.graph) (headings n.graph (head n.graph list.first.0) list.segments d) others → IsStack n d list.first.0 list.segments (reverse c.labels) → (k : Clause) → Meets n a.failed c k
certificate-meets n case d list c first others affected a e f h s r one rest stack clause.Rows =
    let hs = headings n.graph (head n.graph list.first.0) list.segments d in
    let many : length (first ∷ others) ≡ length hs + 1 = omega (arith, AllZip-long (HoldsDistances n.graph) hs others rest) in
    record {
      count = rw (r, h, f, s) many;
      each = rw r (All-cons (λ row. length row ≡ node_count n.graph) first others (one a.failed a.set).long (long-all n.graph hs others rest));
    }
certificate-meets n case d list c first others affected a e f h s r one rest stack clause.Form =
    let sound = a.answers.0.sound in
    record {
      begins = rw (h, e) sound.begins;
      outside = rw h sound.outside;
      index = rw f affected.index;
      other = rw (f, e) affected.outside.source;
      usable = rw (h, s) (leads-usable n a.failed (head n.graph list.first.0) list.segments sound.last sound.middle sound.leads);
      clear = rw (f, h, s) sound.clear;
    }
certificate-meets n case d list c first others affected a e f h s r one rest stack clause.FirstRow = rw (r, e) (one a.failed a.set)
certificate-meets n case d list c first others affected a e f h s r one rest stack clause.OtherRows = rw (r, f, h, s) rest
certificate-meets n case d list c first others affected a e f h s r one rest stack clause.Spaces =
    let sound = a.answers.0.sound in
    rw (f, h, s) (leads-stays n a.failed (head n.graph list.first.0) list.segments sound.last sound.middle d sound.leads sound.ends)
certificate-meets n case d list c first others affected a e f h s r one rest stack clause.Sum =
    let sound = a.answers.0.sound in
    let begin = head n.graph list.first.0 in
    let whole : metric n.graph list.first.0 + sound.middle + sound.rest ≡ metric n.graph list.first.0 + (sound.middle + sound.rest) = omega arith in
    let fits = subst (λ (k : ℕ). IsDistance n.graph a.failed (source_of n.graph case) d k) whole sound.fits in
    rw (e, f, h, s)
    (sound.middle + sound.rest, leads-cost n a.failed begin list.segments sound.last sound.middle d sound.rest sound.leads sound.goes_on, fits)
certificate-meets n case d list c first others affected a e f h s r one rest stack clause.Labels = rw (f, h, s) stack

-- so it is the certificate of the list
pub certificate-is : (n : Net) (case : Case) (d : ℕ) (list : RepairList) (c : Certificate) → IsAffected n case d → IsCaseAnswer n case d (Least list) → c.case ≡ case → c.dest.0 ≡ d → c.first ≡ list.first → c.segments ≡ list.segments → AreTaken n.graph case (headings n.graph (head n.graph list.first.0) list.segments d) c.rows → IsStack n d list.first.0 list.segments (reverse c.labels) → IsCertificateOf n case d c
certificate-is n case d list c affected a e f h s r stack = record {
  list = list;
  affected = affected;
  answer = a;
  case_is = e;
  dest_is = f;
  first = h;
  segments = s;
  accepted = record {
    x = a.failed;
    failed = rw e a.set;
    meets = certificate-meets n case d list c r.first r.others affected a e f h s r.joined r.begins r.exact stack;
    distance = rw (e, f) a.answers.2;
  };
}

cell-one : (g : Graph) (x : List Bool) (u v a b : ℕ) → IsCell g x u v a → IsCell g x u v b → a ≡ b
cell-one g x u v a b p q =
    ⊎_elim
    (λ near. ⊎_elim
    (λ near'. distance-unique g x u v a b (p.near near) (q.near near'))
    (λ far'. absurd (q.far far' (p.near near).reached.0 (p.near near).reached.1))
    (cases_lt b FAR))
    (λ far. ⊎_elim
    (λ near'. absurd (p.far far (q.near near').reached.0 (q.near near').reached.1))
    (λ far'. let i : a ≤ FAR = p.top in let j : b ≤ FAR = q.top in omega arith)
    (cases_lt b FAR))
    (cases_lt a FAR)

row_to-one : (g : Graph) (v : ℕ) (a b : List ℕ) → IsRowTo g [] v a → IsRowTo g [] v b → a ≡ b
row_to-one g v a b p q = list-same 0 a b (p.long ∙ sym q.long) (λ u lt. cell-one g [] u v _ _ (p.each u (rw (← p.long) lt)) (q.each u (rw (← p.long) lt)))

exact-one : (g : Graph) (h : Heading) (a b : List ℕ) → HoldsDistances g h a → HoldsDistances g h b → a ≡ b
exact-one g (From u) a b p q = row-one g [] u a b p q
exact-one g (To v) a b p q = row_to-one g v a b p q

zip-one : (g : Graph) (hs : List Heading) (a b : List (List ℕ)) → AllZip (HoldsDistances g) hs a → AllZip (HoldsDistances g) hs b → a ≡ b
zip-one g [] [] [] p q = refl
zip-one g [] [] (y ∷ ys) p q = absurd q
zip-one g [] (x ∷ xs) b p q = absurd p
zip-one g (h ∷ hs) [] b p q = absurd p
zip-one g (h ∷ hs) (x ∷ xs) [] p q = absurd q
zip-one g (h ∷ hs) (x ∷ xs) (y ∷ ys) p q = rw (exact-one g h x y p.0 q.0, zip-one g hs xs ys p.1 q.1) refl

others-one : (n : Net) (c : Certificate) (a b : List (List ℕ)) (x : List Bool) (s : ℕ) → BeginsExact n x s a → BeginsExact n x s b → GoesOnExact n c a → GoesOnExact n c b → a ≡ b
others-one n c [] b x s p q i j = absurd p
others-one n c (row ∷ rows) [] x s p q i j = absurd q
others-one n c (row ∷ rows) (one ∷ more) x s p q i j =
    rw (row-one n.graph x s row one p q, zip-one n.graph (headings n.graph (begin_of n c) c.segments c.dest.0) rows more i j) refl

-- certificates with the same fields are the same
certificate-same : (a b : Certificate) → a.case ≡ b.case → a.dest.0 ≡ b.dest.0 → a.first ≡ b.first → a.segments ≡ b.segments → a.rows ≡ b.rows → a.labels ≡ b.labels → a ≡ b
certificate-same a b case dest first segments rows labels =
    let q : record { case = a.case; dest = record { 0 = a.dest.0 }; first = a.first; segments = a.segments; rows = a.rows; labels = a.labels } ≡ record { case = b.case; dest = record { 0 = b.dest.0 }; first = b.first; segments = b.segments; rows = b.rows; labels = b.labels } = rw (case, dest, first, segments, rows, labels) refl in
    q

reverse-one : (a b : List ℕ) → reverse a ≡ reverse b → a ≡ b
reverse-one a b e = sym (reverse-reverse a) ∙ (ap reverse e ∙ reverse-reverse b)

-- certificates of one case, destination, first link and segments that are accepted are the same
accepted-same : (n : Net) (a b : Certificate) (c d : ℕ) → IsAcceptedAt n a c → IsAcceptedAt n b d → a.case ≡ b.case → a.dest.0 ≡ b.dest.0 → a.first ≡ b.first → a.segments ≡ b.segments → a ≡ b
accepted-same n a b c d p q case dest first segments =
    let x = p.x in
    let same : q.x ≡ x = failed-one n.graph a.case q.x x (rw case q.failed) p.failed in
    let begins = p.meets clause.FirstRow in
    let begins_b = q.meets clause.FirstRow in
    let rest = p.meets clause.OtherRows in
    let rest_b = q.meets clause.OtherRows in
    let stack = p.meets clause.Labels in
    let stack_b = q.meets clause.Labels in
    let rows = others-one n b a.rows b.rows x (source_of n.graph b.case) (rw case at begins) (rw same at begins_b) (rw (dest, first, segments) at rest) rest_b in
    let labels = reverse-one a.labels b.labels (stack-one n b.dest.0 b.first.0 b.segments (reverse a.labels) (reverse b.labels) (rw (dest, first, segments) at stack) stack_b) in
    certificate-same a b case dest first segments rows labels

-- a node that a case affects has at most one certificate
pub certificates-one : CertificatesAreUnique
certificates-one n net case d one two p q =
    let answer = case-answer-one n case d (Least p.list) (Least q.list) p.answer q.answer in
    let list : p.list ≡ q.list = cc in
    accepted-same n one two p.list.cost q.list.cost p.accepted q.accepted
    (p.case_is ∙ sym q.case_is)
    (p.dest_is ∙ sym q.dest_is)
    (p.first ∙ (ap (λ (l : RepairList). l.first) list ∙ sym q.first))
    (p.segments ∙ (ap (λ (l : RepairList). l.segments) list ∙ sym q.segments))
