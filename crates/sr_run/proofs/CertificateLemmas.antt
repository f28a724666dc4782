-- The nodes and links of a certificate that is told, or that is being written, are those of the net.
use Rattle.std.proofs.Common.{◌≡◌, ℕ, ◌<◌, ◌++◌, List, [], ◌∷◌, All, map, false, refl, sym, subst, ap, Option, Some, None, inl, inr}
use Rattle.std.proofs.lemmas.List.Elements.{All-nil, All-cons, All-head, All-tail, All-append}
use Rattle.sr_model.specs.declared.case.Case.{Case}
use Rattle.std.specs.declared.result.Result.{Result}
use Rattle.sr_model.specs.declared.link.LinkNo.{LinkNo}
use Rattle.sr_model.specs.declared.link.NodeNo.{NodeNo}
use Rattle.sr_model.specs.declared.repair.Answer.{Answer}
use Rattle.sr_model.specs.declared.repair.Answer.TheVariants.{Least, NoPath, NoList, TooDeep}
use Rattle.sr_model.specs.declared.repair.Segment.{Segment}
use Rattle.sr_model.specs.declared.repair.Segment.TheVariants.{Node, Adj}
use Rattle.sr_model.specs.Audit.{is_least}
use Rattle.sr_model.specs.Case.{IsCase, IsAffected}
use Rattle.sr_model.specs.Graph.{node_count, link_count}
use Rattle.sr_model.specs.Label.{Net}
use Rattle.sr_model.specs.Repair.{IsCaseAnswer}
use Rattle.sr_repair.specs.Stack.{HasNoList}
use Rattle.sr_repair.specs.Version.{NumberedNet}
use Rattle.sr_cert.specs.declared.certificate.Certificate.{Certificate}
use Rattle.sr_cert.specs.declared.clause.Verdict.{Verdict}
use Rattle.sr_cert.specs.declared.draft.CertLine.{CertLine}
use Rattle.sr_cert.specs.declared.draft.CertLine.TheVariants.{Via, Row}
use Rattle.sr_cert.specs.Certified.{IsCertificateOf}
use Rattle.sr_cert.specs.Draft.{CertDraft, IsDraftWithin, IsLineWithin, IsWritten, lines_of, segment_line, with_line}
use Rattle.sr_cert.specs.Verdict.{IsSegmentWithin, IsWithinNet}
use Rattle.sr_print.specs.Repairs.{IsSegment, AreSegments, IsAnswerWithin}
use Rattle.sr_print.proofs.Within.{answer-within}
use Rattle.sr_print.specs.declared.refusal.Refusal.{Refusal}
use Rattle.sr_print.specs.Told.{Told}
use Rattle.sr_print.specs.Told.Told.{Decided, Refused}
use Rattle.sr_script.specs.declared.name.LinkName.{LinkName}
use Rattle.sr_run.specs.declared.stop.Stop.{Stop}
use Rattle.sr_run.specs.State.{IsDraftOf}
use Rattle.sr_run.specs.Certificates.{Drafting, DraftsOf, RefusesDraft, KeepsLine, KeepsLink, DecidesDraft, IsDecided, draft_of}
use Rattle.sr_run.specs.Handlers.{Carries, MayGrowBy, IsNamedLink, LacksLink}
use Rattle.sr_run.proofs.NameLemmas.{has-named_link, lacks-named_link}
use Rattle.sr_run.proofs.HandlerLemmas.{carries-weaker}

segment-within : (n : Net) (segment : Segment) → IsSegment n.graph segment → IsSegmentWithin n segment
segment-within n (Node v) is = is
segment-within n (Adj l) is = is

segments-within : (n : Net) (segments : List Segment) → AreSegments n.graph segments → All (IsSegmentWithin n) segments
segments-within n [] are = All-nil (IsSegmentWithin n)
segments-within n (s ∷ ss) are =
    All-cons (IsSegmentWithin n) s ss (segment-within n s (All-head (IsSegment n.graph) s ss are)) (segments-within n ss (All-tail (IsSegment n.graph) s ss are))

-- the certificate of an answer
pub certificate-within : (n : Net) (case : Case) (d : ℕ) (c : Certificate) → IsCase n.graph case → d < node_count n.graph → IsCertificateOf n case d c → IsWithinNet n c
certificate-within n case d c within node is =
    let there : IsAnswerWithin n.graph (Least is.list) = answer-within n case d (Least is.list) is.answer in
    record {
      case = subst (λ (k : Case). IsCase n.graph k) (sym is.case_is) within;
      dest = subst (λ (v : ℕ). v < node_count n.graph) (sym is.dest_is) node;
      first = subst (λ (l : ℕ). l < link_count n.graph) (sym (ap (λ l. l.0) is.first)) there.0;
      segments = subst (All (IsSegmentWithin n)) (sym is.segments) (segments-within n is.list.segments there.1);
    }

-- a destination without a certificate has an answer that is no list
pub unproved-answer : (n : Net) (case : Case) (d : ℕ) (answer : Answer) → IsAffected n case d → IsCaseAnswer n case d answer → HasNoList n case d → is_least answer ≡ false
unproved-answer n case d (Least list) affected is none = absurd (none list affected is)
unproved-answer n case d NoPath affected is none = refl
unproved-answer n case d NoList affected is none = refl
unproved-answer n case d (TooDeep k) affected is none = refl

line-segment : (n : Net) (segment : Segment) → IsLineWithin n (segment_line segment) → IsSegmentWithin n segment
line-segment n (Node v) is = is
line-segment n (Adj l) is = is

lines-segments : (n : Net) (segments : List Segment) → All (IsLineWithin n) (map segment_line segments) → All (IsSegmentWithin n) segments
lines-segments n [] are = All-nil (IsSegmentWithin n)
lines-segments n (s ∷ ss) are =
    All-cons (IsSegmentWithin n) s ss (line-segment n s (All-head (IsLineWithin n) (segment_line s) (map segment_line ss) are)) (lines-segments n ss (All-tail (IsLineWithin n) (segment_line s) (map segment_line ss) are))

-- what holds of a list holds of its front
front : {X : Type 0} (P : X → Type 0) (xs ys : List X) → All P (xs ++ ys) → All P xs
front P [] ys are = All-nil P
front P (x ∷ xs) ys are = All-cons P x xs (All-head P x (xs ++ ys) are) (front P xs ys (All-tail P x (xs ++ ys) are))

-- the certificate that a draft writes
pub written-within : (n : Net) (draft : CertDraft) (labels : List ℕ) (c : Certificate) → IsDraftWithin n draft → IsWritten draft labels c → IsWithinNet n c
written-within n draft labels c within is =
    let lines : All (IsLineWithin n) (lines_of c) = subst (All (IsLineWithin n)) (sym is.lines) within.lines in
    let behind : All (IsLineWithin n) (map segment_line c.segments ++ map Row c.rows) = All-tail (IsLineWithin n) (Via c.first) _ lines in
    record {
      case = subst (λ (k : Case). IsCase n.graph k) (sym is.case) within.case;
      dest = subst (λ (v : NodeNo). v.0 < node_count n.graph) (sym is.dest) within.dest;
      first = All-head (IsLineWithin n) (Via c.first) _ lines;
      segments = lines-segments n c.segments (front (IsLineWithin n) (map segment_line c.segments) (map Row c.rows) behind);
    }

more-within : (n : Net) (draft : CertDraft) (line : CertLine) → IsDraftWithin n draft → IsLineWithin n line → IsDraftWithin n (with_line draft line)
more-within n draft line within is = record {
  case = within.case;
  dest = within.dest;
  lines = All-append (IsLineWithin n) draft.lines (line ∷ []) within.lines (All-cons (IsLineWithin n) line [] is (All-nil (IsLineWithin n)));
}

held-more : (version : NumberedNet) (old : Option CertDraft) (line : CertLine) (draft : CertDraft) → old ≡ Some draft → IsDraftOf (Some version) old → IsLineWithin version.net line → IsDraftOf (Some version) (Some (with_line draft line))
held-more version old line draft some within is =
    more-within version.net draft line (subst (IsDraftOf (Some version)) some within) is

-- a draft of the last version that may have one more line
pub held-within : (current : Option NumberedNet) (version : NumberedNet) (old : Option CertDraft) (line : CertLine) (new : Option CertDraft)
    → current ≡ Some version → IsDraftOf current old → IsLineWithin version.net line → MayGrowBy old line new → IsDraftOf current new
held-within current version old line new is within there (inl same) = subst (IsDraftOf current) (sym same) within
held-within current version old line new is within there (inr (draft, some, more)) =
    subst (λ (o : Option NumberedNet). IsDraftOf o new) (sym is)
    (subst (IsDraftOf (Some version)) (sym more) (held-more version old line draft some (subst (λ (o : Option NumberedNet). IsDraftOf o old) is within) there))

-- ---- what is told of the last version

pub drafts-of : (drafts : NumberedNet → Drafting) (current : Option NumberedNet) (version : NumberedNet) (old : Option CertDraft) (told : Told) (new : Option CertDraft)
    → current ≡ Some version → drafts version old told new → DraftsOf drafts current old told new
drafts-of drafts current version old told new is t = subst (λ (o : Option NumberedNet). DraftsOf drafts o old told new) (sym is) t

-- a line of a link is kept, or what is missing of the link is refused
pub link-kept : (line : LinkNo → CertLine) (name : LinkName) (current : Option NumberedNet) (version : NumberedNet) (link : LinkNo) (old new : Option CertDraft) (before after : List ℕ) (result : Result (Unit {0}) Stop)
    → current ≡ Some version → IsNamedLink version.net name link → Carries (λ told. KeepsLine (line link) old told new) before after result
    → Carries (λ told. DraftsOf (KeepsLink line name) current old told new) before after result
link-kept line name current version link old new before after result is named =
    carries-weaker (λ told. KeepsLine (line link) old told new) (λ told. DraftsOf (KeepsLink line name) current old told new) before after result
    (λ told k. drafts-of (KeepsLink line name) current version old told new is (has-named_link (RefusesDraft old told new) version.net name link (λ l. KeepsLine (line l) old told new) named k))

pub link-lacks : (line : LinkNo → CertLine) (name : LinkName) (current : Option NumberedNet) (version : NumberedNet) (old : Option CertDraft) (reason : Refusal)
    → current ≡ Some version → LacksLink version.net name reason → DraftsOf (KeepsLink line name) current old (Refused reason) old
link-lacks line name current version old reason is lacks =
    drafts-of (KeepsLink line name) current version old (Refused reason) old is
    (lacks-named_link (RefusesDraft old (Refused reason) old) reason (refl, refl) version.net name (λ l. KeepsLine (line l) old (Refused reason) old) lacks)

-- an open certificate of the last version speaks of its net
pub draft-within : (current : Option NumberedNet) (version : NumberedNet) (old : Option CertDraft) (draft : CertDraft) → current ≡ Some version → old ≡ Some draft → IsDraftOf current old → IsDraftWithin version.net draft
draft-within current version old draft is some within =
    subst (IsDraftOf (Some version)) some (subst (λ (o : Option NumberedNet). IsDraftOf o old) is within)

-- none does
pub none-within : (current : Option NumberedNet) (new : Option CertDraft) → new ≡ None → IsDraftOf current new
none-within current new none = subst (IsDraftOf current) (sym none) tt

-- one that was opened
pub opened-within : (current : Option NumberedNet) (version : NumberedNet) (case : Case) (d : ℕ) (draft : CertDraft) → current ≡ Some version → IsCase version.net.graph case → d < node_count version.net.graph → draft ≡ draft_of case d → IsDraftOf current (Some draft)
opened-within current version case d draft is within node same =
    subst (λ (o : Option NumberedNet). IsDraftOf o (Some draft)) (sym is)
    (subst (IsDraftWithin version.net) (sym same) (record { case = within; dest = node; lines = All-nil (IsLineWithin version.net) }))

-- the verdict on the open certificate
pub decided-told : (labels : List ℕ) (current : Option NumberedNet) (version : NumberedNet) (old : Option CertDraft) (draft : CertDraft) (verdict : Verdict) (new : Option CertDraft)
    → current ≡ Some version → old ≡ Some draft → IsDecided version.net draft labels verdict → new ≡ None → DraftsOf (DecidesDraft labels) current old (Decided verdict) new
decided-told labels current version old draft verdict new is some decided none =
    drafts-of (DecidesDraft labels) current version old (Decided verdict) new is
    (subst (λ (o : Option CertDraft). DecidesDraft labels version o (Decided verdict) new) (sym some) (verdict, decided, refl, none))
