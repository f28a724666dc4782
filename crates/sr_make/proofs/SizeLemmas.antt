-- What a made net hands in fits its layouts, and the script fits what reads it.
use Rattle.std.proofs.Common.{◌≡◌, ℕ, zero, suc, ◌+◌, ◌*◌, ◌<◌, ◌≤◌, ◌%◌, ◌^◌, ◌==◌, Bool, true, false, List, [], ◌∷◌, bit_and, codes, filter, map, get_or, length, refl, ap, ◌∙◌, arith}
use Rattle.std.proofs.lemmas.Nat.{mod_below}
use Rattle.std.specs.List.{All, flat_map, range_with_len}
use Rattle.std.proofs.lemmas.List.{length-append, length-map}
use Rattle.std.proofs.lemmas.List.Elements.{All-append, All-cons, All-filter, All-map, All-nil}
use Rattle.hex.proofs.HexLemmas.{length-encode_with}
use Rattle.hex.specs.Hex.{encode_lower, lower_digits}
use Rattle.sr_wire.specs.declared.registry.TheConstants.{ADJ_SID_FORM}
use Rattle.sr_wire.specs.Numbers.{bit_if}
use Rattle.sr_wire.specs.Parts.{body_text, part_text}
use Rattle.sr_subtlv.specs.declared.sid.Sid.TheVariants.{Index, Label}
use Rattle.sr_subtlv.specs.AdjSid.{FitsAdjSid}
use Rattle.sr_subtlv.specs.PrefixSid.{FitsPrefixSid}
use Rattle.sr_subtlv.specs.SrCap.{FitsRange}
use Rattle.sr_lsp.specs.declared.lsp.Lsp.{Lsp}
use Rattle.sr_lsp.specs.declared.table.Part.{Part}
use Rattle.sr_lsp.specs.InRange.{FitsPart, FitsLsp}
use Rattle.sr_lsp.specs.Table.{spelling}
use Rattle.sr_lsp.specs.Text.{HasSpelling, header_text, lsp_text, pdu_length}
use Rattle.sr_engine.specs.Lines.{most_bytes}
use Rattle.sr_make.specs.declared.making.TheConstants.{MOST_MADE_NODES}
use Rattle.sr_make.specs.declared.pairs.MadePair.{MadePair}
use Rattle.sr_make.specs.declared.pairs.Span.{Span}
use Rattle.sr_make.specs.Draws.{drawn_from, next_state}
use Rattle.sr_make.specs.Pairs.{drawn_pair, drawn_pairs, made_pairs, made_spans}
use Rattle.sr_make.specs.Nodes.{made_capability, made_links, made_lsp, made_prefix, made_reach, made_risk, made_sid_flags, touches}
use Rattle.sr_make.specs.Script.{audit_lines, lsp_line, lsp_lines, made_script}
use Rattle.sr_make.specs.Sizes.{AreMadePairs, EachMadePduFits, IsMadePair}
use Rattle.sr_make.proofs.PairLemmas.{length-kept, length-spans}

-- ---- the pairs

-- as many pairs as spans
pub length-drawn : (x number : ℕ) (spans : List Span) → length (drawn_pairs x number spans) ≡ length spans
length-drawn x number [] = refl
length-drawn x number (span ∷ spans) = ap (λ n. suc n) (length-drawn (next_state (next_state x)) (number + 1) spans)

-- a pair's metric and number are small
pair-small : (x number : ℕ) (span : Span) → number < 2 ^ 16 → IsMadePair (drawn_pair x number span)
pair-small x number span small = record { number = small; metric = omega (arith, mod_below (drawn_from x) 20 (omega arith)) }

pairs-small : (x number : ℕ) (spans : List Span) → number + length spans ≤ 2 ^ 16 → All IsMadePair (drawn_pairs x number spans)
pairs-small x number [] few = All-nil IsMadePair
pairs-small x number (span ∷ spans) few =
    All-cons IsMadePair (drawn_pair x number span) (drawn_pairs (next_state (next_state x)) (number + 1) spans)
    (pair-small x number span (omega (arith, few)))
    (pairs-small (next_state (next_state x)) (number + 1) spans (omega (arith, few)))

-- the pairs of a made net are few, and their numbers small
pub made-small : (nodes start : ℕ) → nodes ≤ MOST_MADE_NODES → AreMadePairs (made_pairs nodes start)
made-small nodes start most =
    let spans = length-spans nodes in
    record {
      each = pairs-small start 1 (made_spans nodes) (omega (arith, spans, most));
      few = omega (arith, length-drawn start 1 (made_spans nodes), spans, most);
    }

-- ---- the parts of a PDU

-- what holds of what each pair gives holds of what the pairs of a node give
kept-all : (P : Part → Type 0) (f : MadePair → Part) (i : ℕ) (pairs : List MadePair) → All (λ pair. P (f pair)) pairs → All P (map f (filter (touches i) pairs))
kept-all P f i pairs h = All-map P f (filter (touches i) pairs) (All-filter (touches i) (λ pair. P (f pair)) pairs h)

-- what holds of the SRGB, of the prefix, and of what each pair gives, holds of each part
parts-all : (P : Part → Type 0) (pairs : List MadePair) (i : ℕ) → P (made_capability i) → P (made_prefix i)
    → All (λ pair. P (made_reach i pair)) pairs → All (λ pair. P (made_risk i pair)) pairs → All P (made_lsp pairs i).parts
parts-all P pairs i capability prefix reaches risks =
    All-cons P (made_capability i) (made_prefix i ∷ made_links pairs i) capability
    (All-cons P (made_prefix i) (made_links pairs i) prefix
    (All-append P (map (made_reach i) (filter (touches i) pairs)) (map (made_risk i) (filter (touches i) pairs)) (kept-all P (made_reach i) i pairs reaches) (kept-all P (made_risk i) i pairs risks)))

-- ---- in range

flags-form : (a b : Bool) → bit_and (0x40 + bit_if a 0x20 + bit_if b 0x10) 0x0c ≡ 0
flags-form true true = refl
flags-form true false = refl
flags-form false true = refl
flags-form false false = refl

capability-fits : (i : ℕ) → FitsPart (made_capability i)
capability-fits i =
    let range : FitsRange (record { first = 16000; size = 8000 }) = record { size = omega arith; first = omega arith } in
    (record { some = λ e. cc; each = All-cons FitsRange (record { first = 16000; size = 8000 }) [] range (All-nil FitsRange) }, (tt, tt))

prefix-fits : (i : ℕ) → i < 2 ^ 16 → FitsPart (made_prefix i)
prefix-fits i small =
    let sid : FitsPrefixSid (record { flags = made_sid_flags i; algorithm = 0; sid = Index i }) = (flags-form (i % 3 == 0) (i % 6 == 0), omega (arith, small)) in
    record { bits = omega arith; past = All-nil (λ octet. octet ≡ 0); subs = (All-cons FitsPrefixSid (record { flags = made_sid_flags i; algorithm = 0; sid = Index i }) [] sid (All-nil FitsPrefixSid), tt) }

reach-fits : (i : ℕ) (pair : MadePair) → IsMadePair pair → FitsPart (made_reach i pair)
reach-fits i pair small =
    let sid : FitsAdjSid (record { flags = ADJ_SID_FORM; weight = 0; sid = Label (24000 + pair.number) }) = (refl, omega (arith, small.number)) in
    record { metric = small.metric; link = (tt, (tt, (tt, (All-cons FitsAdjSid (record { flags = ADJ_SID_FORM; weight = 0; sid = Label (24000 + pair.number) }) [] sid (All-nil FitsAdjSid), tt)))) }

pub node-range : (pairs : List MadePair) (i : ℕ) → AreMadePairs pairs → i < 2 ^ 16 → FitsLsp (made_lsp pairs i)
node-range pairs i are small =
    parts-all FitsPart pairs i (capability-fits i) (prefix-fits i small) (λ k d less. reach-fits i (get_or pairs k d) (are.each k d less)) (λ k d less. tt)

-- ---- lengths

-- each part has a value of at most 28 octets
abbrev IsSmall : Part → Type 0
IsSmall part = length (spelling part).value ≤ 28

reach-short : (i : ℕ) (pair : MadePair) → IsSmall (made_reach i pair)
reach-short i pair = omega arith

risk-short : (i : ℕ) (pair : MadePair) → IsSmall (made_risk i pair)
risk-short i pair = omega arith

capability-short : (i : ℕ) → IsSmall (made_capability i)
capability-short i = omega arith

prefix-short : (i : ℕ) → IsSmall (made_prefix i)
prefix-short i = omega arith

parts-short : (pairs : List MadePair) (i : ℕ) → All IsSmall (made_lsp pairs i).parts
parts-short pairs i = parts-all IsSmall pairs i (capability-short i) (prefix-short i) (λ k d less. reach-short i (get_or pairs k d)) (λ k d less. risk-short i (get_or pairs k d))

-- a body of short parts is short
body-short : (parts : List Part) → All IsSmall parts → length (body_text spelling parts) ≤ 30 * length parts
body-short [] h = omega arith
body-short (part ∷ parts) h =
    let one : IsSmall part = h 0 part (omega arith) in
    let more = body-short parts (λ k d less. h (suc k) d (omega (arith, less))) in
    omega (arith, length-append (part_text spelling part) (body_text spelling parts), one, more)

-- a node has at most two parts for each pair, and two more
parts-few : (pairs : List MadePair) (i : ℕ) → length (made_lsp pairs i).parts ≤ 2 + 2 * length pairs
parts-few pairs i =
    let kept = filter (touches i) pairs in
    omega (arith, length-append (map (made_reach i) kept) (map (made_risk i) kept), length-map kept (made_reach i), length-map kept (made_risk i), length-kept (touches i) pairs)

-- the PDU is short
pub node-short : (pairs : List MadePair) (i : ℕ) → AreMadePairs pairs → pdu_length (made_lsp pairs i) ≤ 30807
node-short pairs i are = omega (arith, body-short (made_lsp pairs i).parts (parts-short pairs i), parts-few pairs i, are.few)

pub node-spelling : (pairs : List MadePair) (i : ℕ) → AreMadePairs pairs → HasSpelling (made_lsp pairs i)
node-spelling pairs i are = record {
  parts = λ k d less. (let one = parts-short pairs i k d less in omega (arith, one));
  whole = omega (arith, node-short pairs i are);
}

-- ---- the script

header-long : (lsp : Lsp) (n : ℕ) → length (header_text lsp n) ≡ 27
header-long lsp n = refl

-- the line of a node is short
line-short : (pairs : List MadePair) (i : ℕ) → AreMadePairs pairs → length (lsp_line pairs i) ≤ 61619
line-short pairs i are =
    let lsp = made_lsp pairs i in
    let octets : length (lsp_text lsp) ≡ pdu_length lsp = length-append (header_text lsp (pdu_length lsp)) (body_text spelling lsp.parts) ∙ omega (arith, header-long lsp (pdu_length lsp)) in
    let digits : length (encode_lower (lsp_text lsp)) ≡ 2 * length (lsp_text lsp) = length-encode_with lower_digits (lsp_text lsp) in
    omega (arith, length-append (encode_lower (lsp_text lsp)) (codes "\n"), digits, octets, node-short pairs i are)

lines-short : (pairs : List MadePair) (a n : ℕ) → AreMadePairs pairs → length (flat_map (lsp_line pairs) (range_with_len a n)) ≤ 61619 * n
lines-short pairs a zero are = omega arith
lines-short pairs a (suc n) are =
    omega (arith, length-append (lsp_line pairs a) (flat_map (lsp_line pairs) (range_with_len (a + 1) n)), line-short pairs a are, lines-short pairs (a + 1) n are)

audits-short : length audit_lines ≤ 200
audits-short = omega arith

script-short : (nodes start : ℕ) → nodes ≤ MOST_MADE_NODES → length (made_script nodes start) ≤ most_bytes
script-short nodes start most =
    let pairs = made_pairs nodes start in
    omega (arith, length-append (lsp_lines pairs nodes) audit_lines, lines-short pairs 1 nodes (made-small nodes start most), audits-short, most)

-- each PDU of a made net is in range and has a spelling, its line is short enough, and so is the script
pub each-fits : EachMadePduFits
each-fits nodes start most =
    let are = made-small nodes start most in
    let pairs = made_pairs nodes start in (
      λ i within. record {
        range = node-range pairs i are (omega (arith, within, most));
        spelling = node-spelling pairs i are;
        line = omega (arith, line-short pairs i are);
      },
      script-short nodes start most,
    )
