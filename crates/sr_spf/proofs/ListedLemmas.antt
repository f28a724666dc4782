-- Lists and cells as the nodes of a set are gone through.
use Rattle.std.proofs.Common.{◌≡◌, ◌≢◌, ℕ, ◌+◌, ◌<◌, ◌≤◌, ⊎_elim, true, false, List, [], ◌∷◌, ◌++◌, length, set, refl, arith, ap, sym, ◌∙◌, subst}
use Rattle.std.specs.Prelude.{slice_index, if◌then◌else◌}
use Rattle.std.proofs.lemmas.Bool.{cases_eq, cases_lt, cases_Bool, true≢false}
use Rattle.std.proofs.lemmas.List.{length-set, get_or-set_same, get_or-set_other}
use Rattle.sr_lanes.specs.declared.words.NodeBits.{NodeBits}
use Rattle.sr_lanes.specs.Bits.{is_in, IsFirstIn, IsWithout}
use Rattle.sr_lanes.proofs.SizeLemmas.{without-same, without-other, without-inside}
use Rattle.sr_model.specs.declared.link.NodeNo.{NodeNo}
use Rattle.sr_model.specs.declared.link.TheConstants.{FAR}
use Rattle.sr_spf.specs.Lost.{AreCellsWithout}
use Rattle.sr_spf.specs.Nodes.{AreThose}
use Rattle.sr_spf.proofs.NodeLemmas.{those-none, those-push, those-up}

-- the nodes of the set below m are listed, and the others are left
pub record AreListedBelow (all left : NodeBits) (nodes : List NodeNo) (m : ℕ) : Type 0 where
  pub few : m ≤ 256
  pub those : AreThose (λ v. is_in all v ≡ true) m nodes
  pub gone : (v : ℕ) → v < m → is_in left v ≡ false
  pub rest : (v : ℕ) → m ≤ v → is_in left v ≡ is_in all v

-- so it is up to some number
pub record IsListing (all left : NodeBits) (nodes : List NodeNo) : Type 0 where
  pub below : ℕ
  pub done : AreListedBelow all left nodes below

pub listing-start : (all : NodeBits) → IsListing all all []
listing-start all = record {
  below = 0;
  done = record { few = omega arith; those = those-none (λ v. is_in all v ≡ true); gone = λ v lt. absurd (omega arith); rest = λ v le. refl };
}

-- of the nodes that are left none stands before the first
first-up : (all left : NodeBits) (nodes : List NodeNo) (m v : ℕ) → AreListedBelow all left nodes m → IsFirstIn left v → m ≤ v
first-up all left nodes m v d first =
    ⊎_elim
    (λ (lt : v < m). absurd (true≢false (sym first.member ∙ d.gone v lt)))
    (λ (le : m ≤ v). le)
    (cases_lt v m)

pub listing-next : (all left less : NodeBits) (nodes : List NodeNo) (v : NodeNo) → IsListing all left nodes → IsFirstIn left v.0 → IsWithout left less v.0 → IsListing all less (nodes ++ v ∷ [])
listing-next all left less nodes v r first taken =
    let m : ℕ = r.below in
    let d : AreListedBelow all left nodes m = r.done in
    let up : m ≤ v.0 = first-up all left nodes m v.0 d first in
    record {
      below = v.0 + 1;
      done = record {
        few = omega (arith, first.within);
        those = those-push (λ u. is_in all u ≡ true) v nodes
            (those-up (λ u. is_in all u ≡ true) m v.0 nodes d.those up (λ u le lt yes. true≢false (sym yes ∙ sym (d.rest u le) ∙ first.least u lt)))
            (sym (d.rest v.0 up) ∙ first.member);
        gone = λ u lt. ⊎_elim
            (λ (e : u ≡ v.0). subst (λ k. is_in less k ≡ false) (sym e) (without-same left less v.0 taken))
            (λ (ne : u ≢ v.0). without-other left less v.0 u taken ne ∙ first.least u (omega arith))
            (cases_eq u v.0);
        rest = λ u le. without-other left less v.0 u taken (omega arith) ∙ d.rest u (omega arith);
      };
    }

pub listing-over : (all left : NodeBits) (nodes : List NodeNo) → IsListing all left nodes → ((v : ℕ) → is_in left v ≡ false) → AreThose (λ v. is_in all v ≡ true) 256 nodes
listing-over all left nodes r none =
    let d : AreListedBelow all left nodes r.below = r.done in
    those-up (λ u. is_in all u ≡ true) r.below 256 nodes d.those d.few (λ u le lt yes. true≢false (sym yes ∙ sym (d.rest u le) ∙ none u))

-- of the lost nodes, those that aren't left have FAR
pub record IsClearing (row : List ℕ) (lost left : NodeBits) (cells : List ℕ) : Type 0 where
  pub long : length cells ≡ length row
  pub inside : (v : ℕ) → is_in left v ≡ true → is_in lost v ≡ true
  pub these : (v : ℕ) → is_in lost v ≡ true → is_in left v ≡ false → slice_index cells v ≡ FAR
  pub others : (v : ℕ) → is_in lost v ≡ false → slice_index cells v ≡ slice_index row v

pub clearing-start : (row : List ℕ) (lost : NodeBits) → IsClearing row lost lost row
clearing-start row lost = record { long = refl; inside = λ v is. is; these = λ v is out. absurd (true≢false (sym is ∙ out)); others = λ v out. refl }

pub clearing-next : (row : List ℕ) (lost left less : NodeBits) (cells : List ℕ) (v : ℕ) → IsClearing row lost left cells → v < length row → is_in left v ≡ true → IsWithout left less v → IsClearing row lost less (set cells v FAR)
clearing-next row lost left less cells v r within is taken = record {
  long = length-set cells v FAR ∙ r.long;
  inside = λ d yes. r.inside d (without-inside left less v d taken yes).1;
  these = λ d yes out. ⊎_elim
      (λ (here : d ≡ v). subst (λ j. slice_index (set cells v FAR) j ≡ FAR) (sym here) (get_or-set_same cells v FAR 0 (omega (arith, r.long))))
      (λ (ne : d ≢ v). get_or-set_other cells v d FAR 0 ne ∙ r.these d yes (sym (without-other left less v d taken ne) ∙ out))
      (cases_eq d v);
  others = λ d out.
      let apart : d ≢ v = λ same. true≢false (sym (r.inside v is) ∙ subst (λ j. is_in lost j ≡ false) same out) in
      get_or-set_other cells v d FAR 0 apart ∙ r.others d out;
}

pub clearing-over : (row : List ℕ) (lost left : NodeBits) (cells : List ℕ) → IsClearing row lost left cells → ((v : ℕ) → is_in left v ≡ false) → AreCellsWithout row lost cells
clearing-over row lost left cells r none = record {
  long = r.long;
  each = λ v. ⊎_elim
      (λ (yes : is_in lost v ≡ true). r.these v yes (none v) ∙ ap (λ t. if t then FAR else slice_index row v) (sym yes))
      (λ (no : is_in lost v ≡ false). r.others v no ∙ ap (λ t. if t then FAR else slice_index row v) (sym no))
      (cases_Bool (is_in lost v));
}
