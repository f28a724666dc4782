-- The affected destinations as a set.
use Rattle.std.proofs.Common.{◌≡◌, ◌≢◌, ℕ, ◌↔◌, IsTrue, true, ◌&&◌, sym, ◌∙◌}
use Rattle.std.specs.Prelude.{is_some, []}
use Rattle.std.proofs.lemmas.Bool.{and_parts, and_from}
use Rattle.sr_lanes.specs.declared.words.NodeBits.{NodeBits}
use Rattle.sr_lanes.specs.Bits.{is_in, IsWithout}
use Rattle.sr_lanes.proofs.SizeLemmas.{without-other, without-inside}
use Rattle.sr_model.specs.declared.case.Case.{Case}
use Rattle.sr_model.specs.declared.case.Kind.TheVariants.{Node as NodeKind}
use Rattle.sr_model.specs.Case.{IsAffected, source_of, end_of}
use Rattle.sr_model.specs.Label.{Net, labels_at}
use Rattle.sr_model.specs.Walk.{IsNextHop}
use Rattle.sr_spf.specs.Carried.{IsCarried}

-- the set has the nodes but the source with an index towards which the protected link is a next hop
pub record AreOthers (n : Net) (case : Case) (set : NodeBits) : Type 0 where
  pub index : (v : ℕ) → is_in set v ≡ true → is_some (labels_at n v).index ≡ true
  pub other : (v : ℕ) → is_in set v ≡ true → v ≢ source_of n.graph case
  pub hop : (v : ℕ) → is_in set v ≡ true → IsNextHop n.graph [] (source_of n.graph case) v case.link.0
  pub all : (v : ℕ) → IsAffected n case v → is_in set v ≡ true

module _ (n : Net) (case : Case) where
  -- it is so where the sets are taken one from another
  pub others-from : (towards indexed both set : NodeBits) → IsCarried n.graph case.link.0 towards → ((v : ℕ) → IsTrue (is_in indexed v) ↔ (is_some (labels_at n v).index ≡ true)) → ((v : ℕ) → is_in both v ≡ (is_in towards v && is_in indexed v)) → IsWithout both set (source_of n.graph case) → AreOthers n case set
  others-from towards indexed both set carried index joined without =
      let inside : (v : ℕ) → is_in set v ≡ true → (is_in towards v ≡ true) × (is_in indexed v ≡ true) = λ v is.
      and_parts (is_in towards v) (is_in indexed v) (sym (joined v) ∙ (without-inside both set (source_of n.graph case) v without is).1) in
      record {
        index = λ v is. (index v).0 (inside v is).1;
        other = λ v is. (without-inside both set (source_of n.graph case) v without is).0;
        hop = λ v is. (carried.each v).0 (inside v is).0;
        all = λ v is. without-other both set (source_of n.graph case) v without is.outside.source ∙ joined v ∙ and_from (is_in towards v) (is_in indexed v) ((carried.each v).1 is.hop) ((index v).1 is.index);
      }

  -- they are affected, unless a node fails
  pub affected-others : (set : NodeBits) → AreOthers n case set → case.kind ≢ NodeKind → (v : ℕ) → IsTrue (is_in set v) ↔ IsAffected n case v
  affected-others set are link v = (
    λ is. record { index = are.index v is; outside = record { source = are.other v is; failed = λ fails. absurd (link fails) }; hop = are.hop v is },
    λ affected. are.all v affected,
  )

  -- where one fails, all but that node are
  pub affected-outside : (set rest : NodeBits) → AreOthers n case set → case.kind ≡ NodeKind → IsWithout set rest (end_of n.graph case) → (v : ℕ) → IsTrue (is_in rest v) ↔ IsAffected n case v
  affected-outside set rest are node without v = (
    λ is.
        let out = without-inside set rest (end_of n.graph case) v without is in
        record { index = are.index v out.1; outside = record { source = are.other v out.1; failed = λ fails. out.0 }; hop = are.hop v out.1 },
    λ affected. without-other set rest (end_of n.graph case) v without (affected.outside.failed node) ∙ are.all v affected,
  )
