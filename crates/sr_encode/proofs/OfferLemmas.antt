-- How waypoints are offered to one destination after the other.
use Rattle.std.proofs.Common.{◌≡◌, ◌≢◌, ℕ, ◌<◌, ◌≤◌, ⊎_elim, inl, inr, true, false, not, ◌&&◌, ◌==◌, List, length, refl, ap, sym, ◌∙◌, subst}
use Rattle.std.specs.Prelude.{◌⊎◌, is_some}
use Rattle.std.proofs.Math.Bool.{and-true}
use Rattle.std.proofs.lemmas.Bool.{cases_lt, cases_eq, cases_Bool, eqb-true, eq-eqb, and_from, true≢false}
use Rattle.sr_model.specs.Repair.{IsLeast}
use Rattle.sr_lanes.specs.declared.words.NodeBits.{NodeBits}
use Rattle.sr_lanes.specs.Bits.{is_in, IsWithout}
use Rattle.sr_lanes.proofs.SizeLemmas.{without-inside, without-other, apart_test}
use Rattle.sr_encode.specs.declared.waypoint.Waypoint.{Waypoint}
use Rattle.sr_encode.specs.declared.served.Served.{Served}
use Rattle.sr_encode.specs.Aftermath.{Aftermath}
use Rattle.sr_encode.specs.Waypoints.{path_to}
use Rattle.sr_encode.specs.Serve.{AreLeastFrom, AreOffered, ArePlaced, IsFirstEnd, IsTried, NoneEnds, NoneEndsFrom}
use Rattle.sr_encode.proofs.ServeLemmas.{offered-found, still}

-- where lists can end towards d at none of the first k places, nor from place k on before place m, they can at none
-- before place m
pub none-joined : (after : Aftermath) (queue : List Waypoint) (d k m : ℕ) → NoneEnds after queue d k
    → NoneEndsFrom after queue d k m → NoneEnds after queue d m
none-joined after queue d k m before behind j lt ends =
    ⊎_elim
    (λ (early : j < k). before j early ends)
    (λ (late : k ≤ j). behind j late lt ends)
    (cases_lt j k)

-- d alone is found, and is no longer pending
module _ (d : ℕ) (before served : Served) (found : NodeBits) (alone : (e : ℕ) → is_in found e ≡ (e == d))
    (rest : (e : ℕ) → is_in served.pending e ≡ (is_in before.pending e && not (is_in found e))) where
  pub d-found : is_in found d ≡ true
  d-found = alone d ∙ eq-eqb d d refl

  pub others-same : (e : ℕ) → e ≢ d → is_in served.pending e ≡ is_in before.pending e
  others-same e ne =
      let out : is_in found e ≡ false = alone e ∙ apart_test e d ne in
      rest e ∙ ap (λ b. is_in before.pending e && not b) out ∙ and-true (is_in before.pending e)

  -- it has the place of the first waypoint at which lists can end towards it
  module _ (after : Aftermath) (queue : List Waypoint) (k p : ℕ) (first : IsFirstEnd after queue d k p)
      (offered : AreOffered after queue k before) (waits : is_in before.pending d ≡ true)
      (marked : ArePlaced before.places.items found p served.places.items) where
    pub offered-first : AreLeastFrom after queue k → AreOffered after queue k served
    offered-first least =
        offered-found p before served found rest marked after queue first.within
        (λ e yes.
        let same : e ≡ d = eqb-true e d (sym (alone e) ∙ yes) in
        subst (λ v. IsLeast after.net after.failed after.source v (path_to queue p)) (sym same)
        (least.each p first.from first.within d (offered.inside d waits)
        (none-joined after queue d k p (offered.none d waits) first.none) first.ends))
        k k offered (λ e is. offered.none e (still p before served found rest marked e is).0)

    pub tried-first : IsTried after queue d before served
    tried-first = record {
      none = λ is. absurd (true≢false (sym d-found ∙ (still p before served found rest marked d is).1));
      others = others-same;
      later = record {
        pending = λ e was. ⊎_elim
            (λ yes. inr (ap is_some (marked.these e yes)))
            (λ no. inl (rest e ∙ and_from (is_in before.pending e) (not (is_in found e)) was (ap not no)))
            (cases_Bool (is_in found e));
        places = λ e had. ⊎_elim
            (λ yes. ap is_some (marked.these e yes))
            (λ no. ap is_some (marked.others e no) ∙ had)
            (cases_Bool (is_in found e));
      };
    }

-- the waypoints from place k on were offered to the pending destinations but those that are left
pub record AreTriedBut (after : Aftermath) (queue : List Waypoint) (k : ℕ) (left : NodeBits) (served : Served) : Type 0 where
  pub offered : AreOffered after queue k served
  pub waits : (e : ℕ) → is_in left e ≡ true → is_in served.pending e ≡ true
  pub tried : (e : ℕ) → is_in served.pending e ≡ true → (is_in left e ≡ true) ⊎ NoneEnds after queue e (length queue)

-- one is left less
pub tried-next : (after : Aftermath) (queue : List Waypoint) (k d : ℕ) (left less : NodeBits) (before served : Served)
    → AreTriedBut after queue k left before → IsWithout left less d → AreOffered after queue k served
    → IsTried after queue d before served → AreTriedBut after queue k less served
tried-next after queue k d left less before served r without offered tried = record {
  offered = offered;
  waits = λ e yes.
      let both = without-inside left less d e without yes in
      tried.others e both.0 ∙ r.waits e both.1;
  tried = λ e is. ⊎_elim
      (λ (same : e ≡ d). inr (subst (λ v. NoneEnds after queue v (length queue)) (sym same) (tried.none (subst (λ v. is_in served.pending v ≡ true) same is))))
      (λ (ne : e ≢ d). ⊎_elim
      (λ (one : is_in left e ≡ true). inl (without-other left less d e without ne ∙ one))
      (λ none. inr none)
      (r.tried e (sym (tried.others e ne) ∙ is)))
      (cases_eq e d);
}
