-- Where two nets differ at most in what no list depends on, what is listed in one is listed in the other.
use Rattle.std.proofs.Common.{◌≡◌, ℕ, Bool, List, [], ◌∷◌, ap, sym, ◌∙◌, subst}
use Rattle.std.specs.Prelude.{is_some}
use Rattle.sr_model.specs.declared.case.Case.{Case}
use Rattle.sr_model.specs.declared.repair.Segment.{Segment}
use Rattle.sr_model.specs.declared.repair.Segment.TheVariants.{Node, Adj}
use Rattle.sr_model.specs.declared.repair.Answer.{Answer}
use Rattle.sr_model.specs.declared.repair.Answer.TheVariants.{Least, NoPath, NoList, TooDeep}
use Rattle.sr_model.specs.Graph.{head}
use Rattle.sr_model.specs.Case.{IsAffected, source_of}
use Rattle.sr_model.specs.Label.{Net, labels_at}
use Rattle.sr_model.specs.Repair.{Clear, IsLeast, IsSound, Leads, Path, path_of}
use Rattle.sr_laws.specs.Listed.{HaveSameLists, IsCaseListed, IsListed}

-- two nets of one graph, with one index of each node and one label of each link
module _ (n m : Net) (graph : m.graph ≡ n.graph) (adj : m.adj ≡ n.adj) (index : (v : ℕ) → (labels_at m v).index ≡ (labels_at n v).index) where
  leads : (x : List Bool) (u : ℕ) (segments : List Segment) (w c : ℕ) → Leads n x u segments w c → Leads m x u segments w c
  leads x u [] w c l = l
  leads x u (Node v ∷ rest) w c l = (
    l.0,
    l.1,
    ap is_some (index v.0) ∙ l.2,
    rw graph l.3,
    l.4,
    rw graph l.5,
    rw graph l.6,
    leads x v.0 rest w l.1 l.7,
    l.8,
  )
  leads x u (Adj l ∷ rest) w c p = (
    p.0,
    rw graph p.1,
    rw graph p.2,
    p.3,
    rw adj p.4,
    subst (λ g. Leads m x (head g l.0) rest w p.0) (sym graph) (leads x (head n.graph l.0) rest w p.0 p.5),
    rw graph p.6,
  )

  clear : (d u : ℕ) (segments : List Segment) → Clear n d u segments → Clear m d u segments
  clear d u [] l = rw graph l
  clear d u (Node v ∷ rest) l = (rw graph l.0, clear d v.0 rest l.1)
  clear d u (Adj l ∷ rest) p = (rw graph p.0, subst (λ g. Clear m d (head g l.0) rest) (sym graph) (clear d (head n.graph l.0) rest p.1))

  pub sound : (x : List Bool) (s d : ℕ) (a : Path) → IsSound n x s d a → IsSound m x s d a
  sound x s d a i = record {
    within = rw graph i.within;
    begins = rw graph i.begins;
    outside = i.outside;
    last = i.last;
    middle = i.middle;
    rest = i.rest;
    leads = subst (λ g. Leads m x (head g a.first) a.segments i.last i.middle) (sym graph) (leads x (head n.graph a.first) a.segments i.last i.middle i.leads);
    clear = subst (λ g. Clear m d (head g a.first) a.segments) (sym graph) (clear d (head n.graph a.first) a.segments i.clear);
    ends = rw graph i.ends;
    goes_on = rw graph i.goes_on;
    fits = rw graph i.fits;
  }

module _ (n m : Net) (same : HaveSameLists n m) where
  sound-there : (x : List Bool) (s d : ℕ) (a : Path) → IsSound n x s d a → IsSound m x s d a
  sound-there = sound n m same.graph same.adj same.index

  sound-back : (x : List Bool) (s d : ℕ) (a : Path) → IsSound m x s d a → IsSound n x s d a
  sound-back = sound m n (sym same.graph) (sym same.adj) (λ v. sym (same.index v))

  least-there : (x : List Bool) (s d : ℕ) (a : Path) → IsLeast n x s d a → IsLeast m x s d a
  least-there x s d a i = record { sound = sound-there x s d a i.sound; least = λ b s'. i.least b (sound-back x s d b s') }

  listed-there : (x : List Bool) (s d : ℕ) (a : Answer) → IsListed n x s d a → IsListed m x s d a
  listed-there x s d NoPath l = rw same.graph l
  listed-there x s d NoList l = (rw same.graph l.0, λ a s'. l.1 a (sound-back x s d a s'))
  listed-there x s d (TooDeep k) l = absurd l
  listed-there x s d (Least list) l = (least-there x s d (path_of list) l.0, rw same.graph l.1)

-- what is listed in one is listed in the other
pub same-listed : (n m : Net) → HaveSameLists n m → (case : Case) (d : ℕ) (answer : Answer) → IsCaseListed n case d answer → IsCaseListed m case d answer
same-listed n m same case d answer l = record {
  failed = l.failed;
  set = rw same.graph l.set;
  listed = subst (λ g. IsListed m l.failed (source_of g case) d answer) (sym same.graph) (listed-there n m same l.failed (source_of n.graph case) d answer l.listed);
}

-- and the same destinations are affected
pub same-affected : (n m : Net) → HaveSameLists n m → (case : Case) (d : ℕ) → IsAffected n case d → IsAffected m case d
same-affected n m same case d a = record {
  index = ap is_some (same.index d) ∙ a.index;
  outside = rw same.graph a.outside;
  hop = rw same.graph a.hop;
}
