use Rattle.std.proofs.Common.{List, subst, ◌∙◌}
use Rattle.std.proofs.lemmas.Result.{IfOk-weaker}
use Rattle.sr_model.specs.declared.name.LinkKey.{LinkKey}
use Rattle.sr_model.specs.Graph.{Graph}
use Rattle.sr_lsdb.specs.declared.announcement.Announcement.{Announcement}
use Rattle.sr_domain.specs.Announced.{AreKeysOf}
use Rattle.sr_adjprot.specs.Protected.{AreKeysMarked, protected_of}
use Rattle.sr_adjprot.proofs.MarkLemmas.{marked-eligible}
use Rattle.sr_adjprot.proofs.marks.eligible.Goals as goal

pub returns : goal.returns
returns c =
    let keyed : AreKeysOf (protected_of c.args.facts.now) c.in_ok-keys.keys.items =
    subst (λ (list : List Announcement). AreKeysOf list c.in_ok-keys.keys.items) (c.deref.ensures.value ∙ c.in_ok-announced.ensures) c.in_ok-keys.ensures in
    IfOk-weaker c.marks.result _ _ (λ tests h.
    marked-eligible c.args.facts.now c.args.net.now c.in_ok-keys.keys.items tests.items c.requires keyed
    (subst (λ (g : Graph). AreKeysMarked g c.in_ok-keys.keys.items tests.items) c.graph.ensures.value
    (subst (λ (keys : List LinkKey). AreKeysMarked c.graph.result.now keys tests.items) c.deref-2.ensures.value h)))
    c.marks.ensures
