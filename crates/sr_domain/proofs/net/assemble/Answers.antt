use Rattle.std.proofs.Common.{List, sym, subst}
use Rattle.std.proofs.lemmas.Result.{IfOk-weaker}
use Rattle.sr_lsdb.specs.declared.announcement.Announcement.{Announcement}
use Rattle.sr_domain.specs.Announced.{AreKeysOf}
use Rattle.sr_domain.specs.Net.{IsNetOf}
use Rattle.sr_domain.proofs.NetLemmas.{accepted, net-of}
use Rattle.sr_domain.proofs.net.assemble.Goals as goal

pub new-requires : goal.new-requires
new-requires c =
    rw c.in_ok-adj.ensures (accepted c.args.facts.now c.args.links.now c.args.graph c.requires.parts.graph c.requires.parts.same c.requires.parts.kept c.args.labels.items c.in_ok-announced.announced.items c.requires.parts.labels c.requires.parts.ranges
    (subst (λ (l : List Announcement). AreKeysOf l c.in_ok-announced.announced.items) c.requires.two_way c.in_ok-announced.ensures) c.requires.parts.depth)

pub returns : goal.returns
returns c =
    IfOk-weaker c.new.result _ _
    (λ net is. subst (IsNetOf c.args.facts.now) (sym is)
    (rw c.in_ok-adj.ensures (net-of c.args.facts.now c.args.links.now c.args.graph c.requires.parts.graph c.requires.parts.same c.requires.parts.kept c.args.labels.items c.in_ok-announced.announced.items c.requires.parts.labels c.requires.parts.ranges
    (subst (λ (l : List Announcement). AreKeysOf l c.in_ok-announced.announced.items) c.requires.two_way c.in_ok-announced.ensures) c.requires.parts.depth)))
    c.new.ensures
