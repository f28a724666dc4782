use Rattle.std.proofs.Common.{◌≡◌, ◌<◌, List, ◌∷◌, ap, reverse, subst, sym}
use Rattle.std.proofs.lemmas.List.Elements.{All-cons}
use Rattle.sr_model.specs.declared.link.Link.{Link}
use Rattle.sr_model.specs.declared.link.LinkNo.{LinkNo}
use Rattle.sr_model.specs.Graph.{link_count}
use Rattle.sr_print.specs.Links.{AreLinks}
use Rattle.sr_run.specs.Failures.{IsRepairWalked}
use Rattle.sr_run.proofs.RepairedLemmas.{repair-walked}
use Rattle.sr_run.proofs.repaired.walk_list.Goals as goal

pub returns-clause-walked : goal.returns-clause-walked
returns-clause-walked c =
    let net = c.net-net.ensures.value in
    let put : c.insert.new.self.items ≡ c.args.list.now.first ∷ c.in_ok-walk.walk.links.items = c.in_ok-insert.ensures.items in
    subst (λ (links : List LinkNo). IsRepairWalked c.args.version.now.net c.args.failure.case c.args.failure.destination.0 c.args.choice links) (sym put)
    (repair-walked c.args.version.now.net c.args.failure.case c.args.failure.destination.0 c.args.choice c.args.list.now (reverse c.args.labels.items) _ c.link.result.to.0 _ c.in_ok-walk.walk.links.items _ _
    c.net-net.ensures.net c.requires.answer.case_is c.requires.answer.node c.requires.answer.answer_is c.requires.stack
    (rw net at (rw c.graph.ensures.value at c.in_ok-failed.ensures))
    (rw net at (rw c.graph-2.ensures.value at (ap (λ (l : Link). l.to.0) c.link.ensures.link)))
    (rw net at c.in_ok-walk.ensures.walked) (rw net at c.in_ok-walk.ensures.arrives.1))

pub returns-clause-links : goal.returns-clause-links
returns-clause-links c =
    let put : c.insert.new.self.items ≡ c.args.list.now.first ∷ c.in_ok-walk.walk.links.items = c.in_ok-insert.ensures.items in
    subst (λ (links : List LinkNo). AreLinks c.args.version.now.net.graph links) (sym put)
    (All-cons (λ (l : LinkNo). l.0 < link_count c.args.version.now.net.graph) c.args.list.now.first c.in_ok-walk.walk.links.items c.requires.answer.answer_is.answers.0.sound.within
    (rw c.net-net.ensures.value at c.in_ok-walk.ensures.within.1))
