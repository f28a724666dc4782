use Rattle.std.proofs.Common.{subst, ap, ◌∙◌, List, ℕ}
use Rattle.sr_model.specs.declared.link.Link.{Link}
use Rattle.sr_model.specs.declared.name.LinkKey.{LinkKey}
use Rattle.sr_model.specs.Label.{adj_at}
use Rattle.sr_adjprot.specs.Protected.{IsLeastOf, labels_beside}
use Rattle.sr_adjprot.proofs.BackupLemmas.{beside-least}
use Rattle.sr_adjprot.proofs.second.backup_label.Goals as goal

pub returns : goal.returns
returns c =
    let key = rw c.graph.ensures.value at (ap (λ (x : Link). x.key) c.link.ensures.link) in
    let keyed : LinkKey → List ℕ = λ k. labels_beside c.args.facts.now k (adj_at c.args.net.now c.args.link.0) in
    let own = ap (labels_beside c.args.facts.now c.link.result.key) c.adj-own.ensures.value in
    let labels = c.deref.ensures.value ∙ (c.in_ok-labels.ensures ∙ own ∙ ap keyed key) in
    beside-least c.args.facts.now c.args.net.now c.args.link.0 c.least_of.result
    (subst (λ (xs : List ℕ). IsLeastOf xs c.least_of.result) labels c.least_of.ensures)
