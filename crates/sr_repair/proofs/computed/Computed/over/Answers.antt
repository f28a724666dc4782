use Rattle.std.proofs.Common.{◌≡◌, ◌+◌, ◌-◌, ◌≤◌, Some, arith}
use Rattle.sr_model.specs.Graph.{node_count}
use Rattle.sr_laws.proofs.Keys.{nodes-same}
use Rattle.sr_spf.specs.Trees.{AreTrees}
use Rattle.sr_spf.specs.Renewed.{fallen}
use Rattle.sr_delta.specs.KeptTrees.{AreKeptTrees}
use Rattle.sr_repair.specs.Work.{IsWithinCases}
use Rattle.sr_repair.proofs.WorkLemmas.{within-none, within-trees, work-none, work-of}
use Rattle.sr_repair.proofs.computed.Computed.over.Goals as goal

pub returns-in_err-tails-clause-searches : goal.returns-in_err-tails-clause-searches
returns-in_err-tails-clause-searches g c = (0, omega arith, work-none c.args.self.now c.args.net)

pub returns-in_err-renewal-clause-searches : goal.returns-in_err-renewal-clause-searches
returns-in_err-renewal-clause-searches g c = (0, omega arith, work-none c.args.self.now c.args.net)

pub returns-in_err-trees-clause-searches : goal.returns-in_err-trees-clause-searches
returns-in_err-trees-clause-searches g c =
    let n = c.args.self.now in
    let m = c.args.net in
    let kept = c.in_ok-renewal.renewal.stays.items in
    let w = c.renew.new.steps - c.args.steps.now in
    let trees : AreTrees n.graph c.trees-old.result.now = c.trees-old.ensures in
    let stay : AreKeptTrees n m kept = c.in_ok-renewal.ensures.kept n m c.requires.changes trees in
    let nodes : node_count m.graph ≡ node_count n.graph = nodes-same n.graph m.graph (c.requires.changes.nodes.0 c.requires.same) in
    let few : w ≤ fallen kept = omega (arith, c.renew.ensures.most, c.renew.ensures.least) in
    (w, omega (arith, c.renew.ensures.least), work-of n m c.requires.lists w w 0 (omega arith) (within-trees n m kept w nodes stay few) (within-none (Some (record { old = n; new = m })) m))

pub returns-in_err-made-clause-searches : goal.returns-in_err-made-clause-searches
returns-in_err-made-clause-searches g c =
    let n = c.args.self.now in
    let m = c.args.net in
    let kept = c.in_ok-renewal.renewal.stays.items in
    let trees : AreTrees n.graph c.trees-old.result.now = c.trees-old.ensures in
    let stay : AreKeptTrees n m kept = c.in_ok-renewal.ensures.kept n m c.requires.changes trees in
    let nodes : node_count m.graph ≡ node_count n.graph = nodes-same n.graph m.graph (c.requires.changes.nodes.0 c.requires.same) in
    let made = c.made_of.ensures.searches in
    let cases : IsWithinCases (Some (record { old = n; new = m })) m made.0 = rw c.new-former.ensures at (rw c.after-setting.ensures at made.2) in
    let sum : c.renew.new.steps ≡ c.args.steps.now + fallen kept = c.in_ok-trees.ensures.steps in
    (fallen kept + made.0, omega (arith, sum, made.1), work-of n m c.requires.lists (fallen kept + made.0) (fallen kept) made.0 (omega arith) (within-trees n m kept (fallen kept) nodes stay (omega arith)) cases)

pub returns-clause-searches : goal.returns-clause-searches
returns-clause-searches g c =
    let n = c.args.self.now in
    let m = c.args.net in
    let kept = c.in_ok-renewal.renewal.stays.items in
    let trees : AreTrees n.graph c.trees-old.result.now = c.trees-old.ensures in
    let stay : AreKeptTrees n m kept = c.in_ok-renewal.ensures.kept n m c.requires.changes trees in
    let nodes : node_count m.graph ≡ node_count n.graph = nodes-same n.graph m.graph (c.requires.changes.nodes.0 c.requires.same) in
    let made = c.made_of.ensures.searches in
    let cases : IsWithinCases (Some (record { old = n; new = m })) m made.0 = rw c.new-former.ensures at (rw c.after-setting.ensures at made.2) in
    let sum : c.renew.new.steps ≡ c.args.steps.now + fallen kept = c.in_ok-trees.ensures.steps in
    (fallen kept + made.0, omega (arith, sum, made.1), work-of n m c.requires.lists (fallen kept + made.0) (fallen kept) made.0 (omega arith) (within-trees n m kept (fallen kept) nodes stay (omega arith)) cases)

pub returns-in_err-farther-clause-searches : goal.returns-in_err-farther-clause-searches
returns-in_err-farther-clause-searches g c =
    let n = c.args.self.now in
    let m = c.args.net in
    let kept = c.in_ok-renewal.renewal.stays.items in
    let trees : AreTrees n.graph c.trees-old.result.now = c.trees-old.ensures in
    let stay : AreKeptTrees n m kept = c.in_ok-renewal.ensures.kept n m c.requires.changes trees in
    let nodes : node_count m.graph ≡ node_count n.graph = nodes-same n.graph m.graph (c.requires.changes.nodes.0 c.requires.same) in
    let sum : c.renew.new.steps ≡ c.args.steps.now + fallen kept = c.in_ok-trees.ensures.steps in
    (fallen kept, sum, work-of n m c.requires.lists (fallen kept) (fallen kept) 0 (omega arith) (within-trees n m kept (fallen kept) nodes stay (omega arith)) (within-none (Some (record { old = n; new = m })) m))
