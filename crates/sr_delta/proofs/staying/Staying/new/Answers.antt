use Rattle.sr_delta.proofs.StayingLemmas.{staying-from_marks}
use Rattle.sr_delta.proofs.staying.Staying.new.Goals as goal

pub returns : goal.returns
returns c = λ n m changes same kept.
    staying-from_marks n m c.args.kept.now c.args.changes.now.alike.labels c.from_tests-trees.result c.and.result kept ((changes.alike same).labels)
    c.from_tests-trees.ensures (rw c.labels_alike.ensures at c.and.ensures)
