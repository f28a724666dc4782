use Rattle.sr_why.specs.Labelled.{IsLabelled}
use Rattle.sr_post.specs.Post.{IsPost}
use Rattle.sr_why.proofs.ListedLemmas.{labelled-listed}
use Rattle.sr_why.proofs.ReasonLemmas.{reason-no_list}
use Rattle.sr_why.proofs.reason.without_list.Goals as goal

pub least_list-requires-clause-listed : goal.least_list-requires-clause-listed
least_list-requires-clause-listed g c =
    let n = c.args.version.now.net in
    let case = c.args.case in
    let left = c.in_ok-left.left in
    let m = c.in_ok-labelled.labelled in
    let post : IsPost n case left = rw c.net.ensures.value at c.in_ok-left.ensures.post in
    let labelled : IsLabelled n m = rw c.net-2.ensures.value at c.in_ok-labelled.ensures in
    labelled-listed n m c.trees-trees.ensures.graph labelled case left.failed post.failed left.cells post.row c.args.destination.0 c.requires.destination c.requires.answer.0 c.requires.answer.1

pub returns-clause-reason : goal.returns-clause-reason
returns-clause-reason g c =
    let n = c.args.version.now.net in
    let case = c.args.case in
    let left = c.in_ok-left.left in
    let m = c.in_ok-labelled.labelled in
    let post : IsPost n case left = rw c.net.ensures.value at c.in_ok-left.ensures.post in
    let labelled : IsLabelled n m = rw c.net-2.ensures.value at c.in_ok-labelled.ensures in
    reason-no_list n case c.args.destination.0 m labelled left.failed post.failed c.requires.answer.1 c.in_ok-list.list c.in_ok-list.ensures
