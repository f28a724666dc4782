use Rattle.sr_encode.proofs.served.Served.by_hops.Goals as goal

pub loop-kept-init : goal.loop-kept-init
loop-kept-init c = record { offered = c.in_ok-served.ensures.offered c.args.queue.now; tended = c.in_ok-served.ensures.tended }
