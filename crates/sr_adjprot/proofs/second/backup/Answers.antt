use Rattle.sr_adjprot.proofs.second.backup.Goals as goal

pub returns-in-None : goal.returns-in-None
returns-in-None c = let a = rw c.in-None.is at c.in_ok-label.ensures in rw (← c.net.ensures.value) a
