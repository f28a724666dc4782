use Rattle.sr_watch.proofs.launch.fn.seat_one.begin+FnOnce.call_once.Goals as goal

-- what the thread is sent may be sent
pub begin-requires : goal.begin-requires
begin-requires g c =
    let shared = c.requires.1.1.1.1.1.0 in
    let few = c.requires.1.1.1.1.1.1.0 in
    let sent = c.requires.1.1.1.1.1.1.1 in
    (sent.0, (sent.1, (sent.2, (sent.3, (sent.4, (sent.5, (sent.6, (sent.7, (shared, few)))))))))
