use Rattle.std.proofs.Common.{◌∙◌, refl, append_assoc}
use Rattle.sr_model.specs.Audit.{counts_of}
use Rattle.sr_listing.specs.declared.wanted.Wanted.TheVariants.{OfCase}
use Rattle.sr_listing.specs.Wanted.{wanted_items}
use Rattle.sr_print.specs.Insight.{repairs_line}
use Rattle.sr_print.specs.Repairs.{item_lines}
use Rattle.sr_print.specs.Told.Told.{Repairs, Refused}
use Rattle.sr_run.specs.Questions.{IsRefused}
use Rattle.sr_run.specs.Insight.{TellsCaseRepairs, TellsWanted}
use Rattle.sr_run.proofs.NameLemmas.{has-named_link, lacks-named_link}
use Rattle.sr_run.proofs.HandlerLemmas.{puts-of, told-of}
use Rattle.sr_run.proofs.insight.repair_case.Goals as goal

pub returns-in-Err-find_link : goal.returns-in-Err-find_link
returns-in-Err-find_link c =
    let net = c.in-Ok.found.now.net in
    let reason = c.in-Err-find_link.reason in
    told-of (TellsCaseRepairs c.args.kind c.args.name.now) c.args.current.now c.in-Ok.found.now (Refused reason) c.in-Ok.ensures
    (lacks-named_link (IsRefused (Refused reason)) reason refl net c.args.name.now (λ link. TellsWanted net (OfCase (record { kind = c.args.kind; link = link })) (Refused reason)) c.in-Err-find_link.ensures)

pub returns : goal.returns
returns c =
    let net = c.in-Ok.found.now.net in
    let link = c.in-Ok-find_link.found in
    let puts = c.in_ok-put_wanted.ensures.lines in
    let wanted = wanted_items net.graph (OfCase (record { kind = c.args.kind; link = link })) puts.items in
    let told = Repairs net wanted in
    puts-of (TellsCaseRepairs c.args.kind c.args.name.now) c.args.current.now c.in-Ok.found.now _ _ told c.in-Ok.ensures
    (has-named_link (IsRefused told) net c.args.name.now link (λ l. TellsWanted net (OfCase (record { kind = c.args.kind; link = l })) told) c.in-Ok-find_link.ensures (puts.items, puts.audit, refl))
    refl (λ number. puts.lines ∙ append_assoc c.args.out.now.items (item_lines net wanted) (repairs_line (counts_of wanted)))
