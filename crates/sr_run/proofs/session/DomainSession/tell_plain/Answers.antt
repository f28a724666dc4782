use Rattle.std.proofs.Common.{refl, sym, subst}
use Rattle.sr_model.specs.declared.name.LinkKey.{LinkKey}
use Rattle.sr_model.specs.Key.{pair_of}
use Rattle.sr_lsdb.specs.Edit.Edit.{SetCost, TakeDown, BringUp}
use Rattle.sr_script.specs.declared.command.Command.{Command}
use Rattle.sr_script.specs.declared.command.Command.TheVariants.{Cost, Down, Up}
use Rattle.sr_run.specs.declared.edits.LinkEdit.TheVariants.{Cost as CostEdit, Down as DownEdit, Up as UpEdit}
use Rattle.sr_run.specs.Handlers.{CarriesOut, edit_of}
use Rattle.sr_run.proofs.HandlerLemmas.{edits-told}
use Rattle.sr_run.proofs.session.DomainSession.tell_plain.Goals as goal

pub returns-in-Cost-clause-told : goal.returns-in-Cost-clause-told
returns-in-Cost-clause-told g c =
    subst (λ (k : Command). CarriesOut k c.args.self.now c.edit_link.new.self c.args.out.now.items c.edit_link.new.out.items c.edit_link.result) (sym c.in-Cost.is)
    (edits-told (Cost c.in-Cost.link c.in-Cost.metric) (edit_of (CostEdit c.in-Cost.metric)) (λ (key : LinkKey). SetCost key c.in-Cost.metric) c.in-Cost.link _ _ _ _ c.edit_link.result (λ k. refl) (λ domain told next e. e) c.edit_link.ensures.told)

pub returns-in-Down-clause-told : goal.returns-in-Down-clause-told
returns-in-Down-clause-told g c =
    subst (λ (k : Command). CarriesOut k c.args.self.now c.edit_link-in-Down.new.self c.args.out.now.items c.edit_link-in-Down.new.out.items c.edit_link-in-Down.result) (sym c.in-Down.is)
    (edits-told (Down c.in-Down.link) (edit_of DownEdit) (λ (key : LinkKey). TakeDown (pair_of key)) c.in-Down.link _ _ _ _ c.edit_link-in-Down.result (λ k. refl) (λ domain told next e. e) c.edit_link-in-Down.ensures.told)

pub returns-in-Up-clause-told : goal.returns-in-Up-clause-told
returns-in-Up-clause-told g c =
    subst (λ (k : Command). CarriesOut k c.args.self.now c.edit_link-in-Up.new.self c.args.out.now.items c.edit_link-in-Up.new.out.items c.edit_link-in-Up.result) (sym c.in-Up.is)
    (edits-told (Up c.in-Up.link) (edit_of UpEdit) (λ (key : LinkKey). BringUp (pair_of key)) c.in-Up.link _ _ _ _ c.edit_link-in-Up.result (λ k. refl) (λ domain told next e. e) c.edit_link-in-Up.ensures.told)
