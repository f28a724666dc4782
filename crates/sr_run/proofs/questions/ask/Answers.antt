use Rattle.std.proofs.Common.{sym, subst}
use Rattle.sr_script.specs.declared.command.Command.{Command}
use Rattle.sr_run.specs.Asked.{TellsQuestion}
use Rattle.sr_run.specs.Session.{TellsOf}
use Rattle.sr_run.specs.Handlers.{Carries}
use Rattle.sr_run.proofs.questions.ask.Goals as goal

pub returns-in-Spaces : goal.returns-in-Spaces
returns-in-Spaces g c =
    subst (λ (k : Command). Carries (TellsOf (TellsQuestion k c.args.facts.now c.args.previous.now) c.args.current.now) c.args.out.now.items c.spaces.new.out.items c.spaces.result)
    (sym c.in-Spaces.is) c.spaces.ensures

pub returns-in-Repair : goal.returns-in-Repair
returns-in-Repair g c =
    subst (λ (k : Command). Carries (TellsOf (TellsQuestion k c.args.facts.now c.args.previous.now) c.args.current.now) c.args.out.now.items c.repair.new.out.items c.repair.result)
    (sym c.in-Repair.is) c.repair.ensures

pub returns-in-RepairCase : goal.returns-in-RepairCase
returns-in-RepairCase g c =
    subst (λ (k : Command). Carries (TellsOf (TellsQuestion k c.args.facts.now c.args.previous.now) c.args.current.now) c.args.out.now.items c.repair_case.new.out.items c.repair_case.result)
    (sym c.in-RepairCase.is) c.repair_case.ensures

pub returns-in-WalkRepair : goal.returns-in-WalkRepair
returns-in-WalkRepair g c =
    subst (λ (k : Command). Carries (TellsOf (TellsQuestion k c.args.facts.now c.args.previous.now) c.args.current.now) c.args.out.now.items c.walk_repair.new.out.items c.walk_repair.result)
    (sym c.in-WalkRepair.is) c.walk_repair.ensures
