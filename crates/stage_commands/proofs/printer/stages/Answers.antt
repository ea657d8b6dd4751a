use Rattle.std.proofs.Common.{refl, sym, ap, subst, inr, [], ◌∷◌}
use Rattle.desk_core.specs.View.{Content}
use Rattle.desk_core.specs.Desk.{IfSpecified}
use Rattle.plan_commands.proofs.Scheduling.{print_cut_short}
use Rattle.silc_files.specs.Endings.{IsAmong}
use Rattle.silc_files.specs.Printing.{IsPrintedInPart}
use Rattle.stage_commands.specs.Stages.{IsStagesTextOf, IsStagesAnswer}
use Rattle.stage_commands.proofs.Staging.{no_text}
use Rattle.stage_commands.proofs.printer.stages.Goals as goal
use Rattle.statuses.specs.declared.status.Ending.{Ending}
use Rattle.statuses.specs.declared.status.Status.{Status}

pub returns-in-Ok-clause-answer : goal.returns-in-Ok-clause-answer
returns-in-Ok-clause-answer g c =
    subst (λ (s : Status).
    IsStagesAnswer c.args.stages c.args.source.now c.args.datapath.now (g.D.Desk.view c.args.desk.now)
    (g.D.Desk.view c.print_whole.new.desk) s)
    (sym (ap (λ (e : Ending). e.status) c.from-in-Err-print_whole.ensures))
    (inr (print_cut_short (IsStagesTextOf c.args.stages c.args.source.now c.args.datapath.now) c.args.datapath.now
    (IsAmong (c.args.source.now ∷ c.args.datapath.now ∷ [])) (g.D.Desk.view c.args.desk.now)
    (g.D.Desk.view c.make.new.desk) (g.D.Desk.view c.print_whole.new.desk) c.in-Ok.text
    c.in-Ok.ensures.reads c.in-Err-print_whole.ensures.only c.in-Ok.ensures.ok (c.in-Err-print_whole.ensures.cause refl)
    (subst (λ (text : Content).
    IfSpecified (IsPrintedInPart text) (g.D.Desk.view c.make.new.desk).printed
    (g.D.Desk.view c.print_whole.new.desk).printed)
    c.deref.ensures
    c.in-Err-print_whole.ensures.err)))

pub returns-clause-answer : goal.returns-clause-answer
returns-clause-answer g c =
    no_text c.args.stages c.args.source.now c.args.datapath.now (g.D.Desk.view c.args.desk.now)
    (g.D.Desk.view c.make.new.desk) c.in-Err.ending.status c.in-Err.ensures.err
