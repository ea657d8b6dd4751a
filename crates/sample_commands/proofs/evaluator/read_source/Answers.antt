use Rattle.std.proofs.Common.{ap, subst}
use Rattle.desk_core.specs.View.{Content}
use Rattle.source_faults.specs.Faults.{HasProgram}
use Rattle.silage_syntax.specs.Tree.{view}
use Rattle.statuses.specs.declared.status.Ending.{Ending}
use Rattle.sample_commands.proofs.Solving.{source_read, source_too_long}
use Rattle.sample_commands.proofs.evaluator.read_source.Goals as goal

pub returns-in_default-clause-err : goal.returns-in_default-clause-err
returns-in_default-clause-err g c =
    source_too_long c.args.name.now (g.D.Desk.view c.args.desk.now) (g.D.Desk.view c.read_input.new.desk)
    c.in_ok-source.field-0 c.in_default.not-Whole
    c.in_ok-source.ensures.through c.in_ok-source.ensures.ok c.from.result.status
    (ap (λ (e : Ending). e.status) c.from.ensures)

pub returns-clause-ok : goal.returns-clause-ok
returns-clause-ok g c =
    source_read c.args.name.now (g.D.Desk.view c.args.desk.now) (g.D.Desk.view c.read_input.new.desk)
    c.in_ok-source.field-0 c.in-Whole.source
    (view c.in_ok-accept.field-0.program) c.in_ok-accept.field-0.graph c.in-Whole.is c.in_ok-source.ensures.through
    c.in_ok-source.ensures.ok
    (subst (λ (bytes : Content). HasProgram bytes (view c.in_ok-accept.field-0.program)) c.as_slice.ensures
    c.in_ok-accept.ensures.ok)
    (record {
      sound = c.in_ok-accept.ensures.sound;
      loopless = c.in_ok-accept.ensures.loopless;
      keeps = c.in_ok-accept.ensures.keeps;
    })
