use Rattle.silc.proofs.Demonstrating.{cascade_plan}
use Rattle.silc_files.proofs.Results.{if_ok}
use Rattle.silc.proofs.demo.plan_cascade.Goals as goal

pub returns-clause-ok : goal.returns-clause-ok
returns-clause-ok c =
    if_ok c.planned_of.result _ _
    (cascade_plan c.args.sections c.in_ok-cascade_source.field-0 c.in_ok-cascade_datapath.field-0
    c.in_ok-cascade_source.ensures c.in_ok-cascade_datapath.ensures)
    c.planned_of.ensures.ok
