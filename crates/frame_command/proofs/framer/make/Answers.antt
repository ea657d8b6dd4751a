use Rattle.rate_unfold.specs.Frames.{rates}
use Rattle.frame_command.proofs.Framed.{is_planned, made}
use Rattle.frame_command.proofs.framer.make.Goals as goal

pub microcode_of-requires-clause-plan : goal.microcode_of-requires-clause-plan
microcode_of-requires-clause-plan g c =
    is_planned (rates c.args.phases c.args.down.now c.args.up.now) c.args.source.now c.args.datapath.now
    (g.D.Desk.view c.args.desk.now) (g.D.Desk.view c.read_frame_plan.new.desk) c.in_ok-planned.planned
    c.in_ok-planned.ensures.ok

pub returns-clause-ok : goal.returns-clause-ok
returns-clause-ok g c =
    made (rates c.args.phases c.args.down.now c.args.up.now) c.args.source.now c.args.datapath.now
    (g.D.Desk.view c.args.desk.now) (g.D.Desk.view c.read_frame_plan.new.desk) c.in_ok-planned.planned
    c.in_ok-planned.ensures.ok c.in_ok-microcode_of.field-0 c.in_ok-microcode_of.ensures.ok
