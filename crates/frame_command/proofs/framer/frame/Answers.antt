use Rattle.frame_command.proofs.OnePhase.{one_phase_compiles}
use Rattle.frame_command.proofs.framer.frame.Goals as goal

pub returns-clause-compiles : goal.returns-clause-compiles
returns-clause-compiles g c one no_down no_up =
    one_phase_compiles c.args.source.now c.args.datapath.now c.args.output.now (g.D.Desk.view c.args.desk.now)
    (g.D.Desk.view c.compile_frames.new.desk) c.args.phases c.args.down.now c.args.up.now one no_down no_up
    c.compile_frames.result.status c.compile_frames.ensures.answer
