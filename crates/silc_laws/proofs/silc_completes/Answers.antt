use Rattle.command_words.specs.Command.{frame}
use Rattle.silc_laws.proofs.Complete.{compile_law, compile_plan_law, plan_text_law, listing_law, demonstration_law}
use Rattle.silc_laws.proofs.Complete.{simulation_law, evaluation_law, planned_run_law}
use Rattle.silc_laws.proofs.Complete.{stages_text_law, staged_run_law, frames_law, net_end_law}
use Rattle.silc_laws.proofs.silc_completes.Goals as goal

pub returns-clause-compiles : goal.returns-clause-compiles
returns-clause-compiles g c =
    compile_law c.args.words.now (g.D.Desk.view c.args.desk.now) (g.D.Desk.view c.silc.new.desk) c.silc.new.kept
    c.silc.result c.silc.ensures.ending

pub returns-clause-compiles_plan : goal.returns-clause-compiles_plan
returns-clause-compiles_plan g c =
    compile_plan_law c.args.words.now (g.D.Desk.view c.args.desk.now) (g.D.Desk.view c.silc.new.desk) c.silc.new.kept
    c.silc.result c.silc.ensures.ending

pub returns-clause-schedules : goal.returns-clause-schedules
returns-clause-schedules g c =
    plan_text_law c.args.words.now (g.D.Desk.view c.args.desk.now) (g.D.Desk.view c.silc.new.desk) c.silc.new.kept
    c.silc.result c.silc.ensures.ending

pub returns-clause-lists : goal.returns-clause-lists
returns-clause-lists g c =
    listing_law c.args.words.now (g.D.Desk.view c.args.desk.now) (g.D.Desk.view c.silc.new.desk) c.silc.new.kept
    c.silc.result c.silc.ensures.ending

pub returns-clause-demonstrates : goal.returns-clause-demonstrates
returns-clause-demonstrates g c =
    demonstration_law c.args.words.now (g.D.Desk.view c.args.desk.now) (g.D.Desk.view c.silc.new.desk) c.silc.new.kept
    c.silc.result c.silc.ensures.ending

pub returns-clause-simulates : goal.returns-clause-simulates
returns-clause-simulates g c =
    simulation_law c.args.words.now (g.D.Desk.view c.args.desk.now) (g.D.Desk.view c.silc.new.desk) c.silc.new.kept
    c.silc.result c.silc.ensures.ending

pub returns-clause-evaluates : goal.returns-clause-evaluates
returns-clause-evaluates g c =
    evaluation_law c.args.words.now (g.D.Desk.view c.args.desk.now) (g.D.Desk.view c.silc.new.desk) c.silc.new.kept
    c.silc.result c.silc.ensures.ending

pub returns-clause-runs : goal.returns-clause-runs
returns-clause-runs g c =
    planned_run_law c.args.words.now (g.D.Desk.view c.args.desk.now) (g.D.Desk.view c.silc.new.desk) c.silc.new.kept
    c.silc.result c.silc.ensures.ending

pub returns-clause-words : goal.returns-clause-words
returns-clause-words g c = (c.silc.ensures.words, c.silc.ensures.command)

pub returns-clause-stages : goal.returns-clause-stages
returns-clause-stages g c =
    stages_text_law c.args.words.now (g.D.Desk.view c.args.desk.now) (g.D.Desk.view c.silc.new.desk) c.silc.new.kept
    c.silc.result c.silc.ensures.ending

pub returns-clause-pipes : goal.returns-clause-pipes
returns-clause-pipes g c =
    staged_run_law c.args.words.now (g.D.Desk.view c.args.desk.now) (g.D.Desk.view c.silc.new.desk) c.silc.new.kept
    c.silc.result c.silc.ensures.ending

pub returns-clause-frames : goal.returns-clause-frames
returns-clause-frames g c =
    λ src datapath phases down up out form.
    frames_law c.args.words.now (g.D.Desk.view c.args.desk.now) (g.D.Desk.view c.silc.new.desk) c.silc.new.kept
    c.silc.result c.silc.ensures.ending src datapath phases down up out form
    (c.silc.ensures.allowed (frame src datapath phases down up out) form)

pub returns-clause-joins : goal.returns-clause-joins
returns-clause-joins g c =
    net_end_law c.args.words.now (g.D.Desk.view c.args.desk.now) (g.D.Desk.view c.silc.new.desk) c.silc.new.kept
    c.silc.result c.silc.ensures.ending
