use Rattle.command_words.specs.Command.{frame}
use Rattle.silc_laws.proofs.Refused.{compile_refusal_law, schedule_refusal_law, list_refusal_law, sim_refusal_law}
use Rattle.silc_laws.proofs.Refused.{eval_refusal_law, run_refusal_law, demo_refusal_law}
use Rattle.silc_laws.proofs.Refused.{stages_refusal_law, pipe_refusal_law, frame_refusal_law, net_refusal_law}
use Rattle.silc_laws.proofs.silc_refuses.Goals as goal

pub returns-clause-compile_refuses : goal.returns-clause-compile_refuses
returns-clause-compile_refuses g c =
    compile_refusal_law c.args.words.now (g.D.Desk.view c.args.desk.now) (g.D.Desk.view c.silc.new.desk) c.silc.new.kept
    c.silc.result c.silc.ensures.ending

pub returns-clause-schedule_refuses : goal.returns-clause-schedule_refuses
returns-clause-schedule_refuses g c =
    schedule_refusal_law c.args.words.now (g.D.Desk.view c.args.desk.now) (g.D.Desk.view c.silc.new.desk)
    c.silc.new.kept c.silc.result c.silc.ensures.ending

pub returns-clause-list_refuses : goal.returns-clause-list_refuses
returns-clause-list_refuses g c =
    list_refusal_law c.args.words.now (g.D.Desk.view c.args.desk.now) (g.D.Desk.view c.silc.new.desk) c.silc.new.kept
    c.silc.result c.silc.ensures.ending

pub returns-clause-demo_refuses : goal.returns-clause-demo_refuses
returns-clause-demo_refuses g c =
    demo_refusal_law c.args.words.now (g.D.Desk.view c.args.desk.now) (g.D.Desk.view c.silc.new.desk) c.silc.new.kept
    c.silc.result c.silc.ensures.ending

pub returns-clause-sim_refuses : goal.returns-clause-sim_refuses
returns-clause-sim_refuses g c =
    sim_refusal_law c.args.words.now (g.D.Desk.view c.args.desk.now) (g.D.Desk.view c.silc.new.desk) c.silc.new.kept
    c.silc.result c.silc.ensures.ending

pub returns-clause-eval_refuses : goal.returns-clause-eval_refuses
returns-clause-eval_refuses g c =
    eval_refusal_law c.args.words.now (g.D.Desk.view c.args.desk.now) (g.D.Desk.view c.silc.new.desk) c.silc.new.kept
    c.silc.result c.silc.ensures.ending

pub returns-clause-run_refuses : goal.returns-clause-run_refuses
returns-clause-run_refuses g c =
    run_refusal_law c.args.words.now (g.D.Desk.view c.args.desk.now) (g.D.Desk.view c.silc.new.desk) c.silc.new.kept
    c.silc.result c.silc.ensures.ending

pub returns-clause-words : goal.returns-clause-words
returns-clause-words g c = (c.silc.ensures.words, c.silc.ensures.command)

pub returns-clause-stages_refuses : goal.returns-clause-stages_refuses
returns-clause-stages_refuses g c =
    stages_refusal_law c.args.words.now (g.D.Desk.view c.args.desk.now) (g.D.Desk.view c.silc.new.desk) c.silc.new.kept
    c.silc.result c.silc.ensures.ending

pub returns-clause-pipe_refuses : goal.returns-clause-pipe_refuses
returns-clause-pipe_refuses g c =
    pipe_refusal_law c.args.words.now (g.D.Desk.view c.args.desk.now) (g.D.Desk.view c.silc.new.desk) c.silc.new.kept
    c.silc.result c.silc.ensures.ending

pub returns-clause-frame_refuses : goal.returns-clause-frame_refuses
returns-clause-frame_refuses g c =
    λ src datapath phases down up out form.
    frame_refusal_law c.args.words.now (g.D.Desk.view c.args.desk.now) (g.D.Desk.view c.silc.new.desk) c.silc.new.kept
    c.silc.result c.silc.ensures.ending src datapath phases down up out form
    (c.silc.ensures.allowed (frame src datapath phases down up out) form)

pub returns-clause-net_refuses : goal.returns-clause-net_refuses
returns-clause-net_refuses g c =
    net_refusal_law c.args.words.now (g.D.Desk.view c.args.desk.now) (g.D.Desk.view c.silc.new.desk) c.silc.new.kept
    c.silc.result c.silc.ensures.ending
