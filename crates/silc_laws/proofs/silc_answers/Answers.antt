use Rattle.silc_laws.proofs.Laws.{answer_law, schedule_law, list_law, demo_law, sim_law, eval_law, run_law}
use Rattle.silc_laws.proofs.Laws.{stages_law, pipe_law, frame_law, frame_compile_law, net_law}
use Rattle.silc_laws.proofs.silc_answers.Goals as goal

pub returns-clause-answer : goal.returns-clause-answer
returns-clause-answer g c =
    answer_law c.args.words.now (g.D.Desk.view c.args.desk.now) (g.D.Desk.view c.silc.new.desk) c.silc.new.kept
    c.silc.result c.silc.ensures.ending

pub returns-clause-schedule_answer : goal.returns-clause-schedule_answer
returns-clause-schedule_answer g c =
    schedule_law c.args.words.now (g.D.Desk.view c.args.desk.now) (g.D.Desk.view c.silc.new.desk) c.silc.new.kept
    c.silc.result c.silc.ensures.ending

pub returns-clause-list_answer : goal.returns-clause-list_answer
returns-clause-list_answer g c =
    list_law c.args.words.now (g.D.Desk.view c.args.desk.now) (g.D.Desk.view c.silc.new.desk) c.silc.new.kept
    c.silc.result c.silc.ensures.ending

pub returns-clause-demo_answer : goal.returns-clause-demo_answer
returns-clause-demo_answer g c =
    demo_law c.args.words.now (g.D.Desk.view c.args.desk.now) (g.D.Desk.view c.silc.new.desk) c.silc.new.kept
    c.silc.result c.silc.ensures.ending

pub returns-clause-sim_answer : goal.returns-clause-sim_answer
returns-clause-sim_answer g c =
    sim_law c.args.words.now (g.D.Desk.view c.args.desk.now) (g.D.Desk.view c.silc.new.desk) c.silc.new.kept
    c.silc.result c.silc.ensures.ending

pub returns-clause-eval_answer : goal.returns-clause-eval_answer
returns-clause-eval_answer g c =
    eval_law c.args.words.now (g.D.Desk.view c.args.desk.now) (g.D.Desk.view c.silc.new.desk) c.silc.new.kept
    c.silc.result c.silc.ensures.ending

pub returns-clause-run_answer : goal.returns-clause-run_answer
returns-clause-run_answer g c =
    run_law c.args.words.now (g.D.Desk.view c.args.desk.now) (g.D.Desk.view c.silc.new.desk) c.silc.new.kept
    c.silc.result c.silc.ensures.ending

pub returns-clause-words : goal.returns-clause-words
returns-clause-words g c = (c.silc.ensures.words, c.silc.ensures.command)

pub returns-clause-stages_answer : goal.returns-clause-stages_answer
returns-clause-stages_answer g c =
    stages_law c.args.words.now (g.D.Desk.view c.args.desk.now) (g.D.Desk.view c.silc.new.desk) c.silc.new.kept
    c.silc.result c.silc.ensures.ending

pub returns-clause-pipe_answer : goal.returns-clause-pipe_answer
returns-clause-pipe_answer g c =
    pipe_law c.args.words.now (g.D.Desk.view c.args.desk.now) (g.D.Desk.view c.silc.new.desk) c.silc.new.kept
    c.silc.result c.silc.ensures.ending

pub returns-clause-frame_answer : goal.returns-clause-frame_answer
returns-clause-frame_answer g c =
    frame_law c.args.words.now (g.D.Desk.view c.args.desk.now) (g.D.Desk.view c.silc.new.desk) c.silc.new.kept
    c.silc.result c.silc.ensures.ending

pub returns-clause-frame_compiles : goal.returns-clause-frame_compiles
returns-clause-frame_compiles g c =
    frame_compile_law c.args.words.now (g.D.Desk.view c.args.desk.now) (g.D.Desk.view c.silc.new.desk) c.silc.new.kept
    c.silc.result c.silc.ensures.ending

pub returns-clause-net_answer : goal.returns-clause-net_answer
returns-clause-net_answer g c =
    net_law c.args.words.now (g.D.Desk.view c.args.desk.now) (g.D.Desk.view c.silc.new.desk) c.silc.new.kept
    c.silc.result c.silc.ensures.ending
