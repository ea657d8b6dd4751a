use Rattle.command_words.specs.Command.{compile, schedule, list, eval, stages, frame}
use Rattle.silc_laws.proofs.Laws.{only_law, prints_law, demo_only_law}
use Rattle.silc_laws.proofs.silc_leaves.Goals as goal

pub returns-clause-only : goal.returns-clause-only
returns-clause-only g c =
    only_law c.args.words.now (g.D.Desk.view c.args.desk.now) (g.D.Desk.view c.silc.new.desk) c.silc.new.kept
    c.silc.result c.silc.ensures.ending

pub returns-clause-prints_only : goal.returns-clause-prints_only
returns-clause-prints_only g c =
    prints_law c.args.words.now (g.D.Desk.view c.args.desk.now) (g.D.Desk.view c.silc.new.desk) c.silc.new.kept
    c.silc.result c.silc.ensures.ending

pub returns-clause-demo_only : goal.returns-clause-demo_only
returns-clause-demo_only g c =
    demo_only_law c.args.words.now (g.D.Desk.view c.args.desk.now) (g.D.Desk.view c.silc.new.desk) c.silc.new.kept
    c.silc.result c.silc.ensures.ending

pub returns-clause-compile_keeps_nothing : goal.returns-clause-compile_keeps_nothing
returns-clause-compile_keeps_nothing g c = λ src datapath out form. (c.silc.ensures.ending (compile src datapath out)
    form).2

pub returns-clause-eval_keeps_nothing : goal.returns-clause-eval_keeps_nothing
returns-clause-eval_keeps_nothing g c = λ src samples out form. (c.silc.ensures.ending (eval src samples out)
    form).2

pub returns-clause-schedule_keeps_nothing : goal.returns-clause-schedule_keeps_nothing
returns-clause-schedule_keeps_nothing g c = λ src datapath form. (c.silc.ensures.ending (schedule src datapath)
    form).2

pub returns-clause-list_keeps_nothing : goal.returns-clause-list_keeps_nothing
returns-clause-list_keeps_nothing g c = λ mic form. (c.silc.ensures.ending (list mic) form).2

pub returns-clause-words : goal.returns-clause-words
returns-clause-words g c = (c.silc.ensures.words, c.silc.ensures.command)

pub returns-clause-stages_keeps_nothing : goal.returns-clause-stages_keeps_nothing
returns-clause-stages_keeps_nothing g c =
    λ src datapath count form. (c.silc.ensures.ending (stages src datapath count) form).2

pub returns-clause-frame_keeps_nothing : goal.returns-clause-frame_keeps_nothing
returns-clause-frame_keeps_nothing g c =
    λ src datapath phases down up out form.
    (c.silc.ensures.ending (frame src datapath phases down up out) form).2
