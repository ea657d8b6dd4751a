use Rattle.silc_laws.proofs.Laws.{printed_law, listed_law, demonstrated_law, simulated_law, one_solution_law}
use Rattle.silc_laws.proofs.Laws.{equals_eval_law, staged_law, piped_law, framed_law, joined_law, closed_law}
use Rattle.silc_laws.proofs.silc_done.Goals as goal

pub returns-clause-printed : goal.returns-clause-printed
returns-clause-printed g c =
    printed_law c.args.words.now (g.D.Desk.view c.args.desk.now) (g.D.Desk.view c.silc.new.desk) c.silc.new.kept
    c.silc.result c.silc.ensures.ending

pub returns-clause-listed : goal.returns-clause-listed
returns-clause-listed g c =
    listed_law c.args.words.now (g.D.Desk.view c.args.desk.now) (g.D.Desk.view c.silc.new.desk) c.silc.new.kept
    c.silc.result c.silc.ensures.ending

pub returns-clause-demonstrated : goal.returns-clause-demonstrated
returns-clause-demonstrated g c =
    demonstrated_law c.args.words.now (g.D.Desk.view c.args.desk.now) (g.D.Desk.view c.silc.new.desk) c.silc.new.kept
    c.silc.result c.silc.ensures.ending

pub returns-clause-simulated : goal.returns-clause-simulated
returns-clause-simulated g c =
    simulated_law c.args.words.now (g.D.Desk.view c.args.desk.now) (g.D.Desk.view c.silc.new.desk) c.silc.new.kept
    c.silc.result c.silc.ensures.ending

pub returns-clause-one_solution : goal.returns-clause-one_solution
returns-clause-one_solution g c =
    one_solution_law c.args.words.now (g.D.Desk.view c.args.desk.now) (g.D.Desk.view c.silc.new.desk) c.silc.new.kept
    c.silc.result c.silc.ensures.ending

pub returns-clause-equals_eval : goal.returns-clause-equals_eval
returns-clause-equals_eval g c =
    equals_eval_law c.args.words.now (g.D.Desk.view c.args.desk.now) (g.D.Desk.view c.silc.new.desk) c.silc.new.kept
    c.silc.result c.silc.ensures.ending

pub returns-clause-closed : goal.returns-clause-closed
returns-clause-closed g c =
    closed_law c.args.words.now (g.D.Desk.view c.args.desk.now) (g.D.Desk.view c.silc.new.desk) c.silc.new.kept
    c.silc.result c.silc.ensures.ending

pub returns-clause-words : goal.returns-clause-words
returns-clause-words g c = (c.silc.ensures.words, c.silc.ensures.command)

pub returns-clause-staged : goal.returns-clause-staged
returns-clause-staged g c =
    staged_law c.args.words.now (g.D.Desk.view c.args.desk.now) (g.D.Desk.view c.silc.new.desk) c.silc.new.kept
    c.silc.result c.silc.ensures.ending

pub returns-clause-piped : goal.returns-clause-piped
returns-clause-piped g c =
    piped_law c.args.words.now (g.D.Desk.view c.args.desk.now) (g.D.Desk.view c.silc.new.desk) c.silc.new.kept
    c.silc.result c.silc.ensures.ending

pub returns-clause-framed : goal.returns-clause-framed
returns-clause-framed g c =
    framed_law c.args.words.now (g.D.Desk.view c.args.desk.now) (g.D.Desk.view c.silc.new.desk) c.silc.new.kept
    c.silc.result c.silc.ensures.ending

pub returns-clause-joined : goal.returns-clause-joined
returns-clause-joined g c =
    joined_law c.args.words.now (g.D.Desk.view c.args.desk.now) (g.D.Desk.view c.silc.new.desk) c.silc.new.kept
    c.silc.result c.silc.ensures.ending
