use Rattle.silc_laws.proofs.Faults.{fault_law}
use Rattle.silc_laws.proofs.silc_fails.Goals as goal

pub returns-clause-fault : goal.returns-clause-fault
returns-clause-fault g c =
    fault_law c.args.words.now (g.D.Desk.view c.args.desk.now) (g.D.Desk.view c.silc.new.desk) c.silc.new.kept
    c.silc.result c.silc.ensures.ending

pub returns-clause-words : goal.returns-clause-words
returns-clause-words g c = (c.silc.ensures.words, c.silc.ensures.command)
