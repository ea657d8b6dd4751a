use Rattle.silc.proofs.Endings.{headline, planned, not_words}
use Rattle.silc.proofs.Reports.{ending_reported}
use Rattle.silc.proofs.command.silc.Goals as goal

pub returns-then-eq-clause-headline : goal.returns-then-eq-clause-headline
returns-then-eq-clause-headline g c =
    headline c.args.words.now (g.D.Desk.view c.args.desk.now) (g.D.Desk.view c.carry_out_words-ending.new.desk)
    c.carry_out_words-ending.new.kept
    c.carry_out_words-ending.result.status c.carry_out_words-ending.ensures.ending

pub returns-then-eq-clause-planned : goal.returns-then-eq-clause-planned
returns-then-eq-clause-planned g c =
    planned c.args.words.now (g.D.Desk.view c.args.desk.now) (g.D.Desk.view c.carry_out_words-ending.new.desk)
    c.carry_out_words-ending.new.kept
    c.carry_out_words-ending.result.status c.carry_out_words-ending.ensures.ending

pub returns-then-eq-clause-command : goal.returns-then-eq-clause-command
returns-then-eq-clause-command g c =
    not_words c.args.words.now (g.D.Desk.view c.args.desk.now) (g.D.Desk.view c.carry_out_words-ending.new.desk)
    c.carry_out_words-ending.new.kept
    c.carry_out_words-ending.result.status c.carry_out_words-ending.ensures.ending

pub returns-clause-command : goal.returns-clause-command
returns-clause-command g c =
    not_words c.args.words.now (g.D.Desk.view c.args.desk.now) (g.D.Desk.view c.carry_out_words-ending.new.desk)
    c.carry_out_words-ending.new.kept
    c.carry_out_words-ending.result.status c.carry_out_words-ending.ensures.ending

pub returns-clause-ending : goal.returns-clause-ending
returns-clause-ending g c =
    λ command form.
    ending_reported (g.D.Desk.view c.args.desk.now) (g.D.Desk.view c.carry_out_words-ending.new.desk)
    (g.D.Desk.view c.report.new.desk) c.report.ensures.unchanged c.report.ensures.faults
    c.carry_out_words-ending.ensures.faults c.carry_out_words-ending.new.kept c.carry_out_words-ending.result.status
    command (c.carry_out_words-ending.ensures.ending command form)
