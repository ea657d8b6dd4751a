use Rattle.std.proofs.Common.{[], ◌∷◌}
use Rattle.silc_files.specs.Endings.{IsAmong}
use Rattle.silc_files.proofs.Endings.{among_first, reads_wider, reads_more}
use Rattle.silc_files.proofs.Results.{at_error}
use Rattle.plan_commands.specs.Planning.{AreUnread}
use Rattle.plan_commands.proofs.Errors.{inputs_read, first_unread, second_unread}
use Rattle.plan_commands.proofs.planning.read_inputs.Goals as goal

pub returns-clause-reads : goal.returns-clause-reads
returns-clause-reads g c =
    reads_more (c.args.source.now ∷ []) (c.args.datapath.now ∷ []) (g.D.Desk.view c.args.desk.now)
    (g.D.Desk.view c.read_input.new.desk) (g.D.Desk.view c.read_input-2.new.desk) c.in_ok-source.ensures.reads
    c.in_ok-datapath.ensures.reads

pub returns-clause-ok : goal.returns-clause-ok
returns-clause-ok g c =
    inputs_read c.args.source.now c.args.datapath.now (g.D.Desk.view c.args.desk.now)
    (g.D.Desk.view c.read_input.new.desk) (g.D.Desk.view c.read_input-2.new.desk) c.in_ok-source.ensures.reads
    c.in_ok-datapath.ensures.reads _ c.in_ok-source.ensures.ok c.in_ok-datapath.ensures.ok
    c.in_ok-datapath.ensures.through

pub returns-in_err-source-clause-reads : goal.returns-in_err-source-clause-reads
returns-in_err-source-clause-reads g c =
    reads_wider (IsAmong (c.args.source.now ∷ [])) (IsAmong (c.args.source.now ∷ c.args.datapath.now ∷ []))
    (g.D.Desk.view c.args.desk.now) (g.D.Desk.view c.read_input.new.desk)
    (among_first (c.args.source.now ∷ []) (c.args.datapath.now ∷ [])) c.in_err-source.ensures.reads

pub returns-in_err-source-clause-err : goal.returns-in_err-source-clause-err
returns-in_err-source-clause-err g c =
    at_error c.from_residual.result c.in_err-source.field-0.0 c.from_residual.ensures.1
    (AreUnread c.args.source.now c.args.datapath.now (g.D.Desk.view c.args.desk.now)
    (g.D.Desk.view c.read_input.new.desk))
    (first_unread c.args.source.now c.args.datapath.now (g.D.Desk.view c.args.desk.now)
    (g.D.Desk.view c.read_input.new.desk) c.in_err-source.ensures.reads c.in_err-source.field-0.0
    c.in_err-source.ensures.err)

pub returns-in_err-datapath-clause-reads : goal.returns-in_err-datapath-clause-reads
returns-in_err-datapath-clause-reads g c =
    reads_more (c.args.source.now ∷ []) (c.args.datapath.now ∷ []) (g.D.Desk.view c.args.desk.now)
    (g.D.Desk.view c.read_input.new.desk) (g.D.Desk.view c.read_input-2.new.desk) c.in_ok-source.ensures.reads
    c.in_err-datapath.ensures.reads

pub returns-in_err-datapath-clause-err : goal.returns-in_err-datapath-clause-err
returns-in_err-datapath-clause-err g c =
    at_error c.from_residual-in_err-datapath.result c.in_err-datapath.field-0.0
    c.from_residual-in_err-datapath.ensures.1
    (AreUnread c.args.source.now c.args.datapath.now (g.D.Desk.view c.args.desk.now)
    (g.D.Desk.view c.read_input-2.new.desk))
    (second_unread c.args.source.now c.args.datapath.now (g.D.Desk.view c.args.desk.now)
    (g.D.Desk.view c.read_input.new.desk) (g.D.Desk.view c.read_input-2.new.desk) c.in_ok-source.ensures.reads
    c.in_err-datapath.ensures.reads c.in_err-datapath.field-0.0 c.in_err-datapath.ensures.err)
