use Rattle.lists.proofs.Results.{if_err}
use Rattle.silc_files.proofs.Results.{at_error}
use Rattle.net_command.specs.Private.Reading.{IsNetUnreadable}
use Rattle.net_command.proofs.NetReading.{not_read, no_net}
use Rattle.net_command.proofs.reading.read_net_file.Goals as goal

pub returns-in_err-text-clause-err : goal.returns-in_err-text-clause-err
returns-in_err-text-clause-err g c =
    at_error c.from_residual.result c.in_err-text.field-0.0 c.from_residual.ensures.1
    (IsNetUnreadable c.args.net.now c.args.output.now (g.D.Desk.view c.args.desk.now)
    (g.D.Desk.view c.read_file.new.desk))
    (not_read c.args.net.now c.args.output.now (g.D.Desk.view c.args.desk.now) (g.D.Desk.view c.read_file.new.desk)
    c.in_err-text.field-0.0 c.in_err-text.ensures.err)

pub returns-clause-err : goal.returns-clause-err
returns-clause-err g c =
    if_err c.net_in.result _ _
    (λ status.
    no_net c.args.net.now c.args.output.now (g.D.Desk.view c.args.desk.now) (g.D.Desk.view c.read_file.new.desk)
    c.in_ok-text.text c.in_ok-text.ensures.through c.in_ok-text.ensures.content status)
    c.net_in.ensures.err
