use Rattle.silc_files.proofs.Results.{if_ok}
use Rattle.net_command.proofs.Rows.{stream_read}
use Rattle.net_command.proofs.samples.read_samples.Goals as goal

pub returns-clause-ok : goal.returns-clause-ok
returns-clause-ok g c =
    if_ok c.rows_in.result _ _
    (λ rows.
    stream_read c.args.samples.now c.args.channels.now (g.D.Desk.view c.args.desk.now)
    (g.D.Desk.view c.read_file.new.desk) c.in_ok-text.text rows c.in_ok-text.ensures.through
    c.in_ok-text.ensures.within c.in_ok-text.ensures.content)
    c.rows_in.ensures.ok
