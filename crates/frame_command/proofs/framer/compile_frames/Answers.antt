use Rattle.std.proofs.Common.{refl, ap, subst}
use Rattle.desk_core.specs.Whole.{IsWrittenInPart}
use Rattle.silc_files.specs.Limits.{text_limit}
use Rattle.silc_files.proofs.Endings.{not_written}
use Rattle.statuses.specs.declared.status.Ending.{Ending}
use Rattle.frame_command.specs.Frame.{AreFramed}
use Rattle.rate_unfold.specs.Frames.{rates}
use Rattle.frame_command.specs.FramePlans.{IsFrameError}
use Rattle.frame_command.proofs.Framed.{frame_error}
use Rattle.plan_commands.proofs.Making.{cut_short}
use Rattle.frame_command.proofs.framer.compile_frames.Goals as goal

pub returns-in-Ok-clause-answer : goal.returns-in-Ok-clause-answer
returns-in-Ok-clause-answer g c =
    cut_short (AreFramed (rates c.args.phases c.args.down.now c.args.up.now) c.args.source.now c.args.datapath.now)
    c.args.datapath.now c.args.output.now
    (IsFrameError (rates c.args.phases c.args.down.now c.args.up.now) c.args.source.now c.args.datapath.now)
    c.in-Ok.microcode (g.D.Desk.view c.args.desk.now) (g.D.Desk.view c.make.new.desk)
    (g.D.Desk.view c.write_whole.new.desk) c.from-in-Err-write_whole.result.status
    (ap (λ (e : Ending). e.status) c.from-in-Err-write_whole.ensures) c.in-Ok.ensures.ok
    (not_written c.args.datapath.now c.args.output.now text_limit c.in-Ok.microcode (g.D.Desk.view c.args.desk.now)
    (g.D.Desk.view c.make.new.desk) (g.D.Desk.view c.write_whole.new.desk)
    c.requires.apart c.in-Ok.ensures.ok.read c.in-Ok.ensures.reads.unchanged.files c.in-Ok.ensures.reads.never_fall
    (c.in-Err-write_whole.ensures.cause refl)
    (subst (λ bytes.
    IsWrittenInPart c.args.output.now bytes (g.D.Desk.view c.make.new.desk) (g.D.Desk.view c.write_whole.new.desk))
    c.deref.ensures c.in-Err-write_whole.ensures.err))

pub returns-clause-answer : goal.returns-clause-answer
returns-clause-answer g c =
    frame_error (rates c.args.phases c.args.down.now c.args.up.now) c.args.source.now c.args.datapath.now
    c.args.output.now (g.D.Desk.view c.args.desk.now) (g.D.Desk.view c.make.new.desk) c.in-Err.ending.status
    c.in-Err.ensures.err
