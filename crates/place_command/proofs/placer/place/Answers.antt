use Rattle.std.proofs.Common.{refl, sym, subst}
use Rattle.desk_core.specs.Whole.{IsWrittenWhole, IsWrittenInPart}
use Rattle.silc_files.specs.Limits.{text_limit}
use Rattle.silc_files.proofs.Endings.{not_written}
use Rattle.statuses.specs.declared.status.Status.TheVariants.{Desk}
use Rattle.plan_commands.proofs.Making.{cut_short}
use Rattle.place_command.specs.Placed.{ArePlaced, IsPlaceAnswer}
use Rattle.place_command.specs.Refusals.{IsPlaceError}
use Rattle.place_command.specs.declared.ending.PlaceEnding.{PlaceEnding}
use Rattle.place_command.proofs.Made.{written, has_plan, has_solution}
use Rattle.place_command.proofs.Refusing.{never_done, not_made_answer}
use Rattle.place_command.proofs.placer.place.Goals as goal

pub returns-in-Ok-write_whole-clause-placed : goal.returns-in-Ok-write_whole-clause-placed
returns-in-Ok-write_whole-clause-placed g c =
    λ done.
    has_plan c.args.source.now c.args.datapath.now c.args.plan.now c.args.output.now
    (g.D.Desk.view c.args.desk.now) (g.D.Desk.view c.make.new.desk) (g.D.Desk.view c.write_whole.new.desk)
    c.in-Ok.microcode c.requires c.in-Ok.ensures.reads.unchanged.files c.in-Ok.ensures.ok
    (subst
    (λ bytes.
    IsWrittenWhole c.args.output.now bytes (g.D.Desk.view c.make.new.desk) (g.D.Desk.view c.write_whole.new.desk))
    c.deref.ensures c.in-Ok-write_whole.ensures.ok)

pub returns-in-Ok-write_whole-clause-headline : goal.returns-in-Ok-write_whole-clause-headline
returns-in-Ok-write_whole-clause-headline g c =
    λ done.
    has_solution c.args.source.now c.args.datapath.now c.args.plan.now c.args.output.now
    (g.D.Desk.view c.args.desk.now) (g.D.Desk.view c.make.new.desk) (g.D.Desk.view c.write_whole.new.desk)
    c.in-Ok.microcode c.requires c.in-Ok.ensures.reads.unchanged.files c.in-Ok.ensures.ok
    (subst
    (λ bytes.
    IsWrittenWhole c.args.output.now bytes (g.D.Desk.view c.make.new.desk) (g.D.Desk.view c.write_whole.new.desk))
    c.deref.ensures c.in-Ok-write_whole.ensures.ok)

pub returns-clause-headline : goal.returns-clause-headline
returns-clause-headline g c =
    λ done.
    absurd (never_done c.args.source.now c.args.datapath.now c.args.plan.now (g.D.Desk.view c.args.desk.now)
    (g.D.Desk.view c.make.new.desk) c.in-Err.ending c.in-Err.ensures.err done)

pub returns-clause-placed : goal.returns-clause-placed
returns-clause-placed g c =
    λ done.
    absurd (never_done c.args.source.now c.args.datapath.now c.args.plan.now (g.D.Desk.view c.args.desk.now)
    (g.D.Desk.view c.make.new.desk) c.in-Err.ending c.in-Err.ensures.err done)

pub returns-clause-answer : goal.returns-clause-answer
returns-clause-answer g c =
    not_made_answer c.args.source.now c.args.datapath.now c.args.plan.now (g.D.Desk.view c.args.desk.now)
    (g.D.Desk.view c.make.new.desk) c.args.output.now c.in-Err.ending c.in-Err.ensures.err

pub returns-in-Ok-write_whole-clause-answer : goal.returns-in-Ok-write_whole-clause-answer
returns-in-Ok-write_whole-clause-answer g c =
    subst
    (λ (ending : PlaceEnding).
    IsPlaceAnswer c.args.source.now c.args.datapath.now c.args.plan.now c.args.output.now
    (g.D.Desk.view c.args.desk.now) (g.D.Desk.view c.write_whole.new.desk) ending)
    (sym c.from.ensures)
    (written c.args.source.now c.args.datapath.now c.args.plan.now c.args.output.now
    (g.D.Desk.view c.args.desk.now) (g.D.Desk.view c.make.new.desk) (g.D.Desk.view c.write_whole.new.desk)
    c.in-Ok.microcode c.requires c.in-Ok.ensures.reads.unchanged.files c.in-Ok.ensures.ok
    (subst
    (λ bytes.
    IsWrittenWhole c.args.output.now bytes (g.D.Desk.view c.make.new.desk) (g.D.Desk.view c.write_whole.new.desk))
    c.deref.ensures c.in-Ok-write_whole.ensures.ok))

pub returns-in-Ok-clause-answer : goal.returns-in-Ok-clause-answer
returns-in-Ok-clause-answer g c =
    subst
    (λ (ending : PlaceEnding).
    IsPlaceAnswer c.args.source.now c.args.datapath.now c.args.plan.now c.args.output.now
    (g.D.Desk.view c.args.desk.now) (g.D.Desk.view c.write_whole.new.desk) ending)
    (sym c.from-in-Err-write_whole.ensures)
    (cut_short (ArePlaced c.args.source.now c.args.datapath.now c.args.plan.now) c.args.plan.now c.args.output.now
    (IsPlaceError c.args.source.now c.args.datapath.now c.args.plan.now) c.in-Ok.microcode
    (g.D.Desk.view c.args.desk.now) (g.D.Desk.view c.make.new.desk) (g.D.Desk.view c.write_whole.new.desk) Desk refl
    c.in-Ok.ensures.ok
    (not_written c.args.plan.now c.args.output.now text_limit c.in-Ok.microcode (g.D.Desk.view c.args.desk.now)
    (g.D.Desk.view c.make.new.desk) (g.D.Desk.view c.write_whole.new.desk)
    c.requires c.in-Ok.ensures.ok.read c.in-Ok.ensures.reads.unchanged.files c.in-Ok.ensures.reads.never_fall
    (c.in-Err-write_whole.ensures.cause refl)
    (subst (λ bytes.
    IsWrittenInPart c.args.output.now bytes (g.D.Desk.view c.make.new.desk) (g.D.Desk.view c.write_whole.new.desk))
    c.deref.ensures c.in-Err-write_whole.ensures.err)))
