use Rattle.std.proofs.Common.{refl, subst, inl, inr}
use Rattle.desk_core.specs.View.{Content}
use Rattle.desk_core.specs.Desk.{IfSpecified}
use Rattle.silc_files.specs.Printing.{IsPrintedMore, IsPrintedInPart}
use Rattle.silc.proofs.Listing.{list_error, listed, listing_cut_short}
use Rattle.silc.proofs.list.list.Goals as goal

pub returns-in-Ok-print_whole-clause-answer : goal.returns-in-Ok-print_whole-clause-answer
returns-in-Ok-print_whole-clause-answer g c =
    inl (
      refl,
      listed c.args.microcode.now (g.D.Desk.view c.args.desk.now) (g.D.Desk.view c.make.new.desk)
          (g.D.Desk.view c.print_whole.new.desk) c.in-Ok.text
          c.in-Ok.ensures.reads c.in-Ok.ensures.ok c.in-Ok-print_whole.ensures.only
          (subst (λ (text : Content).
          IfSpecified (IsPrintedMore text) (g.D.Desk.view c.make.new.desk).printed
          (g.D.Desk.view c.print_whole.new.desk).printed)
          c.deref.ensures
          c.in-Ok-print_whole.ensures.ok),
    )

pub returns-in-Ok-clause-answer : goal.returns-in-Ok-clause-answer
returns-in-Ok-clause-answer g c =
    inr (inl (
      c.from.ensures,
      listing_cut_short c.args.microcode.now (g.D.Desk.view c.args.desk.now) (g.D.Desk.view c.make.new.desk)
          (g.D.Desk.view c.print_whole.new.desk) c.in-Ok.text
          c.in-Ok.ensures.reads c.in-Ok.ensures.ok c.in-Err-print_whole.ensures.only
          (c.in-Err-print_whole.ensures.cause refl)
          (subst (λ (text : Content).
          IfSpecified (IsPrintedInPart text) (g.D.Desk.view c.make.new.desk).printed
          (g.D.Desk.view c.print_whole.new.desk).printed)
          c.deref.ensures
          c.in-Err-print_whole.ensures.err),
    ))

pub returns-clause-answer : goal.returns-clause-answer
returns-clause-answer g c =
    inr (inr (list_error c.args.microcode.now (g.D.Desk.view c.args.desk.now) (g.D.Desk.view c.make.new.desk)
    c.in-Err.ensures.reads c.in-Err.status c.in-Err.ensures.err))
