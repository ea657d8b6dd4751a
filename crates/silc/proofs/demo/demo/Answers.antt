use Rattle.std.proofs.Common.{refl, ap, subst, inl, inr}
use Rattle.desk_core.specs.View.{Content}
use Rattle.desk_core.specs.Desk.{IfSpecified}
use Rattle.silc_files.specs.Printing.{IsPrintedMore, IsPrintedInPart}
use Rattle.statuses.specs.declared.status.Ending.{Ending}
use Rattle.silc.proofs.demo.demo.Goals as goal

pub returns-in-Ok-print_whole-clause-answer : goal.returns-in-Ok-print_whole-clause-answer
returns-in-Ok-print_whole-clause-answer g c =
    inl (
      ap (λ (e : Ending). e.status) c.from.ensures,
      record {
        machine = c.in-Ok.made.machine;
        kept_is = refl;
        line = c.in-Ok.made.line;
        run = c.in-Ok.ensures.ok;
        printed =
            subst (λ (line : Content).
            IfSpecified (IsPrintedMore line) (g.D.Desk.view c.args.desk.now).printed
            (g.D.Desk.view c.print_whole.new.desk).printed)
            c.deref.ensures
            c.in-Ok-print_whole.ensures.ok;
      },
    )

pub returns-in-Err-print_whole-clause-answer : goal.returns-in-Err-print_whole-clause-answer
returns-in-Err-print_whole-clause-answer g c =
    inr (inl (
      ap (λ (e : Ending). e.status) c.from-in-Err-print_whole.ensures,
      record {
        rose = c.in-Err-print_whole.ensures.cause refl;
        machine = c.in-Ok.made.machine;
        line = c.in-Ok.made.line;
        run = c.in-Ok.ensures.ok;
        printed =
            subst (λ (line : Content).
            IfSpecified (IsPrintedInPart line) (g.D.Desk.view c.args.desk.now).printed
            (g.D.Desk.view c.print_whole.new.desk).printed)
            c.deref.ensures
            c.in-Err-print_whole.ensures.err;
      },
    ))
