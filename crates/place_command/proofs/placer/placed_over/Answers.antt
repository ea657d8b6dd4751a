use Rattle.lists.proofs.Results.{if_err}
use Rattle.silc_files.proofs.Results.{at_error}
use Rattle.place_command.specs.Private.Endings.{IsEndingOf, IsUngivenIn, IsPlanless, IsUnplacedIn}
use Rattle.place_command.proofs.Made.{places_given, registers_given}
use Rattle.place_command.proofs.Refusing.{ending_of, ungiven_over, planless_over}
use Rattle.place_command.proofs.placer.placed_over.Goals as goal

pub returns-in_err-lines-clause-err : goal.returns-in_err-lines-clause-err
returns-in_err-lines-clause-err c =
    at_error c.from_residual.result c.in_err-lines.field-0.0 c.from_residual.ensures.1
    (IsEndingOf (IsUnplacedIn c.args.text.now c.args.graph c.args.path))
    (ending_of (IsUngivenIn c.args.text.now c.args.path) (IsUnplacedIn c.args.text.now c.args.graph c.args.path)
    (ungiven_over c.args.graph c.args.path c.args.text.now) c.in_err-lines.field-0.0 c.in_err-lines.ensures.err)

pub returns-clause-gives : goal.returns-clause-gives
returns-clause-gives c =
    places_given c.args.text.now c.args.path c.in_ok-lines.lines c.in_ok-lines.ensures.lines c.placed_with.result
    c.placed_with.ensures.path c.placed_with.ensures.places

pub returns-clause-registers : goal.returns-clause-registers
returns-clause-registers c =
    registers_given c.args.text.now c.args.path c.in_ok-lines.lines c.in_ok-lines.ensures.lines c.placed_with.result
    c.placed_with.ensures.path c.placed_with.ensures.registers

pub returns-clause-err : goal.returns-clause-err
returns-clause-err c =
    if_err c.placed_with.result (IsEndingOf (IsPlanless c.args.graph c.args.path c.in_ok-lines.lines))
    (IsEndingOf (IsUnplacedIn c.args.text.now c.args.graph c.args.path))
    (ending_of (IsPlanless c.args.graph c.args.path c.in_ok-lines.lines)
    (IsUnplacedIn c.args.text.now c.args.graph c.args.path)
    (planless_over c.args.graph c.args.path c.args.text.now c.in_ok-lines.lines c.in_ok-lines.ensures.lines))
    c.placed_with.ensures.err
