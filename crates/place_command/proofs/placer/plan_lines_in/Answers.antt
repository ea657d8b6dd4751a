use Rattle.std.proofs.Common.{◌∙◌, sym, ap, subst}
use Rattle.lists.proofs.Results.{if_err}
use Rattle.silc_files.specs.Reading.{IsShort}
use Rattle.silc_files.specs.declared.files.Input.TheVariants.{Whole}
use Rattle.silc_files.proofs.Results.{if_ok}
use Rattle.place_command.specs.Refusals.{IsTextRefused}
use Rattle.place_command.specs.Private.Endings.{IsEndingOf, HaveTheirLines, ArePlanLines, ArePlanLinesIn, IsUngivenIn}
use Rattle.place_command.proofs.Refusing.{ending_of, too_long, lines_in, refused_in, their_lines}
use Rattle.place_command.proofs.placer.plan_lines_in.Goals as goal

pub returns-in-Whole-clause-numbers : goal.returns-in-Whole-clause-numbers
returns-in-Whole-clause-numbers c =
    if_ok c.plan_lines_of.result (ArePlanLines c.as_slice.result.now c.args.path.now) HaveTheirLines
    (their_lines c.as_slice.result.now c.args.path.now) c.plan_lines_of.ensures.lines

pub returns-in-Whole-clause-lines : goal.returns-in-Whole-clause-lines
returns-in-Whole-clause-lines c =
    let whole = c.in-Whole.is ∙ sym (ap Whole c.as_slice.ensures) in
    if_ok c.plan_lines_of.result (ArePlanLines c.as_slice.result.now c.args.path.now)
    (ArePlanLinesIn c.args.text.now c.args.path.now)
    (lines_in c.args.path.now c.as_slice.result.now (subst IsShort whole c.requires.short) c.args.text.now whole)
    c.plan_lines_of.ensures.lines

pub returns-in-Whole-clause-err : goal.returns-in-Whole-clause-err
returns-in-Whole-clause-err c =
    let whole = c.in-Whole.is ∙ sym (ap Whole c.as_slice.ensures) in
    if_err c.plan_lines_of.result (IsEndingOf (IsTextRefused c.args.path.now c.as_slice.result.now))
    (IsEndingOf (IsUngivenIn c.args.text.now c.args.path.now))
    (ending_of (IsTextRefused c.args.path.now c.as_slice.result.now) (IsUngivenIn c.args.text.now c.args.path.now)
    (refused_in c.args.path.now c.as_slice.result.now (subst IsShort whole c.requires.short) c.args.text.now whole))
    c.plan_lines_of.ensures.err

pub returns-in-TooLong-clause-err : goal.returns-in-TooLong-clause-err
returns-in-TooLong-clause-err c = too_long c.args.path.now c.args.text.now c.in-TooLong.is
