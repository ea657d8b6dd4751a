use Rattle.std.proofs.Common.{sym, subst}
use Rattle.place_stages_command.specs.Private.Placing.{IsRefusedFor, IsUngivenIn}
use Rattle.place_stages_command.specs.declared.ending.PipeEnding.{PipeEnding}
use Rattle.place_stages_command.proofs.Refusing.{given_whole, not_given, too_long}
use Rattle.place_stages_command.proofs.piper.given_in.Goals as goal

pub returns-in-Ok-clause-gives : goal.returns-in-Ok-clause-gives
returns-in-Ok-clause-gives c =
    given_whole c.args.path.now c.args.text.now _ _ c.in-Whole.is c.as_slice.ensures c.requires.short c.in-Ok.given
    c.in-Ok.ensures.given

pub returns-in-Err-clause-err : goal.returns-in-Err-clause-err
returns-in-Err-clause-err c =
    subst (λ (ending : PipeEnding). IsRefusedFor (IsUngivenIn c.args.path.now c.args.text.now) ending)
    (sym c.ungiven.ensures)
    (not_given c.args.path.now c.args.text.now _ _ c.in-Whole.is c.as_slice.ensures c.requires.short c.in-Err.fault
    c.in-Err.ensures.fault)

pub returns-in-TooLong-clause-err : goal.returns-in-TooLong-clause-err
returns-in-TooLong-clause-err c = too_long c.args.path.now c.args.text.now c.in-TooLong.is
