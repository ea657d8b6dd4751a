use Rattle.place_command.proofs.Refusing.{ungiven_by}
use Rattle.place_command.proofs.placer.places_of.Goals as goal

pub returns-in-Err-clause-err : goal.returns-in-Err-clause-err
returns-in-Err-clause-err c =
    ungiven_by c.args.path.now c.args.text.now c.requires.short c.in-Err.fault c.in-Err.ensures.fault c.ungiven.result
    c.ungiven.ensures
