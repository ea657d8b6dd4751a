use Rattle.type_rules.proofs.Literals.{number_out}
use Rattle.fix_types.proofs.operands.literal_word.Goals as goal

pub returns-in-Err-Range-clause-met : goal.returns-in-Err-Range-clause-met
returns-in-Err-Range-clause-met c =
    let at = c.in-Number-Fix in
    rw (at.is-0, at.is-1) (number_out at.neg at.digits at.places at.at at.t c.in-Err-Range.ensures.range)
