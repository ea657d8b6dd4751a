use Rattle.std.proofs.Common.{◌^◌}
use Rattle.place_file.proofs.Numbers.{number_text}
use Rattle.place_file.proofs.number.number.Goals as goal

pub returns-in-Err : goal.returns-in-Err
returns-in-Err c = λ n is. c.in-Err.ensures.cases.0 (number_text (2 ^ 32) c.args.word.now n is)
