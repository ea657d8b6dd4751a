-- Tokens without a `(` of the text are too few.
use Rattle.silage_print.proofs.Needed.{each_needed}
use Rattle.silage_print.proofs.printing.parentheses_are_needed.Goals as goal

pub returns : goal.returns
returns c = each_needed
