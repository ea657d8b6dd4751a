use Rattle.std.proofs.Common.{subst, sym}
use Rattle.micro_image.specs.Valid.{IsWordOf}
use Rattle.silc_show.proofs.Reading.{obeyed_valid}
use Rattle.silc_show.proofs.conflicts.word_at.Goals as goal

pub returns : goal.returns
returns c =
    subst (IsWordOf c.args.code.now.image) (sym c.word_at.ensures)
    (obeyed_valid c.args.code.now c.args.cycle c.requires)
