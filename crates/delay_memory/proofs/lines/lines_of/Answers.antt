use Rattle.std.proofs.Common.{◌∙◌, refl, length}
use Rattle.delay_memory.proofs.Stored.{count_all}
use Rattle.delay_memory.proofs.lines.lines_of.Goals as goal

pub returns-clause-count : goal.returns-clause-count
returns-clause-count c =
    let count = c.in_ok-place_all.ensures.lines.count in
    count ∙ count_all c.args.delays.now (length c.args.delays.now) refl
