use Rattle.std.proofs.Common.{◌∙◌, sym, arith}
use Rattle.name_check.proofs.MainFound.{main_here}
use Rattle.name_check.proofs.tops.main_position.Goals as goal

pub returns-then-is_main : goal.returns-then-is_main
returns-then-is_main c =
    main_here c.args.program.now.tops c.loop-at.at c.index.result.now (omega arith) c.index.ensures
    (sym c.is_main.ensures ∙ c.if-is_main.true) c.loop-at.invariant
