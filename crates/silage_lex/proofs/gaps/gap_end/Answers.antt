use Rattle.std.proofs.Common.{◌<◌, arith, Some}
use Rattle.std.specs.Prelude.{IfSome}
use Rattle.silage_lex.specs.Tokens.{none}
use Rattle.silage_lex.specs.Scan.{IsGap}
use Rattle.silage_lex.proofs.Reading.{gap_then}
use Rattle.silage_lex.proofs.gaps.gap_end.Goals as goal

pub gap-init : goal.gap-init
gap-init c = record { order = omega arith; within = c.requires.inside; gap = none }

pub gap-preserved : goal.gap-preserved
gap-preserved c =
    let so_far = c.gap.invariant in
    let order = so_far.order in
    let step : IfSome (Some c.in-Some.to) (λ to. (c.gap.at < to) × IsGap c.args.src.now c.gap.at to) =
    rw c.in-Some.is at c.in_ok-to.ensures.gap in
    record { order = omega arith; within = step.1.within; gap = gap_then so_far.gap step.1.gap }
