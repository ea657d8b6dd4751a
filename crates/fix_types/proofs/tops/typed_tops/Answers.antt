use Rattle.std.proofs.Common.{arith}
use Rattle.silage_syntax.specs.Tree.{view, view_top}
use Rattle.type_rules.specs.TypedTree.{view_typed}
use Rattle.type_rules.specs.Private.Sound.{IsSoundTop}
use Rattle.fix_types.proofs.TopSteps.{top_here, top_at_is, top_fails, next_typed}
use Rattle.fix_types.proofs.tops.typed_tops.Goals as goal

pub add_top-requires : goal.add_top-requires
add_top-requires c =
    let p = view c.args.tops.now.program.now in
    top_at_is c.args.tops.now.program.now.tops c.loop-at.at c.index.result.now (omega (arith, c.len-at-end.ensures))
    c.index.ensures (IsSoundTop p) c.requires.sound

pub returns-in_err-add_top : goal.returns-in_err-add_top
returns-in_err-add_top c =
    let p = view c.args.tops.now.program.now in
    let here =
    top_here c.args.tops.now.program.now.tops c.loop-at.at c.index.result.now (omega (arith, c.len-at-end.ensures))
    c.index.ensures in
    top_fails p c.loop-at.at (view_top c.index.result.now) here (view_typed c.loop-at.typed) c.loop-at.invariant
    c.from_residual.result c.in_err-add_top.field-0.0 c.from_residual.ensures.1 c.in_err-add_top.ensures

pub loop-at-preserved : goal.loop-at-preserved
loop-at-preserved c =
    let p = view c.args.tops.now.program.now in
    let here =
    top_here c.args.tops.now.program.now.tops c.loop-at.at c.index.result.now (omega (arith, c.len-at-end.ensures))
    c.index.ensures in
    next_typed p c.loop-at.at (view_top c.index.result.now) here (view_typed c.loop-at.typed) c.loop-at.invariant
    (view_typed c.add_top.new.typed) c.in_ok-add_top.ensures.0 c.in_ok-add_top.ensures.1
