-- The list of each table or function goes behind those before.
use Rattle.std.proofs.Common.{◌≡◌, ◌<◌, length, get_or, ap, ◌∙◌, arith, map}
use Rattle.silage_syntax.specs.Tree.{view_top}
use Rattle.name_rules.specs.Calls.{called_by}
use Rattle.name_rules.specs.Private.CallLists.{places}
use Rattle.name_check.proofs.CallGraph.{list_more, all_lists}
use Rattle.name_check.proofs.recursion.calls_of_all.Goals as goal

pub loop-top-preserved : goal.loop-top-preserved
loop-top-preserved c =
    let tops = c.as_slice-top-items.ensures in
    let within : c.loop-top.top-index < length c.args.program.now.tops = let n = ap length tops in omega arith in
    let is : c.top-item.result ≡ get_or c.args.program.now.tops c.loop-top.top-index c.top-item.result =
    c.top-item.is ∙ ap (λ xs. get_or xs c.loop-top.top-index c.top-item.result) tops in
    list_more _ _ _ _ _ _ _ within is c.in_ok-callees.ensures c.in_ok-push.ensures.ok c.loop-top.invariant

pub returns : goal.returns
returns c =
    let past =
    let n = ap length c.as_slice-top-items.ensures in
    let f = c.loop-top-test.false in
    all_lists _ _ c.args.program.now.tops _ (omega arith) c.loop-top.invariant in
    past ∙ ap (λ names. map (λ top. places names (called_by top)) (map view_top c.args.program.now.tops)) c.requires
