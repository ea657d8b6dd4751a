use Rattle.std.proofs.Common.{map, refl, arith}
use Rattle.std.proofs.lemmas.Result.{err_from_is_err_and}
use Rattle.std.proofs.lemmas.List.{map-append}
use Rattle.silage_syntax.specs.Tree.{view_top}
use Rattle.silage_parse.proofs.Sources.{source_begins, source_goes_on, source_over, source_stops}
use Rattle.silage_parse.proofs.program.program.Goals as goal

pub tops-init : goal.tops-init
tops-init c =
    source_begins (map view_top c.new-tops.result) c.new-parser.ensures.tokens c.new-parser.ensures.at
    c.new-parser.ensures.counts (rw c.new-tops.ensures refl)

pub tops-preserved : goal.tops-preserved
tops-preserved c =
    let tops = map view_top c.tops.tops in
    rw (c.in_ok-push.ensures.ok, map-append view_top)
    (source_goes_on tops c.in_ok-top.field-0 c.tops.invariant (c.in_ok-top.ensures.read tops))

pub returns-in_err-top : goal.returns-in_err-top
returns-in_err-top c =
    let p = err_from_is_err_and c.from_residual.result c.from_residual.ensures.1 in
    rw (p.1, p.2)
    (source_stops (map view_top c.tops.tops) _ c.tops.invariant (c.in_err-top.ensures.read (map view_top c.tops.tops)))

pub returns : goal.returns
returns c = source_over (map view_top c.tops.tops) c.tops.invariant (omega arith)
