use Rattle.std.proofs.Common.{◌≡◌, map, take, option_map}
use Rattle.silage_syntax.specs.Tree.{view, view_top}
use Rattle.elaboration_code.specs.Bodies.{view_body}
use Rattle.elaboration_code.specs.ItemActions.{top_body}
use Rattle.elaboration_compile.proofs.functions.bodies.Given as goal

abbrev pub invariant-loop-top : goal.invariant-loop-top
invariant-loop-top l =
    map (option_map view_body) l.bodies.items
    ≡ map (λ t. top_body (view l.tops.program.now) (view_top t)) (take l.top-index l.tops.program.now.tops)
