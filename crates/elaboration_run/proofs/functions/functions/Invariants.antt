use Rattle.std.proofs.Common.{◌≡◌, map, take, option_map}
use Rattle.std.specs.List.{All}
use Rattle.elaboration_run.specs.declared.function.Function.{Function}
use Rattle.elaboration_run.specs.Private.Functions.{IsTopLookedAt}
use Rattle.elaboration_run.proofs.functions.functions.Given as goal

abbrev pub invariant-loop-body : goal.invariant-loop-body
invariant-loop-body l =
    (map (option_map (λ (f : Function). f.body.now)) l.functions.items ≡ take l.body-index l.bodies)
    × All IsTopLookedAt l.functions.items
