use Rattle.std.proofs.Common.{◌≡◌, ◌++◌, map, drop}
use Rattle.silage_syntax.specs.Tree.{view_place}
use Rattle.elaboration_code.specs.ItemActions.{viewed, actions_of_takers}
use Rattle.elaboration_compile.specs.Private.Names.{TakeEach}
use Rattle.elaboration_compile.specs.Private.Scopes.{function_of}
use Rattle.elaboration_compile.proofs.places.put_takers.Given as goal

abbrev pub invariant-loop-i : goal.invariant-loop-i
invariant-loop-i l = record {
  take : TakeEach (function_of l.scope) l.loops (drop l.i l.results) (map view_place (drop l.i l.places));
  made : viewed l.actions
      ++ actions_of_takers (function_of l.scope) l.loops (drop l.i l.results) (map view_place (drop l.i l.places))
      ≡ viewed l.fn.actions ++ actions_of_takers (function_of l.scope) l.loops l.results (map view_place l.places);
}
