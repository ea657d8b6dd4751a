use Rattle.std.proofs.Common.{◌≡◌, ◌++◌, map, drop}
use Rattle.silage_syntax.specs.Tree.{view_expr}
use Rattle.elaboration_code.specs.ItemActions.{viewed, arg_checks}
use Rattle.elaboration_compile.specs.Private.Scopes.{program_of, function_of}
use Rattle.elaboration_compile.proofs.expressions.put_args.Given as goal

abbrev pub invariant-loop-arg : goal.invariant-loop-arg
invariant-loop-arg l =
    viewed l.actions
    ++ arg_checks (program_of l.scope) (function_of l.scope) l.loops (map view_expr (drop l.arg-index l.args))
    ≡ viewed l.fn.actions ++ arg_checks (program_of l.scope) (function_of l.scope) l.loops (map view_expr l.args)
