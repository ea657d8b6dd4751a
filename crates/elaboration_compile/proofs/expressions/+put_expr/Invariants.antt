use Rattle.std.proofs.Common.{◌≡◌, ◌++◌, drop}
use Rattle.silage_syntax.specs.Tree.{view_arms}
use Rattle.elaboration_code.specs.ItemActions.{viewed, branch_checks}
use Rattle.elaboration_compile.specs.Private.Names.{HaveReads}
use Rattle.elaboration_compile.specs.Private.Scopes.{program_of, function_of}
use Rattle.elaboration_compile.proofs.expressions.+put_expr.Given as goal

abbrev pub invariant-loop-arm : goal.invariant-loop-arm
invariant-loop-arm l = record {
  reads : HaveReads (program_of l.scope) (function_of l.scope) l.loops (view_arms (drop l.arm-index l.arms));
  made : viewed l.actions
      ++ branch_checks (program_of l.scope) (function_of l.scope) l.loops (view_arms (drop l.arm-index l.arms))
      ≡ viewed l.fn.actions ++ branch_checks (program_of l.scope) (function_of l.scope) l.loops (view_arms l.arms);
}
