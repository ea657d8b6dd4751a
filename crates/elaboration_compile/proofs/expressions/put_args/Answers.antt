use Rattle.elaboration_compile.specs.Private.Names.{HasReads}
use Rattle.elaboration_compile.specs.Private.Scopes.{program_of, function_of}
use Rattle.elaboration_compile.proofs.KnownNames.{expr_at}
use Rattle.elaboration_compile.proofs.expressions.put_args.Goals as goal

pub put_expr-requires : goal.put_expr-requires
put_expr-requires c = record {
  reads =
      expr_at (HasReads (program_of c.args.scope.now) (function_of c.args.scope.now) c.args.loops.now) c.args.args.now
      c.loop-arg.arg-index c.arg-item.result c.requires.reads c.loop-arg-test.true c.arg-item.is;
}
