use Rattle.std.proofs.Common.{sym}
use Rattle.silage_syntax.specs.Tree.{view_func}
use Rattle.fix_types.proofs.items.call.Goals as goal

pub called-requires-clause-params : goal.called-requires-clause-params
called-requires-clause-params c = λ k d at.
    let callee = view_func c.callee-position.result.1.now in
    c.args.scope.now.sound.callees c.args.func.now callee k d (sym c.callee-position.ensures.function) at
