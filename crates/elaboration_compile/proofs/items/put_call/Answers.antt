use Rattle.silage_syntax.specs.Tree.{Func, view_place}
use Rattle.std.proofs.Common.{map}
use Rattle.silage_syntax.specs.Names.{function_named}
use Rattle.elaboration_compile.specs.Private.Names.{TakeAll}
use Rattle.elaboration_compile.specs.Private.Scopes.{program_of, function_of}
use Rattle.elaboration_compile.proofs.KnownNames.{some_there}
use Rattle.elaboration_compile.proofs.items.put_call.Goals as goal

pub callee-position-requires : goal.callee-position-requires
callee-position-requires c =
    some_there
    (λ (g : Func). TakeAll (function_of c.args.scope.now) c.args.loops.now g.results (map view_place c.args.places.now))
    (function_named (program_of c.args.scope.now) c.args.func.now) c.requires.callee
