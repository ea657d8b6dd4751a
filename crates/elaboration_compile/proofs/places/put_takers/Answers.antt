use Rattle.std.proofs.Common.{◌++◌, arith, ◌∙◌, sym, ap, append-nil}
use Rattle.elaboration_code.specs.ItemActions.{viewed}
use Rattle.elaboration_compile.specs.Private.Scopes.{function_of}
use Rattle.elaboration_compile.proofs.Takers.{takers_end}
use Rattle.elaboration_compile.proofs.places.put_takers.Goals as goal

pub returns : goal.returns
returns c =
    let none =
    takers_end (function_of c.args.scope.now) c.args.loops.now c.args.results.now c.args.places.now c.loop-i.i
    (omega arith) in
    sym (append-nil (viewed c.loop-i.actions)) ∙ sym (ap (λ xs. viewed c.loop-i.actions ++ xs) none)
    ∙ c.loop-i.invariant.made
