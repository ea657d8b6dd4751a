use Rattle.std.proofs.Common.{◌∙◌, ◌++◌, List, map, sym, ap, append-nil, arith}
use Rattle.std.proofs.lemmas.Option.{slice_get-get_or}
use Rattle.fault_order.specs.Private.FirstMet.{first_in}
use Rattle.type_rules.specs.TypedTree.{TypedExpr, view_expr}
use Rattle.fix_types.specs.Private.Scopes.{program_of, function_of}
use Rattle.type_rules.specs.Private.Sound.{IsSound, HasTypedReads}
use Rattle.fix_types.proofs.ItemSteps.{expr_of_all, arguments_end}
use Rattle.fix_types.proofs.items.arguments.Goals as goal

pub typed-requires-clause-sound : goal.typed-requires-clause-sound
typed-requires-clause-sound c =
    expr_of_all IsSound c.args.args.now c.loop-i.i c.index-args-i.result c.requires.args
    (omega (arith, c.shorter-i-end.ensures)) c.index-args-i.is

pub typed-requires-clause-reads : goal.typed-requires-clause-reads
typed-requires-clause-reads c =
    expr_of_all (HasTypedReads (program_of c.args.scope.now) (function_of c.args.scope.now)) c.args.args.now c.loop-i.i
    c.index-args-i.result c.requires.reads (omega (arith, c.shorter-i-end.ensures)) c.index-args-i.is

pub typed-requires-clause-wanted : goal.typed-requires-clause-wanted
typed-requires-clause-wanted c =
    c.requires.params c.loop-i.i _
    (slice_get-get_or c.args.params.now c.loop-i.i c.index-params-i.result (omega (arith, c.shorter-i-end.ensures)))

pub returns : goal.returns
returns c =
    let p = program_of c.args.scope.now in
    let f = function_of c.args.scope.now in
    let e = arguments_end p f c.args.params.now c.args.args.now c.loop-i.i (omega (arith, c.shorter-i-end.ensures)) in (
      sym c.loop-i.invariant.met ∙ ap (λ row. first_in row) e.0,
      sym (append-nil (map view_expr c.loop-i.all.items))
          ∙ ap (λ (xs : List TypedExpr). map view_expr c.loop-i.all.items ++ xs) (sym e.1) ∙ c.loop-i.invariant.typed,
    )
