use Rattle.std.proofs.Common.{◌∙◌, arith}
use Rattle.type_rules.specs.TypedTree as typed
use Rattle.loop_expand.specs.Private.Facts.{passed}
use Rattle.loop_expand.specs.Private.Scopes.{view_signal}
use Rattle.loop_expand.specs.Private.Views.{view_scope}
use Rattle.loop_expand.proofs.FactSteps.{zipped_more, zipped_end, item_at, zipped_as_many}
use Rattle.loop_expand.proofs.calls.pass_all.Goals as goal

pub pass-requires-clause-elements : goal.pass-requires-clause-elements
pass-requires-clause-elements c =
    zipped_as_many (passed (view_scope c.args.scope.now) c.args.env.now c.args.first) view_signal typed.view_expr
    c.args.params.now c.args.args.now c.loop-k.k c.loop-k.elems c.args.elems.now c.loop-k.invariant
    ∙ c.requires.elements

pub pass-requires-clause-known : goal.pass-requires-clause-known
pass-requires-clause-known c =
    let k = c.loop-k.k in
    c.requires.known k (view_signal c.index-params-k.result) (typed.view_expr c.index-args-k.result)
    (item_at view_signal c.args.params.now k c.index-params-k.result (omega (arith, c.requires.count))
    c.index-params-k.is)
    (item_at typed.view_expr c.args.args.now k c.index-args-k.result (omega arith) c.index-args-k.is)

pub loop-k-preserved : goal.loop-k-preserved
loop-k-preserved c =
    zipped_more (passed (view_scope c.args.scope.now) c.args.env.now c.args.first) view_signal typed.view_expr
    c.args.params.now c.args.args.now c.loop-k.k c.index-params-k.result c.index-args-k.result c.loop-k.elems
    c.pass.new.elems _
    (omega (arith, c.requires.count)) (omega arith) c.index-params-k.is c.index-args-k.is c.in_ok-pass.ensures
    c.loop-k.invariant

pub returns : goal.returns
returns c =
    zipped_end (passed (view_scope c.args.scope.now) c.args.env.now c.args.first) view_signal typed.view_expr
    c.args.params.now c.args.args.now c.loop-k.k c.loop-k.elems _ (omega arith) c.loop-k.invariant
