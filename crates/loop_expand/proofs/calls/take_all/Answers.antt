use Rattle.std.proofs.Common.{◌∙◌, arith}
use Rattle.silage_syntax.specs.Tree.{view_place}
use Rattle.loop_expand.specs.Private.Facts.{taken}
use Rattle.loop_expand.specs.Private.Scopes.{view_signal}
use Rattle.loop_expand.specs.Private.Views.{view_scope}
use Rattle.loop_expand.proofs.FactSteps.{zipped_more, zipped_end, item_at, zipped_as_many}
use Rattle.loop_expand.proofs.calls.take_all.Goals as goal

pub take-requires-clause-elements : goal.take-requires-clause-elements
take-requires-clause-elements c =
    zipped_as_many (taken (view_scope c.args.scope.now) c.args.env.now c.args.first) view_signal view_place
    c.args.results.now c.args.places.now c.loop-k.k c.loop-k.elems c.args.elems.now c.loop-k.invariant
    ∙ c.requires.elements

pub take-requires-clause-known : goal.take-requires-clause-known
take-requires-clause-known c =
    let k = c.loop-k.k in
    c.requires.known k (view_signal c.index-results-k.result) (view_place c.index-places-k.result)
    (item_at view_signal c.args.results.now k c.index-results-k.result (omega (arith, c.requires.count))
    c.index-results-k.is)
    (item_at view_place c.args.places.now k c.index-places-k.result (omega arith) c.index-places-k.is)

pub loop-k-preserved : goal.loop-k-preserved
loop-k-preserved c =
    zipped_more (taken (view_scope c.args.scope.now) c.args.env.now c.args.first) view_signal view_place
    c.args.results.now c.args.places.now c.loop-k.k c.index-results-k.result c.index-places-k.result c.loop-k.elems
    c.take.new.elems _
    (omega (arith, c.requires.count)) (omega arith) c.index-results-k.is c.index-places-k.is c.take.ensures
    c.loop-k.invariant

pub returns : goal.returns
returns c =
    zipped_end (taken (view_scope c.args.scope.now) c.args.env.now c.args.first) view_signal view_place
    c.args.results.now c.args.places.now c.loop-k.k c.loop-k.elems _ (omega arith) c.loop-k.invariant
