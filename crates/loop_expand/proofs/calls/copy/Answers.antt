use Rattle.std.proofs.Common.{◌+◌, ℕ, arith, ap, ◌∙◌}
use Rattle.signal_graph.specs.Flat as flat
use Rattle.loop_expand.specs.Private.Elements.{view_elems, with_fact}
use Rattle.loop_expand.specs.Private.Facts.{defines}
use Rattle.loop_expand.proofs.FactSteps.{next_fact, facts_as_many}
use Rattle.loop_expand.proofs.calls.copy.Goals as goal

pub loop-k-preserved : goal.loop-k-preserved
loop-k-preserved c =
    next_fact (λ (k : ℕ). defines (c.args.to + k) (flat.read (c.args.from + k) 0)) c.args.count c.loop-k.k
    (view_elems c.loop-k.elems) _ _ (omega arith)
    (c.define.ensures
    ∙ ap (λ (y : flat.Expr). with_fact (defines (c.args.to + c.loop-k.k) y) (view_elems c.loop-k.elems))
    c.read_now.ensures) c.loop-k.invariant

pub define-requires : goal.define-requires
define-requires c =
    omega (
      arith,
      facts_as_many (λ (k : ℕ). defines (c.args.to + k) (flat.read (c.args.from + k) 0)) c.args.count c.loop-k.k
          c.loop-k.elems c.args.elems.now c.loop-k.invariant,
      c.requires.to,
    )
