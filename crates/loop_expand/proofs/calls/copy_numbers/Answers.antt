use Rattle.std.proofs.Common.{◌+◌, ℕ, ℤ, arith, ap, ◌∙◌, rules, w64}
use mir.Val.{SFits}
use Rattle.std.proofs.lemmas.Int.{to_z-of_z}
use Rattle.signal_graph.specs.Flat as flat
use Rattle.loop_expand.specs.Private.Elements.{view_elems, with_fact}
use Rattle.loop_expand.specs.Private.Facts.{defines, word_at}
use Rattle.loop_expand.proofs.FactSteps.{next_fact, facts_as_many}
use Rattle.loop_expand.proofs.calls.copy_numbers.Goals as goal

pub loop-k-preserved : goal.loop-k-preserved
loop-k-preserved c =
    let fits : SFits w64 c.word_at.result = search rules in
    let step = simp (to_z-of_z, fits) at c.define.ensures in
    next_fact (λ (k : ℕ). defines (c.args.to + k) (flat.raw (word_at c.args.table.now k))) c.args.count c.loop-k.k
    (view_elems c.loop-k.elems) _ _ (omega arith)
    (step
    ∙ ap (λ (z : ℤ). with_fact (defines (c.args.to + c.loop-k.k) (flat.raw z)) (view_elems c.loop-k.elems))
    c.word_at.ensures) c.loop-k.invariant

pub define-requires : goal.define-requires
define-requires c =
    omega (
      arith,
      facts_as_many (λ (k : ℕ). defines (c.args.to + k) (flat.raw (word_at c.args.table.now k))) c.args.count
          c.loop-k.k c.loop-k.elems c.args.elems.now c.loop-k.invariant,
      c.requires.to,
    )
