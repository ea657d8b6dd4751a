use Rattle.std.proofs.Common.{ℕ, arith, below_more, IsTrue}
use Rattle.image_labels.specs.Private.Checked.{PutsAt}
use Rattle.image_labels.proofs.rows.puts_in.Goals as goal

pub loop-unit-preserved : goal.loop-unit-preserved
loop-unit-preserved c =
    below_more (λ (u : ℕ). PutsAt c.args.image.now c.args.cycle u c.args.output → ⊥) c.loop-unit.unit
    c.loop-unit.invariant
    (λ puts. let is : IsTrue c.puts_at.result = c.puts_at.ensures.1 puts in grind (arith, is, c.if-puts_at.false))

pub returns : goal.returns
returns c = (
  λ is. absurd (cc is),
  λ puts. absurd (c.loop-unit.invariant puts.0
      (omega (arith, puts.1.0, c.requires.valid.unit_count.1, c.loop-unit-test.false)) puts.1),
)
