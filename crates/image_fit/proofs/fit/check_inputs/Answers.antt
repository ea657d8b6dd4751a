use Rattle.std.proofs.Common.{arith, subst, ℕ, ◌≤◌}
use Rattle.std.specs.List.{All}
use Rattle.std.proofs.lemmas.List.{take_all}
use Rattle.std.proofs.lemmas.List.Elements.{All-more}
use Rattle.image_fit.proofs.fit.check_inputs.Goals as goal

pub loop-input-preserved : goal.loop-input-preserved
loop-input-preserved c =
    All-more (λ (width : ℕ). width ≤ c.args.bits) c.args.inputs.now c.loop-input.input 0 (omega arith)
    c.loop-input.invariant
    (omega (arith, c.if-width-bits.false))

pub returns : goal.returns
returns c =
    subst (All (λ (width : ℕ). width ≤ c.args.bits)) (take_all c.loop-input.input c.args.inputs.now (omega arith))
    c.loop-input.invariant
