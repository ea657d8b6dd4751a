use Rattle.std.proofs.Common.{arith, ap, sym, subst, ◌≡◌, ◌∙◌, ◌+◌, ◌≤◌, ◌∷◌, [], ◌++◌, ℕ, length, length-append, List}
use Rattle.std.specs.Prelude.{slice_index_or}
use Rattle.equation_eval.specs.Private.Rings.{AreRings}
use Rattle.equation_eval.specs.declared.memory.Ring.{Ring}
use Rattle.equation_eval.proofs.Layouts.{ring_more}
use Rattle.equation_eval.proofs.layout.rings_of.Goals as goal

pub loop-delay-preserved : goal.loop-delay-preserved
loop-delay-preserved c =
    let ring : Ring = record { base = c.loop-delay.base; mask = c.above-mask.result } in
    let size : c.get.result ≡ c.above-mask.result = c.get.ensures.value in
    let above : slice_index_or c.deref-delay-items.result.now c.loop-delay.delay-index 0 ≤ c.above-mask.result =
    subst (λ (k : ℕ). k ≤ c.above-mask.result) c.from.ensures c.above-mask.ensures.covers in
    let covers : slice_index_or c.args.longest.now (length c.loop-delay.rings) 0 ≤ c.above-mask.result =
    subst (λ (i : ℕ). slice_index_or c.args.longest.now i 0 ≤ c.above-mask.result) (sym c.loop-delay.invariant.count)
    (subst (λ (xs : List ℕ). slice_index_or xs c.loop-delay.delay-index 0 ≤ c.above-mask.result)
    c.deref-delay-items.ensures above) in
    record {
      count = ap length c.in_ok-push.ensures.ok ∙ length-append c.loop-delay.rings (ring ∷ [])
          ∙ omega (arith, c.loop-delay.invariant.count);
      most = omega (arith, c.loop-delay.invariant.most, size, c.get.ensures.most, c.get.ensures.value);
      are_rings = subst (λ (rings : List Ring). AreRings c.args.longest.now rings
          (c.loop-delay.base + c.get.result + 1)) (sym c.in_ok-push.ensures.ok)
          (subst (λ (m : ℕ). AreRings c.args.longest.now (c.loop-delay.rings ++ ring ∷ [])
          (c.loop-delay.base + m + 1)) (sym size)
          (ring_more c.args.longest.now c.loop-delay.rings c.loop-delay.base c.above-mask.result
          c.loop-delay.invariant.are_rings c.above-mask.ensures.size covers));
    }
