use Rattle.std.proofs.Common.{◌≡◌, ◌∙◌, ◌+◌, ◌-◌, ◌≤◌, ◌<◌, ℕ, arith, ap, sym, subst, length, List}
use Rattle.std.specs.Prelude.{ℤ, slice_index_or, drop}
use Rattle.equation_eval.specs.Private.Rings.{HoldsWordsBefore, held}
use Rattle.equation_eval.proofs.Layouts.{words_from, with_length, with_others}
use Rattle.equation_eval.proofs.layout.put_initials.Goals as goal

pub loop-k-preserved : goal.loop-k-preserved
loop-k-preserved c =
    let inits = c.args.inits.now in
    let x = c.index.result.now in
    let k : c.loop-k.k < length inits = omega (arith, c.loop-k-test.true, c.len-k-end.ensures) in
    let i = length inits - (c.loop-k.k + 1) in
    let room : c.args.ring.now.base + c.args.ring.now.mask + 1 ≤ length c.loop-k.memory =
    omega (arith, c.requires.ring, c.loop-k.invariant.len) in
    let at : c.len.result - 1 - c.loop-k.k ≡ i = omega (arith, c.len.ensures) in
    let read : x ≡ slice_index_or inits i x = c.index.ensures ∙ ap (λ (j : ℕ). slice_index_or inits j x) at in
    let some = (c.requires.samples i x (omega arith)).0 in
    let ago : 1 ≤ x.0 = subst (λ (y : ℕ × ℤ). 1 ≤ y.0) (sym read) some in
    record {
      len = ap length c.put_initial.ensures ∙ with_length c.args.ring.now c.loop-k.memory room x.0 x.1
          ∙ c.loop-k.invariant.len;
      initials = subst (λ (m : List ℤ). HoldsWordsBefore (drop i inits) c.args.ring.now m) (sym c.put_initial.ensures)
          (words_from inits (length inits - c.loop-k.k) i x c.args.ring.now c.loop-k.memory (omega arith)
          (omega arith) (omega arith) read room c.loop-k.invariant.initials);
      others = λ cell out. ap (λ (m : List ℤ). held m cell) c.put_initial.ensures
          ∙ with_others c.args.ring.now c.loop-k.memory room x.0 x.1 ago cell out ∙ c.loop-k.invariant.others cell out;
    }
