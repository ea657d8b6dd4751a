use Rattle.std.proofs.Common.{◌≡◌, ◌∙◌, ◌+◌, ◌-◌, ◌≤◌, ◌++◌, ap, subst, ℕ, List, replicate, OnOk, arith}
use Rattle.micro_bits.proofs.Encoded.{more_zeros}
use Rattle.micro_bits.proofs.encoder.put_zeros.Goals as goal

pub loop-left-preserved : goal.loop-left-preserved
loop-left-preserved c =
    let count : ℕ = c.args.count in
    let left : ℕ = c.loop-left.left in
    let some : left - 57 ≤ count = omega arith in
    let done : count - left + 57 ≡ count - (left - 57) = omega arith in (
      some,
      c.in_ok-put.ensures ∙ more_zeros c.args.out.now c.loop-left.out (count - left) 57 c.loop-left.invariant.1
          ∙ ap (λ (k : ℕ). c.args.out.now ++ replicate k 0) done,
    )

pub returns : goal.returns
returns c =
    let count : ℕ = c.args.count in
    let left : ℕ = c.loop-left.left in
    let done : count - left + left ≡ count = omega arith in
    subst (λ (new : List ℕ). OnOk c.put-2.result (c.put-2.new.self ≡ new))
    (more_zeros c.args.out.now c.loop-left.out (count - left) left c.loop-left.invariant.1
    ∙ ap (λ (k : ℕ). c.args.out.now ++ replicate k 0) done)
    c.put-2.ensures
