use Rattle.std.proofs.Common.{◌==◌, ℕ, arith, sym, eq-eqb}
use Rattle.std.proofs.lemmas.List.Sums.{position_or_len_is}
use Rattle.place_file.proofs.line.index_of.Goals as goal

pub returns-then-text-at-clause-first : goal.returns-then-text-at-clause-first
returns-then-text-at-clause-first c =
    sym (position_or_len_is (λ (b : ℕ). b == c.args.byte) c.args.text.now c.loop-at.at 0
    (omega (arith, c.loop-at-test.true))
    c.loop-at.invariant (λ less. eq-eqb _ _ c.if-text-at.true))

pub returns-clause-first : goal.returns-clause-first
returns-clause-first c =
    sym (position_or_len_is (λ (b : ℕ). b == c.args.byte) c.args.text.now _ 0 (omega arith)
    (λ k less. c.loop-at.invariant k (omega (arith, less, c.loop-at-test.false)))
    (λ less. absurd (omega (arith, less))))
