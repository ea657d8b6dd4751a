-- A table of rules over numbers that follow one another, from one to the next.
use Rattle.std.proofs.Common.{◌≡◌, ◌<◌, ◌+◌, ◌-◌, ◌∙◌, arith, ℕ, suc, Ok, sym, ap}
use Rattle.std.specs.List.{range_with_len}
use Rattle.fault_order.specs.Rules.{Rules, each}
use Rattle.fault_order.specs.Private.FirstMet.{first, first_in, ◌>>◌}

module _ {F : Type 0} (G : ℕ → Rules F) (i n : ℕ) (within : i < n) where
  next : first_in (each G (range_with_len i (n - i)))
      ≡ first (G i) >> first_in (each G (range_with_len (i + 1) (n - (i + 1))))
  next = ap (λ k. first_in (each G (range_with_len i k))) (let e : n - i ≡ suc (n - (i + 1)) = omega arith in e)

  -- where a number keeps its rules, those behind it answer
  pub number_passes : first (G i) ≡ Ok tt
      → first_in (each G (range_with_len (i + 1) (n - (i + 1)))) ≡ first_in (each G (range_with_len i (n - i)))
  number_passes kept =
      sym (next ∙ ap (λ r. r >> first_in (each G (range_with_len (i + 1) (n - (i + 1))))) kept)
