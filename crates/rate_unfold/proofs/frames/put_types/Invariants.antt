use Rattle.std.proofs.Common.{◌≡◌, ◌++◌, ℕ, map}
use Rattle.std.specs.List.{range_with_len}
use Rattle.rate_unfold.proofs.frames.put_types.Given as goal

abbrev pub invariant-loop-phase : goal.invariant-loop-phase
invariant-loop-phase l = l.row ≡ l.fn.row ++ map (λ (j : ℕ). l.ty) (range_with_len 0 l._phase)
