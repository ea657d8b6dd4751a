-- Lifetimes on the circle of cycles: the microprogram repeats after `unroll` samples, so a lifetime that is longer than
-- the cycles that are left goes on at the start.
use Rattle.std.specs.Prelude.{◌≡◌, ℕ, ◌+◌, ◌*◌, ◌%◌, ◌<◌, ◌≤◌}
use Rattle.plan_core.specs.declared.registers.Arc.{Arc}

-- copy i of the arc, which has the words of each sample n with n mod copies = i, occupies cycle x of the circle
pub record Occupies (period unroll : ℕ) (arc : Arc) (i x : ℕ) : Type 0 where
  pub sample : ℕ
  pub cycle : ℕ
  pub sample_in : sample < unroll
  pub in_turn : sample % arc.copies ≡ i
  pub after : arc.w + sample * period < cycle
  pub upto : cycle ≤ arc.r + sample * period
  pub place : x ≡ cycle % (unroll * period)

-- the two copies share no cycle of the circle
pub record AreApart (period unroll : ℕ) (a : Arc) (i : ℕ) (b : Arc) (j : ℕ) : Type 0 where
  pub none : (x : ℕ) → Occupies period unroll a i x → Occupies period unroll b j x → ⊥
