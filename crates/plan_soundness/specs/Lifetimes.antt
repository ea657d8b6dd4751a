-- What the register of a lifetime needs of it.
use Rattle.std.specs.Prelude.{◌≡◌, ℕ, ◌+◌, ◌*◌, ◌%◌, ◌<◌, ◌≤◌}
use Rattle.plan_core.specs.declared.registers.Arc.{Arc}

-- a lifetime on the circle of `unroll` samples
pub record IsLifetime (period unroll : ℕ) (arc : Arc) : Type 0 where
  pub some : 0 < arc.copies
  pub turns : unroll % arc.copies ≡ 0
  pub written : arc.w < period
  pub lives : arc.w < arc.r
  pub covered : arc.r ≤ arc.w + arc.copies * period
