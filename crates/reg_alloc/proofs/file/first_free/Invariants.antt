use Rattle.std.proofs.Common.{ℕ, ◌<◌}
use Rattle.reg_alloc.specs.Private.Files.{register_in}
use Rattle.reg_alloc.specs.Private.Occupancies.{IsFree}
use Rattle.reg_alloc.proofs.file.first_free.Given as goal

abbrev pub invariant-loop-number : goal.invariant-loop-number
invariant-loop-number l =
    (p : ℕ) → p < l.number → IsFree l.circle.period l.circle.samples (register_in l.registers p) l.other → ⊥
