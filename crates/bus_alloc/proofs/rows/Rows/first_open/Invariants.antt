use Rattle.std.proofs.Common.{◌≤◌, ◌<◌, ◌*◌, ℕ}
use Rattle.bus_alloc.specs.Private.Rows.{IsOpen}
use Rattle.bus_alloc.proofs.rows.Rows.first_open.Given as goal

abbrev pub invariant-loop-index : goal.invariant-loop-index
invariant-loop-index l = (c : ℕ) → l.fn.from ≤ c → c < 64 * l.index → IsOpen l.fn.self l.unit l.fn.dests c → ⊥
