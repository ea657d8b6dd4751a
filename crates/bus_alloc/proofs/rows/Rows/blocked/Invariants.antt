use Rattle.std.proofs.Common.{◌≡◌, ℕ, ◌<◌, ◌↔◌, take}
use Rattle.std.specs.Int.{bit_at}
use Rattle.bus_alloc.specs.Private.Rows.{IsOpenIn}
use Rattle.bus_alloc.proofs.rows.Rows.blocked.Given as goal

abbrev pub invariant-loop-port : goal.invariant-loop-port
invariant-loop-port l =
    (i : ℕ) → i < 64 → (bit_at l.blocked i ≡ 0) ↔ IsOpenIn l.fn.self l.unit (take l.port-index l.fn.dests) l.index i
