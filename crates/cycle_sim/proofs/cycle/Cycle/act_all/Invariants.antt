use Rattle.std.proofs.Common.{◌≡◌, ◌≤◌, ◌*◌, length, take}
use Rattle.cycle_sim.specs.Private.Order.{HaveIssued, IsActionLogged}
use Rattle.cycle_sim.proofs.cycle.Cycle.act_all.Given as goal

abbrev pub invariant-loop-place : goal.invariant-loop-place
invariant-loop-place l = record {
  issued : HaveIssued l.self l.storage l.row (take l.place l.order) l.fn.in_flight l.in_flight;
  logged : IsActionLogged l.self l.storage l.row (take l.place l.order) l.fn.in_flight 0 l.fn.log l.filled l.log;
  few : l.filled ≤ 4 * l.place;
  size : length l.log ≡ length l.fn.log;
}
