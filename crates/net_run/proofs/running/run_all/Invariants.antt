use Rattle.std.proofs.Common.{◌≡◌, ◌-◌}
use Rattle.net_turns.specs.Progress.{cycles_run, enough_rounds}
use Rattle.proc_net.specs.Nets.{parts_of, shape_in, points_of}
use Rattle.net_run.proofs.running.run_all.Given as goal

-- it is made of the same parts
abbrev pub invariant-rounds : goal.invariant-rounds
invariant-rounds l = parts_of l.net ≡ parts_of l.fn.net

-- the cycles that are left
abbrev pub decreases-rounds : goal.decreases-rounds
decreases-rounds l = enough_rounds (shape_in l.net) - cycles_run (shape_in l.net) (points_of l.net)
