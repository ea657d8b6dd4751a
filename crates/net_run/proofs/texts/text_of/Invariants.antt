use Rattle.std.proofs.Common.{◌≡◌, List, take}
use Rattle.lists.specs.Rows.{Rows}
use Rattle.net_run.specs.Runs.{last_put}
use Rattle.net_solution.specs.Solutions.{IsNetSolution}
use Rattle.proc_net.specs.Nets.{parts_of}
use Rattle.sample_io.specs.Samples.{printed}
use Rattle.net_run.proofs.texts.text_of.Given as goal

-- the text is that of the rows so far
abbrev pub invariant-loop-n : goal.invariant-loop-n
invariant-loop-n l =
    (puts : List Rows)
    → IsNetSolution (parts_of l.net) puts
    → l.text ≡ printed (take l.n (last_put (parts_of l.net) puts))
