use Rattle.std.proofs.Common.{arith, inl, ◌<◌, length}
use Rattle.plan_core.proofs.Readers.{reader_there}
use Rattle.cyclic_life.proofs.placement.Placement.reads.Goals as goal

pub returns : goal.returns
returns c =
    let nodes = c.args.self.now.assigned.now.lowered.nodes in
    record {
      each = c.loop-c.invariant.each;
      every = λ n q v reads.
          let there : n < length nodes = reader_there nodes n q v reads in
          c.loop-c.invariant.every n q v
          (inl (omega (arith, there, c.loop-c-test.false, c.len-c-end.ensures, c.loop-c.auto.c-end))) reads;
    }
