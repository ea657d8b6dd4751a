use Rattle.std.proofs.Common.{◌+◌, ◌∙◌, ap, arith, ℕ}
use Rattle.plan_core.specs.Lowered.{address_node}
use Rattle.delay_memory.proofs.NodeSteps.{loads_step}
use Rattle.delay_memory.proofs.nodes.add_loads.Goals as goal

pub loop-delay-preserved : goal.loop-delay-preserved
loop-delay-preserved c =
    let at = c.loop-delay.invariant.at in
    let line = c.args.line.now in
    record {
      nodes = loads_step line c.args.width c.loop-delay.delay-index c.deref-delay-items.result.now c.args.nodes.now
          c.loop-delay.nodes c.push.new.self c.push-in-loop-delay.new.self c.address_node.result
          c.in_ok-load_node.field-0 c.loop-delay.at (omega arith) c.loop-delay.invariant.nodes at
          (c.address_node.ensures ∙ ap (λ (n : ℕ). address_node line.ram (line.offset + n)) c.from.ensures)
          c.in_ok-load_node.ensures c.in_ok-push.ensures.ok c.in_ok-push-2.ensures.ok;
      at = omega (arith, at);
    }
