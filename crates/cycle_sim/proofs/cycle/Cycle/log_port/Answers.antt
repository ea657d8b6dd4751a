use Rattle.std.proofs.Common.{◌∙◌, arith, ap, sym, subst}
use Rattle.cycle_sim.specs.Machine.{IsOperand}
use Rattle.cycle_sim.specs.Order.{is_into}
use Rattle.cycle_sim.specs.Microcode.{micro_of}
use Rattle.cycle_sim.specs.Private.Execution.{value_after}
use Rattle.cycle_sim.specs.Private.Order.{wrote_by}
use Rattle.cycle_sim.proofs.Logged.{room_left, logged_kept, logged_past}
use Rattle.cycle_sim.proofs.cycle.Cycle.log_port.Goals as goal
use Rattle.cycle_sim.proofs.cycle.Cycle.log_port.Goals.{then-is_into, else-is_into}

pub bounds-log-filled : goal.bounds-log-filled
bounds-log-filled c =
    room_left (is_into c.args.port.unit c.args.port.port)
    (wrote_by (micro_of c.args.self.now.code) c.args.self.now.number
    (value_after c.args.self.now c.args.storage.now c.args.row.now c.args.values.now))
    c.deref-take-items.result.now c.loop-take.take-index _ (omega arith) c.args.at _ c.args.log.now c.loop-take.log
    c.loop-take.filled
    (c.deref-take-items.ensures ∙ ap (λ word. word.takes) c.word_at-word.ensures
    ∙ ap (λ cycle. ((micro_of cycle.code).word_at cycle.number).takes) c.self.view_is)
    c.requires.room (sym c.if-is_into.ensures) c.loop-take.invariant

pub loop-take-preserved : goal.loop-take-preserved
loop-take-preserved c =
    elim c.if-is_into.branch [
      | then-is_into w ↦
          rw (w.log-is, w.filled-is, w.wrote_by.ensures.wrote)
          (logged_kept (is_into c.args.port.unit c.args.port.port)
          (wrote_by (micro_of c.args.self.now.code) c.args.self.now.number
          (value_after c.args.self.now c.args.storage.now c.args.row.now c.args.values.now))
          c.deref-take-items.result.now c.loop-take.take-index _ (omega arith) c.args.at c.args.log.now c.loop-take.log
          c.loop-take.filled (sym w.if-is_into.ensures)
          (room_left (is_into c.args.port.unit c.args.port.port)
          (wrote_by (micro_of c.args.self.now.code) c.args.self.now.number
          (value_after c.args.self.now c.args.storage.now c.args.row.now c.args.values.now))
          c.deref-take-items.result.now c.loop-take.take-index _ (omega arith) c.args.at _ c.args.log.now
          c.loop-take.log c.loop-take.filled
          (c.deref-take-items.ensures ∙ ap (λ word. word.takes) c.word_at-word.ensures
          ∙ ap (λ cycle. ((micro_of cycle.code).word_at cycle.number).takes) c.self.view_is)
          c.requires.room (sym w.if-is_into.ensures) c.loop-take.invariant)
          (subst (λ wrote. IsOperand wrote.value) w.wrote_by.ensures.wrote w.wrote_by.ensures.word)
          c.loop-take.invariant)
      | else-is_into w ↦
          rw (w.log-is, w.filled-is)
          (logged_past (is_into c.args.port.unit c.args.port.port)
          (wrote_by (micro_of c.args.self.now.code) c.args.self.now.number
          (value_after c.args.self.now c.args.storage.now c.args.row.now c.args.values.now))
          c.deref-take-items.result.now c.loop-take.take-index _ (omega arith) c.args.at c.args.log.now c.loop-take.log
          c.loop-take.filled (sym w.if-is_into.ensures) c.loop-take.invariant)
    ]
