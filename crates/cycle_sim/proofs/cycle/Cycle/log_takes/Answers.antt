use Rattle.std.proofs.Common.{◌≡◌, ◌∙◌, arith, ap, subst, length}
use Rattle.std.specs.List.{flat_map, range_with_len}
use Rattle.std.proofs.lemmas.List.{get_or_default}
use Rattle.micro_image.specs.Fields.{unit_of, no_unit}
use Rattle.cycle_sim.specs.Private.Execution.{IsCycle, value_after}
use Rattle.cycle_sim.specs.Private.Order.{IsLogged, wrote_into}
use Rattle.cycle_sim.specs.Microcode.{micro_of}
use Rattle.cycle_sim.proofs.Actions.{one_take, one_write}
use Rattle.cycle_sim.proofs.Logged.{logged_number}
use Rattle.cycle_sim.proofs.ValidImage.{port_count}
use Rattle.cycle_sim.proofs.cycle.Cycle.log_takes.Goals as goal

pub log_port-filled-requires-clause-room : goal.log_port-filled-requires-clause-room
log_port-filled-requires-clause-room c =
    let is = subst IsCycle c.self.view_is c.self.invariant.0 in
    let files : c.len-port-end.result ≡ length (unit_of (micro_of c.args.self.now.code) c.args.unit).files =
    c.len-port-end.ensures
    ∙ ap (λ unit. length unit.files)
    (c.index.ensures
    ∙ get_or_default c.self.inside.code.now.image.units c.args.unit c.index.result.now no_unit
    (omega (arith, c.requires.unit, ap (λ cycle. length cycle.code.image.units) c.self.view_is)))
    ∙ ap (λ cycle. length (unit_of (micro_of cycle.code) c.args.unit).files) c.self.view_is in
    omega (
      arith,
      one_take c.args.self.now is c.requires.once c.args.unit c.loop-port.port,
      c.loop-port.invariant.1,
      c.loop-port.invariant.0.size,
      c.loop-port-test.true,
      files,
      port_count c.args.self.now.code is.valid c.args.unit c.requires.unit,
      c.requires.room,
    )

pub loop-port-preserved : goal.loop-port-preserved
loop-port-preserved c =
    let is = subst IsCycle c.self.view_is c.self.invariant.0 in (
      logged_number
          (wrote_into (micro_of c.args.self.now.code) c.args.self.now.number
          (value_after c.args.self.now c.args.storage.now c.args.row.now c.args.values.now) c.args.unit)
          c.loop-port.port
          c.args.at c.args.log.now c.loop-port.log c.log_port-filled.new.log c.loop-port.filled c.log_port-filled.result
          c.loop-port.invariant.0 c.log_port-filled.ensures,
      omega (
        arith,
        c.loop-port.invariant.1,
        c.log_port-filled.ensures.count,
        one_write c.args.self.now is c.requires.once
            (value_after c.args.self.now c.args.storage.now c.args.row.now c.args.values.now) c.args.unit
            c.loop-port.port,
      ),
    )

pub returns-clause-log : goal.returns-clause-log
returns-clause-log c =
    let files : c.len-port-end.result ≡ length (unit_of (micro_of c.args.self.now.code) c.args.unit).files =
    c.len-port-end.ensures
    ∙ ap (λ unit. length unit.files)
    (c.index.ensures
    ∙ get_or_default c.self.inside.code.now.image.units c.args.unit c.index.result.now no_unit
    (omega (arith, c.requires.unit, ap (λ cycle. length cycle.code.image.units) c.self.view_is)))
    ∙ ap (λ cycle. length (unit_of (micro_of cycle.code) c.args.unit).files) c.self.view_is in
    let done : c.loop-port.port ≡ length (unit_of (micro_of c.args.self.now.code) c.args.unit).files =
    omega (arith, files, c.loop-port-test.false, c.loop-port.auto.port-end) in
    subst (λ n.
    IsLogged c.args.at
    (flat_map
    (wrote_into (micro_of c.args.self.now.code) c.args.self.now.number
    (value_after c.args.self.now c.args.storage.now c.args.row.now c.args.values.now) c.args.unit)
    (range_with_len 0 n)) c.args.log.now c.loop-port.filled c.loop-port.log)
    done c.loop-port.invariant.0
