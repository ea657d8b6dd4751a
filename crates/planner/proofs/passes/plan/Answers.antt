use Rattle.std.proofs.Common.{◌∙◌, arith}
use Rattle.plan_soundness.proofs.Units.{on_right_units}
use Rattle.planner.proofs.Asked.{wired, schedulable, held, allottable}
use Rattle.planner.proofs.Answers.{bound}
use Rattle.planner.proofs.Exits.{unrolled, at_lines, at_units, at_cycles, at_registers, at_end}
use Rattle.planner.proofs.passes.plan.Goals as goal

pub bind-requires-clause-wired : goal.bind-requires-clause-wired
bind-requires-clause-wired c =
    wired c.args.graph c.args.datapath.now c.requires.sound c.in_ok-lowered.lowered c.in_ok-lowered.ensures.lowered

pub schedule-requires-clause-schedulable : goal.schedule-requires-clause-schedulable
schedule-requires-clause-schedulable c =
    schedulable c.args.graph c.args.datapath.now c.requires.sound (bound c.in_ok-lowered.lowered c.in_ok-units.units)
    c.in_ok-lowered.ensures.lowered c.requires.loopless (on_right_units c.in_ok-units.ensures.units)

pub arcs-requires-clause-held : goal.arcs-requires-clause-held
arcs-requires-clause-held c =
    held c.args.graph c.args.datapath.now c.requires.sound (bound c.in_ok-lowered.lowered c.in_ok-units.units)
    c.in_ok-lowered.ensures.lowered (omega (arith, c.requires.datapath.hold))
    (on_right_units c.in_ok-units.ensures.units)

pub arcs-requires-clause-schedule : goal.arcs-requires-clause-schedule
arcs-requires-clause-schedule c =
    let schedule = c.in_ok-schedule.ensures.schedule in
    record { count = schedule.count; ends = λ v there. (schedule.placed v there).can.fits.period }

pub allot-requires-clause-allottable : goal.allot-requires-clause-allottable
allot-requires-clause-allottable c =
    allottable c.args.graph c.args.datapath.now c.requires.sound (bound c.in_ok-lowered.lowered c.in_ok-units.units)
    c.in_ok-lowered.ensures.lowered c.requires.datapath (on_right_units c.in_ok-units.ensures.units)
    c.in_ok-schedule.schedule c.in_ok-schedule.ensures.schedule c.in_ok-arcs.arcs c.in_ok-arcs.ensures

pub returns-in_err-lowered-clause-fault : goal.returns-in_err-lowered-clause-fault
returns-in_err-lowered-clause-fault c =
    (at_lines c.args.graph c.args.datapath.now c.from_residual-in_err-lowered.result c.in_err-lowered.field-0.0
    c.from_residual-in_err-lowered.ensures.1 c.in_err-lowered.ensures.fault c.in_err-lowered.ensures.found
    c.in_err-lowered.ensures.refused).fault

pub returns-in_err-lowered-clause-found : goal.returns-in_err-lowered-clause-found
returns-in_err-lowered-clause-found c =
    (at_lines c.args.graph c.args.datapath.now c.from_residual-in_err-lowered.result c.in_err-lowered.field-0.0
    c.from_residual-in_err-lowered.ensures.1 c.in_err-lowered.ensures.fault c.in_err-lowered.ensures.found
    c.in_err-lowered.ensures.refused).found

pub returns-in_err-lowered-clause-refused : goal.returns-in_err-lowered-clause-refused
returns-in_err-lowered-clause-refused c =
    (at_lines c.args.graph c.args.datapath.now c.from_residual-in_err-lowered.result c.in_err-lowered.field-0.0
    c.from_residual-in_err-lowered.ensures.1 c.in_err-lowered.ensures.fault c.in_err-lowered.ensures.found
    c.in_err-lowered.ensures.refused).refused

pub returns-in_err-units-clause-fault : goal.returns-in_err-units-clause-fault
returns-in_err-units-clause-fault c =
    (at_units c.args.graph c.args.datapath.now c.in_ok-lowered.lowered c.in_ok-lowered.ensures.lowered
    c.in_ok-lowered.ensures.found c.in_ok-lowered.ensures.refused c.from_residual-in_err-units.result
    c.in_err-units.field-0.0 c.from_residual-in_err-units.ensures.1 c.in_err-units.ensures.fault
    c.in_err-units.ensures.found c.in_err-units.ensures.refused).fault

pub returns-in_err-units-clause-found : goal.returns-in_err-units-clause-found
returns-in_err-units-clause-found c =
    (at_units c.args.graph c.args.datapath.now c.in_ok-lowered.lowered c.in_ok-lowered.ensures.lowered
    c.in_ok-lowered.ensures.found c.in_ok-lowered.ensures.refused c.from_residual-in_err-units.result
    c.in_err-units.field-0.0 c.from_residual-in_err-units.ensures.1 c.in_err-units.ensures.fault
    c.in_err-units.ensures.found c.in_err-units.ensures.refused).found

pub returns-in_err-units-clause-refused : goal.returns-in_err-units-clause-refused
returns-in_err-units-clause-refused c =
    (at_units c.args.graph c.args.datapath.now c.in_ok-lowered.lowered c.in_ok-lowered.ensures.lowered
    c.in_ok-lowered.ensures.found c.in_ok-lowered.ensures.refused c.from_residual-in_err-units.result
    c.in_err-units.field-0.0 c.from_residual-in_err-units.ensures.1 c.in_err-units.ensures.fault
    c.in_err-units.ensures.found c.in_err-units.ensures.refused).refused

pub returns-in_err-schedule-clause-fault : goal.returns-in_err-schedule-clause-fault
returns-in_err-schedule-clause-fault c =
    (at_cycles c.args.graph c.args.datapath.now c.in_ok-lowered.lowered c.in_ok-lowered.ensures.lowered
    c.in_ok-lowered.ensures.found c.in_ok-lowered.ensures.refused c.in_ok-units.units c.in_ok-units.ensures.units
    c.in_ok-units.ensures.found c.in_ok-units.ensures.refused c.from_residual-in_err-schedule.result
    c.in_err-schedule.field-0.0 c.from_residual-in_err-schedule.ensures.1 c.in_err-schedule.ensures.fault
    c.in_err-schedule.ensures.found c.in_err-schedule.ensures.refused).fault

pub returns-in_err-schedule-clause-found : goal.returns-in_err-schedule-clause-found
returns-in_err-schedule-clause-found c =
    (at_cycles c.args.graph c.args.datapath.now c.in_ok-lowered.lowered c.in_ok-lowered.ensures.lowered
    c.in_ok-lowered.ensures.found c.in_ok-lowered.ensures.refused c.in_ok-units.units c.in_ok-units.ensures.units
    c.in_ok-units.ensures.found c.in_ok-units.ensures.refused c.from_residual-in_err-schedule.result
    c.in_err-schedule.field-0.0 c.from_residual-in_err-schedule.ensures.1 c.in_err-schedule.ensures.fault
    c.in_err-schedule.ensures.found c.in_err-schedule.ensures.refused).found

pub returns-in_err-schedule-clause-refused : goal.returns-in_err-schedule-clause-refused
returns-in_err-schedule-clause-refused c =
    (at_cycles c.args.graph c.args.datapath.now c.in_ok-lowered.lowered c.in_ok-lowered.ensures.lowered
    c.in_ok-lowered.ensures.found c.in_ok-lowered.ensures.refused c.in_ok-units.units c.in_ok-units.ensures.units
    c.in_ok-units.ensures.found c.in_ok-units.ensures.refused c.from_residual-in_err-schedule.result
    c.in_err-schedule.field-0.0 c.from_residual-in_err-schedule.ensures.1 c.in_err-schedule.ensures.fault
    c.in_err-schedule.ensures.found c.in_err-schedule.ensures.refused).refused

pub returns-in_err-registers-clause-fault : goal.returns-in_err-registers-clause-fault
returns-in_err-registers-clause-fault c =
    (at_registers c.args.graph c.args.datapath.now c.in_ok-lowered.lowered c.in_ok-lowered.ensures.lowered
    c.in_ok-lowered.ensures.found c.in_ok-lowered.ensures.refused c.in_ok-units.units c.in_ok-units.ensures.units
    c.in_ok-units.ensures.found c.in_ok-units.ensures.refused c.in_ok-schedule.schedule
    c.in_ok-schedule.ensures.schedule c.in_ok-schedule.ensures.found c.in_ok-schedule.ensures.refused
    c.in_ok-arcs.arcs c.in_ok-arcs.ensures c.unroll-unroll.result
    (unrolled c.as_slice-2.result.now c.in_ok-arcs.arcs c.unroll-unroll.result c.as_slice-2.ensures
    c.unroll-unroll.ensures)
    c.from_residual-in_err-registers.result c.in_err-registers.field-0.0
    c.from_residual-in_err-registers.ensures.1 c.in_err-registers.ensures.fault c.in_err-registers.ensures.found
    c.in_err-registers.ensures.refused).fault

pub returns-in_err-registers-clause-found : goal.returns-in_err-registers-clause-found
returns-in_err-registers-clause-found c =
    (at_registers c.args.graph c.args.datapath.now c.in_ok-lowered.lowered c.in_ok-lowered.ensures.lowered
    c.in_ok-lowered.ensures.found c.in_ok-lowered.ensures.refused c.in_ok-units.units c.in_ok-units.ensures.units
    c.in_ok-units.ensures.found c.in_ok-units.ensures.refused c.in_ok-schedule.schedule
    c.in_ok-schedule.ensures.schedule c.in_ok-schedule.ensures.found c.in_ok-schedule.ensures.refused
    c.in_ok-arcs.arcs c.in_ok-arcs.ensures c.unroll-unroll.result
    (unrolled c.as_slice-2.result.now c.in_ok-arcs.arcs c.unroll-unroll.result c.as_slice-2.ensures
    c.unroll-unroll.ensures)
    c.from_residual-in_err-registers.result c.in_err-registers.field-0.0
    c.from_residual-in_err-registers.ensures.1 c.in_err-registers.ensures.fault c.in_err-registers.ensures.found
    c.in_err-registers.ensures.refused).found

pub returns-in_err-registers-clause-refused : goal.returns-in_err-registers-clause-refused
returns-in_err-registers-clause-refused c =
    (at_registers c.args.graph c.args.datapath.now c.in_ok-lowered.lowered c.in_ok-lowered.ensures.lowered
    c.in_ok-lowered.ensures.found c.in_ok-lowered.ensures.refused c.in_ok-units.units c.in_ok-units.ensures.units
    c.in_ok-units.ensures.found c.in_ok-units.ensures.refused c.in_ok-schedule.schedule
    c.in_ok-schedule.ensures.schedule c.in_ok-schedule.ensures.found c.in_ok-schedule.ensures.refused
    c.in_ok-arcs.arcs c.in_ok-arcs.ensures c.unroll-unroll.result
    (unrolled c.as_slice-2.result.now c.in_ok-arcs.arcs c.unroll-unroll.result c.as_slice-2.ensures
    c.unroll-unroll.ensures)
    c.from_residual-in_err-registers.result c.in_err-registers.field-0.0
    c.from_residual-in_err-registers.ensures.1 c.in_err-registers.ensures.fault c.in_err-registers.ensures.found
    c.in_err-registers.ensures.refused).refused

pub returns-clause-plan : goal.returns-clause-plan
returns-clause-plan c =
    (at_end c.args.graph c.args.datapath.now c.in_ok-lowered.lowered c.in_ok-lowered.ensures.lowered
    c.in_ok-lowered.ensures.found c.in_ok-lowered.ensures.refused c.in_ok-units.units c.in_ok-units.ensures.units
    c.in_ok-units.ensures.found c.in_ok-units.ensures.refused c.in_ok-schedule.schedule
    c.in_ok-schedule.ensures.schedule c.in_ok-schedule.ensures.found c.in_ok-schedule.ensures.refused
    c.in_ok-arcs.arcs c.in_ok-arcs.ensures c.unroll-unroll.result
    (unrolled c.as_slice-2.result.now c.in_ok-arcs.arcs c.unroll-unroll.result c.as_slice-2.ensures
    c.unroll-unroll.ensures) c.in_ok-registers.registers
    c.in_ok-registers.ensures.registers c.in_ok-registers.ensures.found c.in_ok-registers.ensures.refused
    c.in_ok-inputs.inputs (c.in_ok-inputs.ensures ∙ c.as_slice.ensures)).plan

pub returns-clause-found : goal.returns-clause-found
returns-clause-found c =
    (at_end c.args.graph c.args.datapath.now c.in_ok-lowered.lowered c.in_ok-lowered.ensures.lowered
    c.in_ok-lowered.ensures.found c.in_ok-lowered.ensures.refused c.in_ok-units.units c.in_ok-units.ensures.units
    c.in_ok-units.ensures.found c.in_ok-units.ensures.refused c.in_ok-schedule.schedule
    c.in_ok-schedule.ensures.schedule c.in_ok-schedule.ensures.found c.in_ok-schedule.ensures.refused
    c.in_ok-arcs.arcs c.in_ok-arcs.ensures c.unroll-unroll.result
    (unrolled c.as_slice-2.result.now c.in_ok-arcs.arcs c.unroll-unroll.result c.as_slice-2.ensures
    c.unroll-unroll.ensures) c.in_ok-registers.registers
    c.in_ok-registers.ensures.registers c.in_ok-registers.ensures.found c.in_ok-registers.ensures.refused
    c.in_ok-inputs.inputs (c.in_ok-inputs.ensures ∙ c.as_slice.ensures)).found

pub returns-clause-refused : goal.returns-clause-refused
returns-clause-refused c =
    (at_end c.args.graph c.args.datapath.now c.in_ok-lowered.lowered c.in_ok-lowered.ensures.lowered
    c.in_ok-lowered.ensures.found c.in_ok-lowered.ensures.refused c.in_ok-units.units c.in_ok-units.ensures.units
    c.in_ok-units.ensures.found c.in_ok-units.ensures.refused c.in_ok-schedule.schedule
    c.in_ok-schedule.ensures.schedule c.in_ok-schedule.ensures.found c.in_ok-schedule.ensures.refused
    c.in_ok-arcs.arcs c.in_ok-arcs.ensures c.unroll-unroll.result
    (unrolled c.as_slice-2.result.now c.in_ok-arcs.arcs c.unroll-unroll.result c.as_slice-2.ensures
    c.unroll-unroll.ensures) c.in_ok-registers.registers
    c.in_ok-registers.ensures.registers c.in_ok-registers.ensures.found c.in_ok-registers.ensures.refused
    c.in_ok-inputs.inputs (c.in_ok-inputs.ensures ∙ c.as_slice.ensures)).refused
