use Rattle.std.proofs.Common.{◌∙◌, subst, arith, List}
use Rattle.plan_core.specs.Arcs.{IsUnroll}
use Rattle.plan_core.specs.declared.registers.Arc.{Arc}
use Rattle.plan_soundness.proofs.Units.{on_right_units}
use Rattle.planner.proofs.Asked.{wired, held}
use Rattle.overlap_plan.proofs.Asked.{stage_problem_of, read_now, over_stages, allottable_of}
use Rattle.overlap_plan.proofs.Exits.{bound, at_lines, at_units, at_cycles, at_registers, at_end}
use Rattle.overlap_plan.proofs.passes.stage_plan.Goals as goal

pub bind-requires-clause-wired : goal.bind-requires-clause-wired
bind-requires-clause-wired c =
    wired c.args.graph.now c.args.datapath.now c.requires.sound c.in_ok-lowered.lowered c.in_ok-lowered.ensures.lowered

pub stage_schedule-requires : goal.stage_schedule-requires
stage_schedule-requires c =
    stage_problem_of c.args.graph.now c.args.datapath.now c.args.stages c.requires.datapath c.requires.sound
    c.requires.loopless (bound c.in_ok-lowered.lowered c.in_ok-units.units) c.in_ok-lowered.ensures.lowered
    (on_right_units c.in_ok-units.ensures.units) c.requires.stages.0 c.requires.stages.1

pub stage_arcs-requires-clause-held : goal.stage_arcs-requires-clause-held
stage_arcs-requires-clause-held c =
    held c.args.graph.now c.args.datapath.now c.requires.sound (bound c.in_ok-lowered.lowered c.in_ok-units.units)
    c.in_ok-lowered.ensures.lowered
    (omega arith) (on_right_units c.in_ok-units.ensures.units)

pub stage_arcs-requires-clause-now : goal.stage_arcs-requires-clause-now
stage_arcs-requires-clause-now c =
    read_now c.args.graph.now c.args.datapath.now c.args.stages c.requires.datapath c.requires.sound
    (bound c.in_ok-lowered.lowered c.in_ok-units.units) c.in_ok-lowered.ensures.lowered

pub stage_arcs-requires-clause-schedule : goal.stage_arcs-requires-clause-schedule
stage_arcs-requires-clause-schedule c =
    over_stages c.args.graph.now c.args.datapath.now c.args.stages c.requires.datapath c.requires.sound
    (bound c.in_ok-lowered.lowered c.in_ok-units.units) c.in_ok-lowered.ensures.lowered c.in_ok-schedule.schedule
    c.in_ok-schedule.ensures.schedule c.requires.stages.1

pub allot-requires-clause-allottable : goal.allot-requires-clause-allottable
allot-requires-clause-allottable c =
    allottable_of c.args.graph.now c.args.datapath.now c.args.stages c.requires.datapath c.requires.sound
    (bound c.in_ok-lowered.lowered c.in_ok-units.units) c.in_ok-lowered.ensures.lowered c.in_ok-schedule.schedule
    c.in_ok-schedule.ensures.schedule (on_right_units c.in_ok-units.ensures.units) c.in_ok-arcs.arcs
    c.in_ok-arcs.ensures

pub returns-in_err-lowered-clause-fault : goal.returns-in_err-lowered-clause-fault
returns-in_err-lowered-clause-fault c =
    (at_lines c.args.graph.now c.args.datapath.now c.args.stages c.requires.datapath c.requires.sound
    c.requires.loopless
    c.from_residual-in_err-lowered.result c.in_err-lowered.field-0.0 c.from_residual-in_err-lowered.ensures.1
    c.in_err-lowered.ensures.fault).fault

pub returns-in_err-lowered-clause-found : goal.returns-in_err-lowered-clause-found
returns-in_err-lowered-clause-found c =
    (at_lines c.args.graph.now c.args.datapath.now c.args.stages c.requires.datapath c.requires.sound
    c.requires.loopless
    c.from_residual-in_err-lowered.result c.in_err-lowered.field-0.0 c.from_residual-in_err-lowered.ensures.1
    c.in_err-lowered.ensures.fault).found

pub returns-in_err-lowered-clause-refused : goal.returns-in_err-lowered-clause-refused
returns-in_err-lowered-clause-refused c =
    (at_lines c.args.graph.now c.args.datapath.now c.args.stages c.requires.datapath c.requires.sound
    c.requires.loopless
    c.from_residual-in_err-lowered.result c.in_err-lowered.field-0.0 c.from_residual-in_err-lowered.ensures.1
    c.in_err-lowered.ensures.fault).refused

pub returns-in_err-units-clause-fault : goal.returns-in_err-units-clause-fault
returns-in_err-units-clause-fault c =
    (at_units c.args.graph.now c.args.datapath.now c.args.stages c.requires.datapath c.requires.sound
    c.requires.loopless c.in_ok-lowered.lowered c.in_ok-lowered.ensures.lowered
    c.from_residual-in_err-units.result c.in_err-units.field-0.0 c.from_residual-in_err-units.ensures.1
    c.in_err-units.ensures.fault).fault

pub returns-in_err-units-clause-found : goal.returns-in_err-units-clause-found
returns-in_err-units-clause-found c =
    (at_units c.args.graph.now c.args.datapath.now c.args.stages c.requires.datapath c.requires.sound
    c.requires.loopless c.in_ok-lowered.lowered c.in_ok-lowered.ensures.lowered
    c.from_residual-in_err-units.result c.in_err-units.field-0.0 c.from_residual-in_err-units.ensures.1
    c.in_err-units.ensures.fault).found

pub returns-in_err-units-clause-refused : goal.returns-in_err-units-clause-refused
returns-in_err-units-clause-refused c =
    (at_units c.args.graph.now c.args.datapath.now c.args.stages c.requires.datapath c.requires.sound
    c.requires.loopless c.in_ok-lowered.lowered c.in_ok-lowered.ensures.lowered
    c.from_residual-in_err-units.result c.in_err-units.field-0.0 c.from_residual-in_err-units.ensures.1
    c.in_err-units.ensures.fault).refused

pub returns-in_err-schedule-clause-fault : goal.returns-in_err-schedule-clause-fault
returns-in_err-schedule-clause-fault c =
    (at_cycles c.args.graph.now c.args.datapath.now c.args.stages c.requires.datapath c.requires.sound
    c.requires.loopless c.in_ok-lowered.lowered c.in_ok-lowered.ensures.lowered c.requires.stages.0 c.in_ok-units.units
    c.in_ok-units.ensures.units
    c.from_residual-in_err-schedule.result c.in_err-schedule.field-0.0 c.from_residual-in_err-schedule.ensures.1
    c.in_err-schedule.ensures.fault).fault

pub returns-in_err-schedule-clause-found : goal.returns-in_err-schedule-clause-found
returns-in_err-schedule-clause-found c =
    (at_cycles c.args.graph.now c.args.datapath.now c.args.stages c.requires.datapath c.requires.sound
    c.requires.loopless c.in_ok-lowered.lowered c.in_ok-lowered.ensures.lowered c.requires.stages.0 c.in_ok-units.units
    c.in_ok-units.ensures.units
    c.from_residual-in_err-schedule.result c.in_err-schedule.field-0.0 c.from_residual-in_err-schedule.ensures.1
    c.in_err-schedule.ensures.fault).found

pub returns-in_err-schedule-clause-refused : goal.returns-in_err-schedule-clause-refused
returns-in_err-schedule-clause-refused c =
    (at_cycles c.args.graph.now c.args.datapath.now c.args.stages c.requires.datapath c.requires.sound
    c.requires.loopless c.in_ok-lowered.lowered c.in_ok-lowered.ensures.lowered c.requires.stages.0 c.in_ok-units.units
    c.in_ok-units.ensures.units
    c.from_residual-in_err-schedule.result c.in_err-schedule.field-0.0 c.from_residual-in_err-schedule.ensures.1
    c.in_err-schedule.ensures.fault).refused

pub returns-in_err-registers-clause-fault : goal.returns-in_err-registers-clause-fault
returns-in_err-registers-clause-fault c =
    (at_registers c.args.graph.now c.args.datapath.now c.args.stages c.requires.datapath c.requires.sound
    c.requires.loopless c.in_ok-lowered.lowered c.in_ok-lowered.ensures.lowered c.requires.stages.0 c.in_ok-units.units
    c.in_ok-units.ensures.units c.in_ok-schedule.schedule c.in_ok-schedule.ensures.schedule c.in_ok-arcs.arcs
    c.in_ok-arcs.ensures
    c.from_residual-in_err-registers.result c.in_err-registers.field-0.0 c.from_residual-in_err-registers.ensures.1
    c.in_err-registers.ensures.fault).fault

pub returns-in_err-registers-clause-found : goal.returns-in_err-registers-clause-found
returns-in_err-registers-clause-found c =
    (at_registers c.args.graph.now c.args.datapath.now c.args.stages c.requires.datapath c.requires.sound
    c.requires.loopless c.in_ok-lowered.lowered c.in_ok-lowered.ensures.lowered c.requires.stages.0 c.in_ok-units.units
    c.in_ok-units.ensures.units c.in_ok-schedule.schedule c.in_ok-schedule.ensures.schedule c.in_ok-arcs.arcs
    c.in_ok-arcs.ensures
    c.from_residual-in_err-registers.result c.in_err-registers.field-0.0 c.from_residual-in_err-registers.ensures.1
    c.in_err-registers.ensures.fault).found

pub returns-in_err-registers-clause-refused : goal.returns-in_err-registers-clause-refused
returns-in_err-registers-clause-refused c =
    (at_registers c.args.graph.now c.args.datapath.now c.args.stages c.requires.datapath c.requires.sound
    c.requires.loopless c.in_ok-lowered.lowered c.in_ok-lowered.ensures.lowered c.requires.stages.0 c.in_ok-units.units
    c.in_ok-units.ensures.units c.in_ok-schedule.schedule c.in_ok-schedule.ensures.schedule c.in_ok-arcs.arcs
    c.in_ok-arcs.ensures
    c.from_residual-in_err-registers.result c.in_err-registers.field-0.0 c.from_residual-in_err-registers.ensures.1
    c.in_err-registers.ensures.fault).refused

pub returns-clause-plan : goal.returns-clause-plan
returns-clause-plan c =
    (at_end c.args.graph.now c.args.datapath.now c.args.stages c.requires.datapath c.requires.sound c.requires.loopless
    c.in_ok-lowered.lowered c.in_ok-lowered.ensures.lowered c.requires.stages.0 c.in_ok-units.units
    c.in_ok-units.ensures.units
    c.in_ok-schedule.schedule c.in_ok-schedule.ensures.schedule c.in_ok-arcs.arcs c.in_ok-arcs.ensures
    c.unroll-unroll.result
    (subst (λ (xs : List Arc). IsUnroll xs c.unroll-unroll.result) c.as_slice-2.ensures c.unroll-unroll.ensures)
    c.in_ok-registers.registers c.in_ok-registers.ensures.registers c.in_ok-inputs.inputs
    (c.in_ok-inputs.ensures ∙ c.as_slice.ensures)).plan

pub returns-clause-found : goal.returns-clause-found
returns-clause-found c =
    (at_end c.args.graph.now c.args.datapath.now c.args.stages c.requires.datapath c.requires.sound c.requires.loopless
    c.in_ok-lowered.lowered c.in_ok-lowered.ensures.lowered c.requires.stages.0 c.in_ok-units.units
    c.in_ok-units.ensures.units
    c.in_ok-schedule.schedule c.in_ok-schedule.ensures.schedule c.in_ok-arcs.arcs c.in_ok-arcs.ensures
    c.unroll-unroll.result
    (subst (λ (xs : List Arc). IsUnroll xs c.unroll-unroll.result) c.as_slice-2.ensures c.unroll-unroll.ensures)
    c.in_ok-registers.registers c.in_ok-registers.ensures.registers c.in_ok-inputs.inputs
    (c.in_ok-inputs.ensures ∙ c.as_slice.ensures)).found

pub returns-clause-refused : goal.returns-clause-refused
returns-clause-refused c =
    (at_end c.args.graph.now c.args.datapath.now c.args.stages c.requires.datapath c.requires.sound c.requires.loopless
    c.in_ok-lowered.lowered c.in_ok-lowered.ensures.lowered c.requires.stages.0 c.in_ok-units.units
    c.in_ok-units.ensures.units
    c.in_ok-schedule.schedule c.in_ok-schedule.ensures.schedule c.in_ok-arcs.arcs c.in_ok-arcs.ensures
    c.unroll-unroll.result
    (subst (λ (xs : List Arc). IsUnroll xs c.unroll-unroll.result) c.as_slice-2.ensures c.unroll-unroll.ensures)
    c.in_ok-registers.registers c.in_ok-registers.ensures.registers c.in_ok-inputs.inputs
    (c.in_ok-inputs.ensures ∙ c.as_slice.ensures)).refused
