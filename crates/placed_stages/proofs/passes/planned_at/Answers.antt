use Rattle.std.proofs.Common.{◌∙◌, inl, refl, subst, arith, rules, List}
use Rattle.plan_core.specs.Arcs.{IsUnroll}
use Rattle.plan_core.specs.declared.registers.Arc.{Arc}
use Rattle.delay_memory.proofs.LoweredNodes.{node_count}
use Rattle.planner.proofs.Asked.{held}
use Rattle.placed_plan.proofs.GivenUnits.{on_right}
use Rattle.overlap_plan.proofs.Asked.{stage_problem_of, read_now, over_stages, allottable_of}
use Rattle.placed_stages.specs.Private.Units.{bound}
use Rattle.placed_stages.proofs.PlansAt.{line_fails, unit_fails, cycle_fails, stage_fails, file_fails, whole}
use Rattle.placed_stages.proofs.PlansAt.{finds, told, answers}
use Rattle.placed_stages.specs.Private.Errors.{of_line, of_file}
use Rattle.placed_stages.specs.declared.fault.StagePlaceFault.TheVariants.{Memory}
use Rattle.placed_stages.proofs.Staged.{early, end_in}
use Rattle.placed_stages.proofs.passes.planned_at.Goals as goal

pub units_at-requires : goal.units_at-requires
units_at-requires c = record {
  few =
      node_count c.args.graph.now c.args.datapath.now c.in_ok-lowered.lowered c.requires.sound
      c.in_ok-lowered.ensures.lowered;
}

pub stage_schedule_at-requires-clause-staged : goal.stage_schedule_at-requires-clause-staged
stage_schedule_at-requires-clause-staged c =
    let a = bound c.in_ok-lowered.lowered c.in_ok-units.units in
    stage_problem_of c.args.graph.now c.args.datapath.now c.args.stages c.requires.datapath c.requires.sound
    c.requires.loopless a c.in_ok-lowered.ensures.lowered
    (on_right c.args.places.now c.args.datapath.now a c.in_ok-units.ensures.units) c.requires.stages.0
    c.requires.stages.1

pub stage_schedule_at-requires-clause-places : goal.stage_schedule_at-requires-clause-places
stage_schedule_at-requires-clause-places c = c.in_ok-units.ensures.units.place_count

pub check_stages-requires-clause-staged : goal.check_stages-requires-clause-staged
check_stages-requires-clause-staged c =
    let a = bound c.in_ok-lowered.lowered c.in_ok-units.units in
    stage_problem_of c.args.graph.now c.args.datapath.now c.args.stages c.requires.datapath c.requires.sound
    c.requires.loopless a c.in_ok-lowered.ensures.lowered
    (on_right c.args.places.now c.args.datapath.now a c.in_ok-units.ensures.units) c.requires.stages.0
    c.requires.stages.1

pub check_stages-requires-clause-count : goal.check_stages-requires-clause-count
check_stages-requires-clause-count c = c.in_ok-schedule.ensures.schedule.count

pub check_stages-requires-clause-few : goal.check_stages-requires-clause-few
check_stages-requires-clause-few c =
    let few =
    node_count c.args.graph.now c.args.datapath.now c.in_ok-lowered.lowered c.requires.sound
    c.in_ok-lowered.ensures.lowered in
    omega (arith, few, c.in_ok-schedule.ensures.schedule.count)

pub check_stages-requires-clause-early : goal.check_stages-requires-clause-early
check_stages-requires-clause-early c =
    early c.args.places.now c.args.stages c.args.datapath.now (bound c.in_ok-lowered.lowered c.in_ok-units.units)
    c.requires.datapath c.requires.stages.1 c.in_ok-schedule.schedule c.in_ok-schedule.ensures.schedule

pub check_stages-requires-clause-ends : goal.check_stages-requires-clause-ends
check_stages-requires-clause-ends c =
    end_in c.args.places.now c.args.stages c.args.datapath.now (bound c.in_ok-lowered.lowered c.in_ok-units.units)
    c.requires.datapath c.requires.stages.1 c.in_ok-schedule.schedule c.in_ok-schedule.ensures.schedule

pub stage_arcs-requires-clause-held : goal.stage_arcs-requires-clause-held
stage_arcs-requires-clause-held c =
    let a = bound c.in_ok-lowered.lowered c.in_ok-units.units in
    held c.args.graph.now c.args.datapath.now c.requires.sound a c.in_ok-lowered.ensures.lowered (omega arith)
    (on_right c.args.places.now c.args.datapath.now a c.in_ok-units.ensures.units)

pub stage_arcs-requires-clause-now : goal.stage_arcs-requires-clause-now
stage_arcs-requires-clause-now c =
    read_now c.args.graph.now c.args.datapath.now c.args.stages c.requires.datapath c.requires.sound
    (bound c.in_ok-lowered.lowered c.in_ok-units.units) c.in_ok-lowered.ensures.lowered

pub stage_arcs-requires-clause-schedule : goal.stage_arcs-requires-clause-schedule
stage_arcs-requires-clause-schedule c =
    over_stages c.args.graph.now c.args.datapath.now c.args.stages c.requires.datapath c.requires.sound
    (bound c.in_ok-lowered.lowered c.in_ok-units.units) c.in_ok-lowered.ensures.lowered c.in_ok-schedule.schedule
    c.in_ok-schedule.ensures.schedule c.requires.stages.1

pub allot-requires-clause-allottable : goal.allot-requires-clause-allottable
allot-requires-clause-allottable c =
    let a = bound c.in_ok-lowered.lowered c.in_ok-units.units in
    allottable_of c.args.graph.now c.args.datapath.now c.args.stages c.requires.datapath c.requires.sound a
    c.in_ok-lowered.ensures.lowered c.in_ok-schedule.schedule c.in_ok-schedule.ensures.schedule
    (on_right c.args.places.now c.args.datapath.now a c.in_ok-units.ensures.units) c.in_ok-arcs.arcs
    c.in_ok-arcs.ensures

pub returns-in_err-lowered : goal.returns-in_err-lowered
returns-in_err-lowered c =
    answers c.args.graph.now c.args.datapath.now c.args.stages c.args.places.now c.requires.datapath c.requires.sound
    c.requires.loopless c.from_residual-in_err-lowered.result (of_line c.in_err-lowered.field-0.0)
    (told c.from_residual-in_err-lowered.result (of_line c.in_err-lowered.field-0.0)
    c.from_residual-in_err-lowered.ensures.1)
    (line_fails c.args.graph.now c.args.datapath.now c.args.stages c.args.places.now c.requires.datapath
    c.requires.sound c.requires.stages.0 c.in_err-lowered.field-0.0 c.in_err-lowered.ensures.fault)

pub returns-in_err-units : goal.returns-in_err-units
returns-in_err-units c =
    answers c.args.graph.now c.args.datapath.now c.args.stages c.args.places.now c.requires.datapath c.requires.sound
    c.requires.loopless c.from_residual-in_err-units.result c.in_err-units.field-0.0
    (search rules)
    (unit_fails c.args.graph.now c.args.datapath.now c.args.stages c.args.places.now c.requires.datapath
    c.requires.sound c.requires.stages.0 c.in_ok-lowered.lowered c.in_ok-lowered.ensures.lowered
    c.in_err-units.field-0.0 c.in_err-units.ensures.fault)

pub returns-in_err-schedule : goal.returns-in_err-schedule
returns-in_err-schedule c =
    answers c.args.graph.now c.args.datapath.now c.args.stages c.args.places.now c.requires.datapath c.requires.sound
    c.requires.loopless c.from_residual-in_err-schedule.result c.in_err-schedule.field-0.0
    (search rules)
    (cycle_fails c.args.graph.now c.args.datapath.now c.args.stages c.args.places.now c.requires.datapath
    c.requires.sound c.requires.stages.0 (bound c.in_ok-lowered.lowered c.in_ok-units.units)
    c.in_ok-lowered.ensures.lowered c.in_ok-units.ensures.units c.in_err-schedule.field-0.0
    c.in_err-schedule.ensures.fault)

pub returns-in_err-check_stages : goal.returns-in_err-check_stages
returns-in_err-check_stages c =
    answers c.args.graph.now c.args.datapath.now c.args.stages c.args.places.now c.requires.datapath c.requires.sound
    c.requires.loopless c.from_residual-in_err-check_stages.result c.in_err-check_stages.field-0.0
    (search rules)
    (stage_fails c.args.graph.now c.args.datapath.now c.args.stages c.args.places.now c.requires.datapath
    c.requires.sound c.requires.stages.0 (bound c.in_ok-lowered.lowered c.in_ok-units.units)
    c.in_ok-lowered.ensures.lowered c.in_ok-units.ensures.units c.in_ok-schedule.schedule
    c.in_ok-schedule.ensures.schedule c.in_err-check_stages.field-0.0 c.in_err-check_stages.ensures.fault)

pub returns-in_err-registers : goal.returns-in_err-registers
returns-in_err-registers c =
    answers c.args.graph.now c.args.datapath.now c.args.stages c.args.places.now c.requires.datapath c.requires.sound
    c.requires.loopless c.from_residual-in_err-registers.result (of_file c.in_err-registers.field-0.0)
    (told c.from_residual-in_err-registers.result (of_file c.in_err-registers.field-0.0)
    c.from_residual-in_err-registers.ensures.1)
    (file_fails c.args.graph.now c.args.datapath.now c.args.stages c.args.places.now c.requires.datapath
    c.requires.sound c.requires.stages.0 (bound c.in_ok-lowered.lowered c.in_ok-units.units)
    c.in_ok-lowered.ensures.lowered c.in_ok-units.ensures.units c.in_ok-schedule.schedule
    c.in_ok-schedule.ensures.schedule c.in_ok-check_stages.ensures.staged c.in_ok-arcs.arcs c.in_ok-arcs.ensures
    c.in_err-registers.field-0.0 c.in_err-registers.ensures.fault)

pub returns : goal.returns
returns c =
    finds c.args.graph.now c.args.datapath.now c.args.stages c.args.places.now c.requires.datapath c.requires.sound
    c.requires.loopless _
    (whole c.args.graph.now c.args.datapath.now c.args.stages c.args.places.now c.requires.datapath c.requires.sound
    c.requires.stages.0 (bound c.in_ok-lowered.lowered c.in_ok-units.units) c.in_ok-lowered.ensures.lowered
    c.in_ok-units.ensures.units c.in_ok-schedule.schedule c.in_ok-schedule.ensures.schedule
    c.in_ok-check_stages.ensures.staged c.in_ok-arcs.arcs c.in_ok-arcs.ensures c.unroll-unroll.result
    c.in_ok-registers.registers c.in_ok-inputs.inputs
    (subst (λ (xs : List Arc). IsUnroll xs c.unroll-unroll.result) c.as_slice-2.ensures c.unroll-unroll.ensures)
    c.in_ok-registers.ensures.registers (c.in_ok-inputs.ensures ∙ c.as_slice.ensures))
