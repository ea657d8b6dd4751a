use Rattle.std.proofs.Common.{◌≡◌, rules, refl, Ok, Err}
use Rattle.schedule_priority.specs.Problem.{IsProblem}
use Rattle.list_schedule.proofs.OneFault.{ok_found, ok_refused, err_found, err_refused}
use Rattle.list_schedule.proofs.scheduler.schedule.Goals as goal

pub returns-in_err-slots-clause-found : goal.returns-in_err-slots-clause-found
returns-in_err-slots-clause-found c =
    let is : c.from_residual-in_err-slots.result ≡ Err c.in_err-slots.field-0.0 = search rules in
    let problem : IsProblem c.args.datapath.now c.args.assigned.now =
    record { path = c.requires.datapath; schedulable = c.requires.schedulable } in
    err_found c.args.datapath.now c.args.assigned.now problem c.from_residual-in_err-slots.result
    c.in_err-slots.field-0.0 is c.in_err-slots.ensures.fault

pub returns-in_err-slots-clause-refused : goal.returns-in_err-slots-clause-refused
returns-in_err-slots-clause-refused c =
    let is : c.from_residual-in_err-slots.result ≡ Err c.in_err-slots.field-0.0 = search rules in
    let problem : IsProblem c.args.datapath.now c.args.assigned.now =
    record { path = c.requires.datapath; schedulable = c.requires.schedulable } in
    err_refused c.args.datapath.now c.args.assigned.now problem c.from_residual-in_err-slots.result
    c.in_err-slots.field-0.0 is c.in_err-slots.ensures.fault

pub returns-clause-found : goal.returns-clause-found
returns-clause-found c =
    let problem : IsProblem c.args.datapath.now c.args.assigned.now =
    record { path = c.requires.datapath; schedulable = c.requires.schedulable } in
    ok_found c.args.datapath.now c.args.assigned.now problem (Ok (record { slots = c.in_ok-slots.slots }))
    (record { slots = c.in_ok-slots.slots }) refl c.in_ok-slots.ensures.schedule

pub returns-clause-refused : goal.returns-clause-refused
returns-clause-refused c =
    let problem : IsProblem c.args.datapath.now c.args.assigned.now =
    record { path = c.requires.datapath; schedulable = c.requires.schedulable } in
    ok_refused c.args.datapath.now c.args.assigned.now problem (Ok (record { slots = c.in_ok-slots.slots }))
    (record { slots = c.in_ok-slots.slots }) c.in_ok-slots.ensures.schedule
