use Rattle.std.proofs.Common.{◌<◌, ◌≤◌, ◌∙◌, arith, ap, subst, length}
use Rattle.std.proofs.lemmas.List.{take_all}
use Rattle.cycle_sim.specs.Private.Execution.{IsCycle}
use Rattle.cycle_sim.specs.Private.Order.{HaveIssued, IsActionLogged}
use Rattle.cycle_sim.proofs.Acting.{more_issued}
use Rattle.cycle_sim.proofs.Actions.{action_more, places_order, unit_order, issued_in_order}
use Rattle.cycle_sim.proofs.cycle.Cycle.act_all.Goals as goal

pub bounds-order-place : goal.bounds-order-place
bounds-order-place c =
    omega (
      arith,
      c.loop-place-test.true,
      c.len-place-end.ensures,
      ap (λ cycle. length cycle.code.image.units) c.self.view_is,
      places_order c.args.self.now (subst IsCycle c.self.view_is c.self.invariant.0) c.args.order.now
          c.requires.order,
    )

pub act-filled-requires-clause-unit : goal.act-filled-requires-clause-unit
act-filled-requires-clause-unit c =
    unit_order c.args.self.now (subst IsCycle c.self.view_is c.self.invariant.0) c.args.order.now c.requires.order
    c.loop-place.place 0
    (omega (
      arith,
      c.loop-place-test.true,
      c.len-place-end.ensures,
      ap (λ cycle. length cycle.code.image.units) c.self.view_is,
      places_order c.args.self.now (subst IsCycle c.self.view_is c.self.invariant.0) c.args.order.now
          c.requires.order,
    ))

pub loop-place-preserved : goal.loop-place-preserved
loop-place-preserved c =
    let is = subst IsCycle c.self.view_is c.self.invariant.0 in
    let below : c.loop-place.place < length c.args.order.now =
    omega (
      arith,
      c.loop-place-test.true,
      c.len-place-end.ensures,
      ap (λ cycle. length cycle.code.image.units) c.self.view_is,
      places_order c.args.self.now is c.args.order.now c.requires.order,
    ) in
    record {
      issued =
          more_issued c.args.self.now is c.args.storage.now c.args.row.now c.args.order.now c.loop-place.place 0 below
          c.args.in_flight.now c.loop-place.in_flight c.act-filled.new.in_flight c.loop-place.invariant.issued
          c.act-filled.ensures.issue;
      logged =
          action_more c.args.self.now is c.args.storage.now c.args.row.now c.args.order.now c.loop-place.place 0 below
          c.args.in_flight.now c.loop-place.in_flight c.loop-place.invariant.issued
          c.args.log.now c.loop-place.log c.act-filled.new.log c.loop-place.filled c.act-filled.result
          c.loop-place.invariant.logged c.act-filled.ensures.log;
      few = omega (arith, c.loop-place.invariant.few, c.act-filled.ensures.few);
      size = c.act-filled.ensures.size ∙ c.loop-place.invariant.size;
    }

pub returns-clause-issues : goal.returns-clause-issues
returns-clause-issues c =
    let is = subst IsCycle c.self.view_is c.self.invariant.0 in
    let done : length c.args.order.now ≤ c.loop-place.place =
    omega (
      arith,
      c.loop-place-test.false,
      c.len-place-end.ensures,
      ap (λ cycle. length cycle.code.image.units) c.self.view_is,
      places_order c.args.self.now is c.args.order.now c.requires.order,
    ) in
    issued_in_order c.args.self.now is c.args.order.now c.requires.order c.args.storage.now c.requires.places
    c.args.row.now c.args.in_flight.now c.loop-place.in_flight
    (subst (λ units.
    HaveIssued c.args.self.now c.args.storage.now c.args.row.now units c.args.in_flight.now c.loop-place.in_flight)
    (take_all c.loop-place.place c.args.order.now done) c.loop-place.invariant.issued)

pub returns-clause-log : goal.returns-clause-log
returns-clause-log c =
    let is = subst IsCycle c.self.view_is c.self.invariant.0 in
    let done : length c.args.order.now ≤ c.loop-place.place =
    omega (
      arith,
      c.loop-place-test.false,
      c.len-place-end.ensures,
      ap (λ cycle. length cycle.code.image.units) c.self.view_is,
      places_order c.args.self.now is c.args.order.now c.requires.order,
    ) in
    let same = take_all c.loop-place.place c.args.order.now done in
    subst (λ units.
    IsActionLogged c.args.self.now c.args.storage.now c.args.row.now units c.args.in_flight.now 0 c.args.log.now
    c.loop-place.filled c.loop-place.log)
    same c.loop-place.invariant.logged
    c.loop-place.in_flight
    (issued_in_order c.args.self.now is c.args.order.now c.requires.order c.args.storage.now c.requires.places
    c.args.row.now c.args.in_flight.now c.loop-place.in_flight
    (subst (λ units.
    HaveIssued c.args.self.now c.args.storage.now c.args.row.now units c.args.in_flight.now c.loop-place.in_flight)
    same c.loop-place.invariant.issued))
