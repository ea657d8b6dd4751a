use Rattle.std.proofs.Common.{◌≡◌, ◌∙◌, ℕ, sym, subst, arith, true, false, [], ◌∷◌}
use Rattle.std.specs.Prelude.{slice_index_or}
use Rattle.std.proofs.lemmas.List.{get_or_default}
use Rattle.operations.specs.declared.units.PortRef.{PortRef}
use Rattle.plan_core.specs.Hardware.{port_of}
use Rattle.placed_plan.specs.Private.Placing.{Fits}
use Rattle.placed_plan.proofs.FirstObstacles.{fits_each, fits_here, fits_there, up_to_more}
use Rattle.placed_plan.proofs.obstacles.check_ports.Goals as goal

pub returns-then-not-fits-clause-fault : goal.returns-then-not-fits-clause-fault
returns-then-not-fits-clause-fault c =
    let d = c.args.problem.now.datapath.now in
    let a = c.args.problem.now.assigned.now in
    let port : PortRef = slice_index_or c.args.ports.now c.loop-port.port-index (port_of 0 0) in
    record {
      in_time = c.requires.in_time;
      free = c.requires.free;
      port = port;
      index = c.loop-port.port-index;
      there = c.loop-port-test.true;
      is = get_or_default c.args.ports.now c.loop-port.port-index port (port_of 0 0) c.loop-port-test.true;
      before = λ j less. c.loop-port.invariant j port less;
      shut = λ fits. absurd (
          let yes = c.fits.ensures.1
          (fits_there d a c.args.placing.now c.args.v c.args.cycle c.requires.table.path c.unit-unit.result
          c.unit-unit.ensures.unit (port ∷ []) fits) in
          let clash : false ≡ true = sym c.if-not-fits.true ∙ yes in cc);
      why = c.blockade.ensures;
    }

pub loop-port-preserved : goal.loop-port-preserved
loop-port-preserved c =
    let d = c.args.problem.now.datapath.now in
    let a = c.args.problem.now.assigned.now in
    let p = c.args.placing.now in
    let v = c.args.v in
    let t = c.args.cycle in
    let k = c.loop-port.port-index in
    let port : PortRef = slice_index_or c.args.ports.now k (port_of 0 0) in
    λ j q less.
    up_to_more (λ (i : ℕ). (r : PortRef) → Fits d a p v t (slice_index_or c.args.ports.now i r ∷ [])) k
    (λ i early r. c.loop-port.invariant i r early)
    (λ r.
    subst (λ (s : PortRef). Fits d a p v t (s ∷ []))
    (get_or_default c.args.ports.now k (port_of 0 0) r c.loop-port-test.true)
    (fits_here d a p v t c.requires.table.path c.unit-unit.result c.unit-unit.ensures.unit (port ∷ [])
    (c.fits.ensures.0 c.if-not-fits.false)))
    j less q

pub returns-clause-fits : goal.returns-clause-fits
returns-clause-fits c =
    fits_each c.args.problem.now.datapath.now c.args.problem.now.assigned.now c.args.placing.now c.args.v c.args.cycle
    c.args.ports.now c.requires.free
    (λ j q less. c.loop-port.invariant j q (omega (arith, less, c.loop-port-test.false)))
