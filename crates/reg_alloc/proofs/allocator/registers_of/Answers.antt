use Rattle.std.proofs.Common.{rules, ◌≡◌, ◌∙◌, ◌⊎◌, inl, inr, ⊎_elim, sym, ap, subst, arith, ℕ, ◌+◌, ◌<◌, ◌∷◌, ◌++◌, []}
use Rattle.std.proofs.Common.{List, length, slice_index_or, Err}
use Rattle.std.specs.Prelude.{IfErr}
use Rattle.std.proofs.lemmas.List.{get_or_default, length_push}
use Rattle.operations.specs.declared.units.PortRef.{PortRef}
use Rattle.plan_core.specs.Hardware.{file_size}
use Rattle.plan_core.specs.Arcs.{no_arc, arc_of}
use Rattle.plan_core.specs.declared.registers.Arc.{Arc}
use Rattle.reg_alloc.specs.Faults.{IsFileFault}
use Rattle.reg_alloc.specs.declared.fault.FileFault.{FileFault}
use Rattle.reg_alloc.specs.declared.fault.FileFault.TheVariants.{Memory}
use Rattle.reg_alloc.specs.Private.Files.{full_at, IsPlaced, IsFullFor}
use Rattle.reg_alloc.specs.Private.Placing.{AreAllottedBefore, AreRegistersOf}
use Rattle.reg_alloc.proofs.Steps.{zero_arc, full-at, placed-more, next-arc, entered, all-allotted, registers-more}
use Rattle.reg_alloc.proofs.allocator.registers_of.Goals as goal

pub loop-copy-init : goal.loop-copy-init
loop-copy-init c =
    let d = c.args.datapath.now in
    let arcs = c.args.arcs.now in
    let samples = c.args.circle.samples in
    let k = c.loop-arc.arc-index in
    let there : k < length arcs = omega (arith, c.loop-arc-test.true, c.loop-arc.auto.arc-index-end) in
    let is : slice_index_or arcs k zero_arc ≡ arc_of arcs k = get_or_default arcs k zero_arc no_arc there in
    let port = ap (λ (arc : Arc). arc.port) is in
    let new = c.enter.new.self.registers.items in
    record {
      count = ap (λ (rs : List ℕ). length rs) c.new-registers.ensures;
      port = c.enter.ensures.port;
      allotted = subst
          (λ (last : List ℕ).
          AreAllottedBefore d samples arcs (c.loop-arc.regs ++ last ∷ []) c.enter.new.self.port new k
          0) (sym c.new-registers.ensures)
          (subst (λ (p : PortRef). AreAllottedBefore d samples arcs (c.loop-arc.regs ++ [] ∷ []) p new k 0)
          (sym (c.enter.ensures.port ∙ port))
          (entered d samples arcs c.requires.allottable c.loop-arc.regs c.loop-arc.file.port
          c.loop-arc.file.registers.items new k there c.loop-arc.invariant.whole c.loop-arc.invariant.allotted
          (λ same. c.enter.ensures.same (same ∙ sym port))
          (λ differ. c.enter.ensures.other (λ same. differ (same ∙ port)))));
    }

pub returns-in_err-place-clause-fault : goal.returns-in_err-place-clause-fault
returns-in_err-place-clause-fault c =
    let d = c.args.datapath.now in
    let arcs = c.args.arcs.now in
    let samples = c.args.circle.samples in
    let k = c.loop-arc.arc-index in
    let copy = c.loop-copy.copy in
    let size = c.file_size-size.result in
    let there : k < length arcs = omega (arith, c.loop-arc-test.true, c.loop-arc.auto.arc-index-end) in
    let is : slice_index_or arcs k zero_arc ≡ arc_of arcs k = get_or_default arcs k zero_arc no_arc there in
    let port = ap (λ (arc : Arc). arc.port) is in
    let copies = ap (λ (arc : Arc). arc.copies) is in
    let fault = c.in_err-place.field-0.0 in
    let told : c.from_residual-in_err-place.result ≡ Err fault = search rules in
    subst (λ r. IfErr r (λ (f : FileFault). (f ≡ Memory) ⊎ IsFileFault d arcs f)) (sym told)
    (⊎_elim (λ (e : fault ≡ Memory). inl e)
    (λ (full : (fault ≡ full_at (slice_index_or arcs k zero_arc))
    × IsFullFor c.args.circle.period samples (slice_index_or arcs k zero_arc) copy size
    c.loop-copy.file.registers.items).
    inr (subst (λ (f : FileFault). IsFileFault d arcs f) (sym (full.0 ∙ ap full_at is))
    (record {
      unroll = samples;
      unroll_is = c.requires.samples;
      none = full-at d samples arcs c.requires.allottable (c.loop-arc.regs ++ c.loop-copy.registers ∷ [])
          c.loop-copy.file.registers.items k copy size there (omega (arith, c.loop-copy-test.true, copies))
          (c.file_size-size.ensures.size ∙ ap (λ (p : PortRef). file_size d p) port)
          (subst (λ (p : PortRef). AreAllottedBefore d samples arcs (c.loop-arc.regs ++ c.loop-copy.registers ∷ []) p
          c.loop-copy.file.registers.items k copy) (c.loop-copy.invariant.port ∙ port) c.loop-copy.invariant.allotted)
          (subst (λ (n : ℕ). IsFullFor n samples (arc_of arcs k) copy size c.loop-copy.file.registers.items)
          c.requires.period
          (subst (λ (arc : Arc). IsFullFor c.args.circle.period samples arc copy size c.loop-copy.file.registers.items)
          is
          full.1));
    })))
    c.in_err-place.ensures.fault)

pub loop-copy-preserved : goal.loop-copy-preserved
loop-copy-preserved c =
    let d = c.args.datapath.now in
    let arcs = c.args.arcs.now in
    let samples = c.args.circle.samples in
    let k = c.loop-arc.arc-index in
    let copy = c.loop-copy.copy in
    let size = c.file_size-size.result in
    let there : k < length arcs = omega (arith, c.loop-arc-test.true, c.loop-arc.auto.arc-index-end) in
    let is : slice_index_or arcs k zero_arc ≡ arc_of arcs k = get_or_default arcs k zero_arc no_arc there in
    let port = ap (λ (arc : Arc). arc.port) is in
    let copies = ap (λ (arc : Arc). arc.copies) is in
    let old = c.loop-copy.file.registers.items in
    let new = c.place.new.self.registers.items in
    let more = c.loop-copy.registers ++ c.in_ok-place.field-0 ∷ [] in
    record {
      count = ap (λ (rs : List ℕ). length rs) c.in_ok-push.ensures.ok
          ∙ length_push c.loop-copy.registers c.in_ok-place.field-0
          ∙ ap (λ (n : ℕ). n + 1) c.loop-copy.invariant.count;
      port = c.place.ensures.port ∙ c.loop-copy.invariant.port;
      allotted = subst
          (λ (last : List ℕ).
          AreAllottedBefore d samples arcs (c.loop-arc.regs ++ last ∷ []) c.place.new.self.port new k
          (copy + 1)) (sym c.in_ok-push.ensures.ok)
          (subst (λ (p : PortRef). AreAllottedBefore d samples arcs (c.loop-arc.regs ++ more ∷ []) p new k (copy + 1))
          (sym (c.place.ensures.port ∙ c.loop-copy.invariant.port ∙ port))
          (placed-more d samples arcs c.requires.allottable c.loop-arc.regs c.loop-copy.registers old new k copy size
          c.in_ok-place.field-0 there c.loop-arc.invariant.whole.count c.loop-copy.invariant.count
          (omega (arith, c.loop-copy-test.true, copies))
          (c.file_size-size.ensures.size ∙ ap (λ (p : PortRef). file_size d p) port)
          (subst
          (λ (p : PortRef). AreAllottedBefore d samples arcs (c.loop-arc.regs ++ c.loop-copy.registers ∷ []) p old
          k copy) (c.loop-copy.invariant.port ∙ port) c.loop-copy.invariant.allotted)
          (subst (λ (n : ℕ). IsPlaced n samples (arc_of arcs k) copy size old c.in_ok-place.field-0 new)
          c.requires.period
          (subst (λ (arc : Arc). IsPlaced c.args.circle.period samples arc copy size old c.in_ok-place.field-0 new) is
          c.in_ok-place.ensures.placed))));
    }

pub loop-arc-preserved : goal.loop-arc-preserved
loop-arc-preserved c =
    let d = c.args.datapath.now in
    let arcs = c.args.arcs.now in
    let samples = c.args.circle.samples in
    let k = c.loop-arc.arc-index in
    let there : k < length arcs = omega (arith, c.loop-arc-test.true, c.loop-arc.auto.arc-index-end) in
    let is : slice_index_or arcs k zero_arc ≡ arc_of arcs k = get_or_default arcs k zero_arc no_arc there in
    let port = ap (λ (arc : Arc). arc.port) is in
    let copies = ap (λ (arc : Arc). arc.copies) is in
    let last = c.loop-copy.registers in
    record {
      whole = subst (λ (rs : List (List ℕ)). AreRegistersOf arcs rs c.loop-copy.file.port (k + 1))
          (sym c.in_ok-push-2.ensures.ok)
          (registers-more arcs c.loop-arc.regs last c.loop-arc.file.port c.loop-copy.file.port k
          c.loop-arc.invariant.whole
          (omega (arith, c.loop-copy.invariant.count, c.loop-copy-test.false, c.loop-copy.auto.copy-end, copies))
          (c.loop-copy.invariant.port ∙ port));
      allotted = subst
          (λ (rs : List (List ℕ)). AreAllottedBefore d samples arcs rs c.loop-copy.file.port
          c.loop-copy.file.registers.items (k + 1) 0) (sym c.in_ok-push-2.ensures.ok)
          (next-arc d samples arcs c.requires.allottable (c.loop-arc.regs ++ last ∷ []) c.loop-copy.file.port
          c.loop-copy.file.registers.items k c.loop-copy.copy (omega (arith, c.loop-copy-test.false, copies))
          c.loop-copy.invariant.allotted);
    }

pub returns-clause-registers : goal.returns-clause-registers
returns-clause-registers c =
    all-allotted c.args.datapath.now c.args.circle.samples c.args.arcs.now c.requires.allottable c.loop-arc.regs
    c.loop-arc.file.port c.loop-arc.file.registers.items c.loop-arc.arc-index
    (omega (arith, c.loop-arc-test.false, c.loop-arc.auto.arc-index-end)) c.requires.samples
    c.loop-arc.invariant.whole c.loop-arc.invariant.allotted
