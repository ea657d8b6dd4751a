use Rattle.std.proofs.Common.{rules, ◌≡◌, ◌∙◌, ◌⊎◌, inr, sym, ap, subst, arith, ℕ, ◌+◌, ◌<◌, ◌≤◌, ◌∷◌, ◌++◌, [], List}
use Rattle.std.proofs.Common.{length, Err}
use Rattle.std.specs.Prelude.{IfErr}
use Rattle.std.proofs.lemmas.List.{get_or_default, length_push}
use Rattle.plan_core.specs.Arcs.{no_arc, arc_of}
use Rattle.plan_core.specs.declared.registers.Arc.{Arc}
use Rattle.reg_alloc.proofs.Steps.{zero_arc}
use Rattle.given_registers.specs.Faults.{IsRegisterFault}
use Rattle.given_registers.specs.Private.Allotting.{AreTaken, AreCopies, HaveRegistersBefore, IsItsRegister, IsFullFor}
use Rattle.given_registers.specs.Private.Allotting.{AreRowsOf}
use Rattle.given_registers.specs.declared.circle.Allotted.{Allotted}
use Rattle.given_registers.specs.declared.fault.RegisterFault.{RegisterFault}
use Rattle.given_registers.specs.declared.fault.RegisterFault.TheVariants.{Memory}
use Rattle.given_registers.proofs.Rows.{rows_more}
use Rattle.given_registers.proofs.Steps.{taken_copies, full_now, have_more, taken_more, have_next, taken_next}
use Rattle.given_registers.proofs.Steps.{have_new, taken_new}
use Rattle.given_registers.proofs.around.add_arc.Goals as goal

pub loop-copy-init : goal.loop-copy-init
loop-copy-init c =
    let d = c.args.datapath.now in
    let arcs = c.args.arcs.now in
    let samples = c.args.circle.samples in
    let given = c.args.given.now in
    let regs = c.args.regs.now in
    let items = c.args.allotted.now.items in
    let before = c.requires.before in
    record {
      count = ap (λ (rs : List ℕ). length rs) c.new-registers.ensures;
      have = subst (λ (last : List ℕ). HaveRegistersBefore d samples given arcs (regs ++ last ∷ []) c.args.k 0)
          (sym c.new-registers.ensures)
          (have_new d samples given arcs c.requires.allottable regs c.args.k items before.rows.count before.have);
      taken = subst (λ (last : List ℕ). AreTaken given arcs (regs ++ last ∷ []) c.args.k 0 items)
          (sym c.new-registers.ensures)
          (taken_new d samples given arcs c.requires.allottable regs c.args.k items before.rows.count before.taken);
    }

pub register_for-requires-clause-copies : goal.register_for-requires-clause-copies
register_for-requires-clause-copies c =
    let arcs = c.args.arcs.now in
    subst (λ (xs : List Allotted). AreCopies arcs xs) (sym c.as_slice.ensures.value)
    (taken_copies c.args.datapath.now c.args.circle.samples c.args.given.now arcs c.requires.allottable
    (c.args.regs.now ++ c.loop-copy.registers ∷ []) c.args.k c.loop-copy.copy c.loop-copy.allotted.items
    c.requires.there c.loop-copy.invariant.taken)

pub returns-in_err-register-clause-fault : goal.returns-in_err-register-clause-fault
returns-in_err-register-clause-fault c =
    let d = c.args.datapath.now in
    let arcs = c.args.arcs.now in
    let samples = c.args.circle.samples in
    let given = c.args.given.now in
    let k = c.args.k in
    let copy = c.loop-copy.copy in
    let items = c.loop-copy.allotted.items in
    let is = get_or_default arcs k zero_arc no_arc c.requires.there in
    let copies = ap (λ (arc : Arc). arc.copies) is in
    let fault = c.in_err-register.field-0.0 in
    let told : c.from_residual.result ≡ Err fault = search rules in
    let h = c.in_err-register.ensures.fault in
    subst (λ r. IfErr r (λ (f : RegisterFault). (f ≡ Memory) ⊎ IsRegisterFault d given arcs f)) (sym told)
    (inr (subst (λ (f : RegisterFault). IsRegisterFault d given arcs f) (sym h.0)
    (record {
      unroll = samples;
      unroll_is = c.requires.samples;
      none = full_now d samples given arcs c.requires.allottable c.args.regs.now c.loop-copy.registers k copy items
          c.requires.before.rows.count c.loop-copy.invariant.count c.requires.there
          (omega (arith, c.loop-copy-test.true, copies)) c.loop-copy.invariant.have c.loop-copy.invariant.taken
          c.requires.can
          (subst (λ (xs : List Allotted). IsFullFor d samples given arcs xs k copy) c.as_slice.ensures.value h.1);
    })))

pub loop-copy-preserved : goal.loop-copy-preserved
loop-copy-preserved c =
    let d = c.args.datapath.now in
    let arcs = c.args.arcs.now in
    let samples = c.args.circle.samples in
    let given = c.args.given.now in
    let k = c.args.k in
    let regs = c.args.regs.now in
    let last = c.loop-copy.registers in
    let copy = c.loop-copy.copy in
    let items = c.loop-copy.allotted.items in
    let register = c.in_ok-register.register in
    let is = get_or_default arcs k zero_arc no_arc c.requires.there in
    let copies = ap (λ (arc : Arc). arc.copies) is in
    let copy_there : copy < (arc_of arcs k).copies = omega (arith, c.loop-copy-test.true, copies) in
    let its : IsItsRegister d samples given arcs items k copy register =
    subst (λ (xs : List Allotted). IsItsRegister d samples given arcs xs k copy register) c.as_slice.ensures.value
    c.in_ok-register.ensures.register in
    let one : Allotted = record { arc = k; copy = copy; register = register } in
    record {
      count = ap (λ (rs : List ℕ). length rs) c.in_ok-push.ensures.ok ∙ length_push last register
          ∙ ap (λ (n : ℕ). n + 1) c.loop-copy.invariant.count;
      have = subst (λ (new : List ℕ). HaveRegistersBefore d samples given arcs (regs ++ new ∷ []) k (copy + 1))
          (sym c.in_ok-push.ensures.ok)
          (have_more d samples given arcs c.requires.allottable regs last k copy items c.requires.before.rows.count
          c.loop-copy.invariant.count c.requires.there copy_there c.loop-copy.invariant.have
          c.loop-copy.invariant.taken register its);
      taken = subst
          (λ (new : List ℕ). AreTaken given arcs (regs ++ new ∷ []) k (copy + 1) c.push-in-loop-copy.new.self.items)
          (sym c.in_ok-push.ensures.ok)
          (subst (λ (xs : List Allotted). AreTaken given arcs (regs ++ (last ++ register ∷ []) ∷ []) k (copy + 1) xs)
          (sym c.in_ok-push-2.ensures.items)
          (taken_more d samples given arcs c.requires.allottable regs last k copy items c.requires.before.rows.count
          c.loop-copy.invariant.count c.requires.there copy_there c.loop-copy.invariant.have
          c.loop-copy.invariant.taken register its));
    }

pub returns-clause-more : goal.returns-clause-more
returns-clause-more c =
    let d = c.args.datapath.now in
    let arcs = c.args.arcs.now in
    let samples = c.args.circle.samples in
    let given = c.args.given.now in
    let k = c.args.k in
    let regs = c.args.regs.now in
    let last = c.loop-copy.registers in
    let copy = c.loop-copy.copy in
    let items = c.loop-copy.allotted.items in
    let is = get_or_default arcs k zero_arc no_arc c.requires.there in
    let copies = ap (λ (arc : Arc). arc.copies) is in
    let all : (arc_of arcs k).copies ≤ copy = omega (arith, c.loop-copy-test.false, copies) in
    let new = sym c.in_ok-push-3.ensures.ok in
    record {
      rows = subst (λ (rs : List (List ℕ)). AreRowsOf arcs (k + 1) rs) new
          (rows_more arcs regs last k c.requires.before.rows
          (omega (arith, all, c.loop-copy.invariant.count, c.loop-copy.auto.copy-end, copies)));
      have = subst (λ (rs : List (List ℕ)). HaveRegistersBefore d samples given arcs rs (k + 1) 0) new
          (have_next d samples given arcs c.requires.allottable (regs ++ last ∷ []) k copy items all
          c.loop-copy.invariant.have);
      taken = subst (λ (rs : List (List ℕ)). AreTaken given arcs rs (k + 1) 0 items) new
          (taken_next d samples given arcs c.requires.allottable (regs ++ last ∷ []) k copy items all
          c.loop-copy.invariant.taken);
    }
