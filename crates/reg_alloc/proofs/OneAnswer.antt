-- Lifetimes have one choice of registers or one fault, and not both.
use Rattle.std.proofs.Common.{◌≡◌, ◌⊎◌, ◌∙◌, ap, subst, inl, inr, ⊎_elim, ℕ, List, Result, Ok, Err}
use Rattle.operations.specs.declared.units.PortRef.{PortRef}
use Rattle.datapath.specs.declared.types.Datapath.{Datapath}
use Rattle.plan_core.specs.Hardware.{port_of}
use Rattle.plan_core.specs.FirstFit.{IsFirstFit}
use Rattle.plan_core.specs.Refusals.{IsWithoutRegister}
use Rattle.plan_core.specs.declared.registers.Arc.{Arc}
use Rattle.plan_core.specs.declared.registers.Registers.{Registers}
use Rattle.plan_core.proofs.OneArcs.{one_unroll}
use Rattle.plan_core.proofs.OneFit.{one_fit}
use Rattle.plan_core.proofs.OneFullFile.{fit_or_full, one_full}
use Rattle.reg_alloc.specs.Allottable.{AreAllottable, AreAllotted}
use Rattle.reg_alloc.specs.Faults.{IsFileFault}
use Rattle.reg_alloc.specs.declared.fault.FileFault.{FileFault}
use Rattle.reg_alloc.specs.declared.fault.FileFault.TheVariants.{Full, Memory}

module _ (d : Datapath) (arcs : List Arc) (is : AreAllottable d arcs) where
  one_choice : (rs qs : List (List ℕ)) → AreAllotted d arcs rs → AreAllotted d arcs qs → rs ≡ qs
  one_choice rs qs x y =
      let unroll = one_unroll arcs y.unroll x.unroll y.unroll_is x.unroll_is in
      one_fit d.period x.unroll arcs is.order rs qs x.fit
      (subst (λ (n : ℕ). IsFirstFit d.period n arcs qs) unroll y.fit)

  pub allotted_or_not : (regs : List (List ℕ))
      → AreAllotted d arcs regs
      → (fault : FileFault)
      → IsFileFault d arcs fault
      → ⊥
  allotted_or_not regs x (Full unit port node) y =
      fit_or_full d x.unroll arcs is.order regs x.fit x.sizes (port_of unit port) node
      (subst (λ (n : ℕ). IsWithoutRegister d n arcs (port_of unit port) node)
      (one_unroll arcs y.unroll x.unroll y.unroll_is x.unroll_is) y.none)
  allotted_or_not regs x Memory y = y

  pub one_fault : (f g : FileFault) → IsFileFault d arcs f → IsFileFault d arcs g → f ≡ g
  one_fault (Full s p u) (Full t q v) x y =
      let same = one_full d x.unroll arcs is.order (port_of s p) (port_of t q) u v x.none
      (subst (λ (n : ℕ). IsWithoutRegister d n arcs (port_of t q) v)
      (one_unroll arcs y.unroll x.unroll y.unroll_is x.unroll_is) y.none) in
      ap (λ (port : PortRef). Full port.unit port.port u) same.0 ∙ ap (λ (node : ℕ). Full t q node) same.1
  one_fault (Full s p u) Memory x y = absurd y
  one_fault Memory g x y = absurd x

  module _ (r : Result Registers FileFault) where
    pub ok_found : (rs : Registers)
        → r ≡ Ok rs
        → AreAllotted d arcs rs.regs
        → (qs : Registers)
        → AreAllotted d arcs qs.regs
        → (r ≡ Ok qs) ⊎ (r ≡ Err Memory)
    ok_found rs same rs_are qs qs_are =
        inl (same
        ∙ ap (λ (regs : List (List ℕ)). Ok (record { regs = regs })) (one_choice rs.regs qs.regs rs_are qs_are))

    pub ok_refused : (rs : Registers)
        → AreAllotted d arcs rs.regs
        → (fault : FileFault)
        → IsFileFault d arcs fault
        → (r ≡ Err fault) ⊎ (r ≡ Err Memory)
    ok_refused rs rs_are fault h = absurd (allotted_or_not rs.regs rs_are fault h)

    pub err_found : (f : FileFault)
        → r ≡ Err f
        → (f ≡ Memory) ⊎ IsFileFault d arcs f
        → (qs : Registers)
        → AreAllotted d arcs qs.regs
        → (r ≡ Ok qs) ⊎ (r ≡ Err Memory)
    err_found f same why qs qs_are =
        ⊎_elim (λ (e : f ≡ Memory). inr (same ∙ ap (λ (x : FileFault). Err x) e))
        (λ (h : IsFileFault d arcs f). absurd (allotted_or_not qs.regs qs_are f h)) why

    pub err_refused : (f : FileFault)
        → r ≡ Err f
        → (f ≡ Memory) ⊎ IsFileFault d arcs f
        → (fault : FileFault)
        → IsFileFault d arcs fault
        → (r ≡ Err fault) ⊎ (r ≡ Err Memory)
    err_refused f same why fault h =
        ⊎_elim (λ (e : f ≡ Memory). inr (same ∙ ap (λ (x : FileFault). Err x) e))
        (λ (g : IsFileFault d arcs f). inl (same ∙ ap (λ (x : FileFault). Err x) (one_fault f fault g h))) why
