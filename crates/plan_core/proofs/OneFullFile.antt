-- Lifetimes have registers or a first copy without one, and not both.
use Rattle.std.proofs.Common.{◌≡◌, sym, ap, ◌∙◌, arith, ℕ, ◌<◌, inl, inr, ⊎_elim, List, length}
use Rattle.std.specs.List.{AllPairs}
use Rattle.std.proofs.lemmas.Bool.{cases_order}
use Rattle.operations.specs.declared.units.PortRef.{PortRef}
use Rattle.datapath.specs.declared.types.Datapath.{Datapath}
use Rattle.plan_core.specs.Hardware.{file_size}
use Rattle.plan_core.specs.Arcs.{arc_of, IsArcBefore}
use Rattle.plan_core.specs.FirstFit.{register_of, IsListedBefore, IsFirstFit}
use Rattle.plan_core.specs.Refusals.{HasRegister, HaveRegistersBefore, IsWithoutRegister}
use Rattle.plan_core.specs.declared.registers.Arc.{Arc}
use Rattle.plan_core.proofs.OneFit.{listed_trans, free-same, agree}

module _ (d : Datapath) (unroll : ℕ) (arcs : List Arc) (order : AllPairs IsArcBefore arcs) where
  -- a copy without a register has none in another choice either
  refuted : (port : PortRef) (node : ℕ) (x : IsWithoutRegister d unroll arcs port node) (regs : List (List ℕ))
      → HaveRegistersBefore d unroll arcs regs x.k x.i
      → HasRegister d unroll arcs regs x.k x.i
      → ⊥
  refuted port node x regs before has =
      x.full (register_of regs x.k x.i) has.within
      (free-same d.period unroll arcs order regs x.regs x.k x.i (register_of regs x.k x.i) x.there
      (agree d.period unroll arcs order regs x.regs x.k x.i (λ l j _ copy listed. (before l j listed copy).first)
      (λ l j _ copy listed. (x.before l j listed copy).first)) has.first.free)

  pub fit_or_full : (regs : List (List ℕ))
      → IsFirstFit d.period unroll arcs regs
      → ((k i : ℕ)
      → k < length arcs
      → i < (arc_of arcs k).copies
      → register_of regs k i < file_size d (arc_of arcs k).port)
      → (port : PortRef) (node : ℕ)
      → IsWithoutRegister d unroll arcs port node
      → ⊥
  fit_or_full regs fit sizes port node x =
      refuted port node x regs (λ l j listed copy. has l j (there l j listed) copy) (has x.k x.i x.there x.copy)
    where
      has : (l j : ℕ) → l < length arcs → j < (arc_of arcs l).copies → HasRegister d unroll arcs regs l j
      has l j l_there copy = record { first = fit.each l j l_there copy; within = sizes l j l_there copy }

      there : (l j : ℕ) → IsListedBefore l j x.k x.i → l < length arcs
      there l j (inl h) = let k_there = x.there in omega arith
      there l j (inr h) = let k_there = x.there in let e = h.0 in omega arith

  not_before :
      (p q : PortRef) (u v : ℕ) (x : IsWithoutRegister d unroll arcs p u) (y : IsWithoutRegister d unroll arcs q v)
      → IsListedBefore x.k x.i y.k y.i
      → ⊥
  not_before p q u v x y listed =
      refuted p u x y.regs (λ l j first copy. y.before l j (listed_trans l j x.k x.i y.k y.i first listed) copy)
      (y.before x.k x.i listed x.copy)

  pub one_full : (p q : PortRef) (u v : ℕ)
      → IsWithoutRegister d unroll arcs p u
      → IsWithoutRegister d unroll arcs q v
      → (p ≡ q) × (u ≡ v)
  one_full p q u v x y =
      ⊎_elim (λ (e : x.k ≡ y.k). (
        x.port_is ∙ ap (λ (k : ℕ). (arc_of arcs k).port) e ∙ sym y.port_is,
        x.node_is ∙ ap (λ (k : ℕ). (arc_of arcs k).node) e ∙ sym y.node_is,
      ))
      (λ other. absurd (⊎_elim (λ (less : x.k < y.k). not_before p q u v x y (inl less))
      (λ (less : y.k < x.k). not_before q p v u y x (inl less)) other)) (cases_order x.k y.k)
