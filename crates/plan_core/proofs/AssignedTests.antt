-- Tests of the binding of nodes to units.
use Rattle.std.proofs.Common.{◌≡◌, refl, ℕ, ◌<◌, ◌≤◌, List, length}
use Rattle.datapath.specs.declared.types.Datapath.{Datapath}
use Rattle.signal_graph.specs.declared.graph.Node.{Node}
use Rattle.plan_core.specs.Hardware.{kind_of, port_of, IsOfKind, HasRoute}
use Rattle.plan_core.specs.Operands.{node_of, Reads}
use Rattle.plan_core.specs.Assigned.{unit_in, IsForRam, IsRightUnit, IsCandidate, load_of, IsUnitFor, AreUnits}
use Rattle.plan_core.specs.Assigned.{IsAssigned}
use Rattle.plan_core.specs.declared.schedule.Assigned.{Assigned}
use Rattle.plan_core.proofs.Tests.{Test, lt, le, eq, like, both, implies, below}
use Rattle.plan_core.proofs.OperandTests.{is_of_kind, is_for_ram, has_route, each_operand, each_consumer, read_too}

abbrev pub is_right_unit : (d : Datapath) (node : Node) (u : ℕ) → Test (IsRightUnit d node u)
is_right_unit d node u =
    like {P = IsOfKind d (kind_of node.op) u × IsForRam d node.op node.ram u}
    (λ h. record { kind = h.0; ram = h.1 }) (λ h. (h.kind, h.ram))
    (both (is_of_kind d (kind_of node.op) u) (is_for_ram d node.op node.ram u))

module _ (d : Datapath) (nodes : List Node) (units : List ℕ) where
  abbrev Operands : ℕ → ℕ → Type 0
  Operands v u = (q x : ℕ) → Reads nodes v q x → x < v → HasRoute d (unit_in units x) (port_of u q)

  abbrev Itself : ℕ → ℕ → Type 0
  Itself v u = (q x : ℕ) → Reads nodes v q x → x ≡ v → HasRoute d u (port_of u q)

  abbrev Consumers : ℕ → ℕ → Type 0
  Consumers v u = (c q : ℕ) → Reads nodes c q v → c < v → HasRoute d u (port_of (unit_in units c) q)

  abbrev pub is_candidate : (v u : ℕ) → Test (IsCandidate d nodes units v u)
  is_candidate v u =
      like {P = IsRightUnit d (node_of nodes v) u × (Operands v u × (Itself v u × Consumers v u))}
      (λ h. record {
        right = h.0;
        operands = λ q x less r. h.1.0 q x r less;
        itself = λ q r. h.1.1.0 q v r refl;
        consumers = λ c q less r. h.1.1.1 c q r less;
      })
      (λ h. (
        h.right,
        (
          λ q x r less. h.operands q x less r,
          (λ q x r e. h.itself q (read_too nodes v q x v e r), λ c q r less. h.consumers c q less r),
        ),
      ))
      (both (is_right_unit d (node_of nodes v) u)
      (both (each_operand nodes v (λ q x. implies (lt x v) (λ z. has_route d (unit_in units x) (port_of u q))))
      (both (each_operand nodes v (λ q x. implies (eq x v) (λ z. has_route d u (port_of u q))))
      (each_consumer nodes v (λ c q. implies (lt c v) (λ z. has_route d u (port_of (unit_in units c) q)))))))

  abbrev Fewest : ℕ → ℕ → Type 0
  Fewest v u =
      (w : ℕ) → w < length d.units → IsCandidate d nodes units v w
      → (load_of d nodes units v u ≤ load_of d nodes units v w)
      × (load_of d nodes units v w ≡ load_of d nodes units v u → u ≤ w)

  abbrev pub is_unit_for : (v u : ℕ) → Test (IsUnitFor d nodes units v u)
  is_unit_for v u =
      like {P = ((node_of nodes v).width ≤ d.word) × (IsCandidate d nodes units v u × Fewest v u)}
      (λ h. record {
        width = h.0;
        candidate = h.1.0;
        fewest = λ w can. (h.1.1 w can.right.kind.there can).0;
        first = λ w can e. (h.1.1 w can.right.kind.there can).1 e;
      })
      (λ h. (h.width, (h.candidate, λ w less can. (h.fewest w can, λ e. h.first w can e))))
      (both (le (node_of nodes v).width d.word)
      (both (is_candidate v u)
      (below (length d.units) (λ w. implies (is_candidate v w)
      (λ z. both (le (load_of d nodes units v u) (load_of d nodes units v w))
      (implies (eq (load_of d nodes units v w) (load_of d nodes units v u)) (λ y. le u w)))))))

abbrev pub is_assigned : (d : Datapath) (a : Assigned) → Test (IsAssigned d a)
is_assigned d a =
    like {P = (length a.units ≡ length a.lowered.nodes) × AreUnits d a.lowered.nodes a.units}
    (λ h. record { count = h.0; units = h.1 }) (λ h. (h.count, h.units))
    (both (eq (length a.units) (length a.lowered.nodes)) (below (length a.units)
    (λ v. is_unit_for d a.lowered.nodes a.units v (unit_in a.units v))))
