-- Short lifetimes can get registers.
use Rattle.std.proofs.Common.{◌≡◌, inl, inr, ⊎_elim, ℕ, ◌+◌, ◌/◌, ◌<◌, ◌≤◌, sym, subst, arith, List, [], ◌∷◌, ◌++◌}
use Rattle.std.proofs.Common.{length, get_or}
use Rattle.std.specs.List.{All}
use Rattle.std.proofs.lemmas.Bool.{cases_lt}
use Rattle.std.proofs.lemmas.List.Elements.{All-get_or, All-nil, All-push, All-weaker}
use Rattle.std.proofs.lemmas.List.Quantifiers.{all_pairs_push}
use Rattle.operations.specs.declared.units.PortRef.{PortRef}
use Rattle.datapath.specs.declared.types.Datapath.{Datapath}
use Rattle.plan_core.specs.Arcs.{IsArcBefore}
use Rattle.plan_core.specs.declared.registers.Arc.{Arc}
use Rattle.plan_core.proofs.Tests.{no_pairs}
use Rattle.reg_alloc.specs.Allottable.{AreDifferent, IsAllottable, AreAllottable}

-- the lifetime is of an earlier node, and begins where two begin in each cycle
pub record IsShort (port : PortRef) (node : ℕ) (arc : Arc) : Type 0 where
  pub before : arc.node < node
  pub write : arc.w ≡ arc.node / 2
  pub port_is : arc.port ≡ port

-- the lifetimes of all nodes before this one
pub record AreShort (d : Datapath) (port : PortRef) (node : ℕ) (arcs : List Arc) : Type 0 where
  pub allottable : AreAllottable d arcs
  pub each : All (IsShort port node) arcs

pub none_short : (d : Datapath) (port : PortRef) → AreShort d port 0 []
none_short d port = record {
  allottable = record { order = no_pairs IsArcBefore; once = no_pairs AreDifferent; each = All-nil (IsAllottable d) };
  each = All-nil (IsShort port 0);
}

later : (m n : ℕ) → m < n → m / 2 ≤ n / 2
later m n less = omega (arith, less)

before : (port : PortRef) (node : ℕ) (a b : Arc)
    → IsShort port node a
    → b.node ≡ node
    → b.w ≡ node / 2
    → b.port ≡ port
    → IsArcBefore a b
before port node a b short node_is write port_is =
    inr (
      subst (λ (p : PortRef). a.port ≡ p) (sym port_is) short.port_is,
      ⊎_elim
          (λ (less : a.w < b.w). inl less)
          (λ (no : b.w ≤ a.w).
          let less = short.before in
          let mine = short.write in
          inr (omega (arith, no, less, mine, write, node_is, later a.node node less), omega (arith, less, node_is)))
          (cases_lt a.w b.w),
    )

differs : (port : PortRef) (node : ℕ) (a b : Arc) → IsShort port node a → b.node ≡ node → AreDifferent a b
differs port node a b short node_is same =
    let less = short.before in
    let one = same.node in
    omega (arith, less, one, node_is)

pub short_pushed : (d : Datapath) (port : PortRef) (node : ℕ) (arcs : List Arc) (arc : Arc)
    → AreShort d port node arcs
    → IsAllottable d arc
    → arc.node ≡ node
    → arc.w ≡ node / 2
    → arc.port ≡ port
    → AreShort d port (node + 1) (arcs ++ arc ∷ [])
short_pushed d port node arcs arc short allottable node_is write port_is =
    let at : (k : ℕ) (default : Arc) → k < length arcs → IsShort port node (get_or arcs k default)
    = λ k default below. All-get_or (IsShort port node) arcs k default below short.each in
    record {
      allottable = record {
        order = all_pairs_push IsArcBefore arcs arc short.allottable.order
            (λ k default below.
            before port node (get_or arcs k default) arc (at k default below) node_is write port_is);
        once = all_pairs_push AreDifferent arcs arc short.allottable.once
            (λ k default below. differs port node (get_or arcs k default) arc (at k default below) node_is);
        each = All-push (IsAllottable d) arcs arc short.allottable.each allottable;
      };
      each = All-push (IsShort port (node + 1)) arcs arc
          (All-weaker (IsShort port node) (IsShort port (node + 1))
          (λ a is.
          let less = is.before in record { before = omega (arith, less); write = is.write; port_is = is.port_is })
          arcs short.each)
          (record { before = omega (arith, node_is); write = omega (arith, write, node_is); port_is = port_is });
    }
