-- Tests over units, routes and operands.
use Rattle.std.proofs.Common.{◌≡◌, refl, sym, subst, ap, ◌∙◌, ℕ, zero, suc, ◌<◌, List, length, slice_index_or, Contains}
use Rattle.fix_word.specs.declared.operation.Op.{Op}
use Rattle.fix_word.specs.declared.operation.Op.TheVariants as op
use Rattle.operations.specs.declared.units.Kind.{Kind}
use Rattle.operations.specs.declared.units.Kind.TheVariants as kind
use Rattle.operations.specs.declared.units.PortRef.{PortRef}
use Rattle.datapath.specs.declared.types.Datapath.{Datapath}
use Rattle.signal_graph.specs.declared.graph.Node.{Node}
use Rattle.plan_core.specs.Hardware.{unit_of, tie_of, no_bus, IsOfKind, IsAcuOf, IsRoute, HasRoute}
use Rattle.plan_core.specs.Operands.{node_of, edge_of, Reads}
use Rattle.plan_core.specs.Assigned.{IsForRam}
use Rattle.plan_core.proofs.Readers.{reader_there}
use Rattle.plan_core.proofs.Tests.{Test, trivial, lt, eq, like, both, implies, below, some_below, contains}

abbrev pub number : Kind → ℕ
number kind.Input = 0
number kind.Output = 1
number kind.Rom = 2
number kind.Alu = 3
number kind.Mul = 4
number kind.Sel = 5
number kind.Ram = 6
number kind.Acu = 7

abbrev numbered : ℕ → Kind
numbered zero = kind.Input
numbered (suc zero) = kind.Output
numbered (suc (suc zero)) = kind.Rom
numbered (suc (suc (suc zero))) = kind.Alu
numbered (suc (suc (suc (suc zero)))) = kind.Mul
numbered (suc (suc (suc (suc (suc zero))))) = kind.Sel
numbered (suc (suc (suc (suc (suc (suc zero)))))) = kind.Ram
numbered (suc (suc (suc (suc (suc (suc (suc n))))))) = kind.Acu

number-back : (k : Kind) → numbered (number k) ≡ k
number-back kind.Input = refl
number-back kind.Output = refl
number-back kind.Rom = refl
number-back kind.Alu = refl
number-back kind.Mul = refl
number-back kind.Sel = refl
number-back kind.Ram = refl
number-back kind.Acu = refl

pub same_number : (k l : Kind) → number k ≡ number l → k ≡ l
same_number k l e = sym (number-back k) ∙ ap numbered e ∙ number-back l

abbrev pub same_kind : (k l : Kind) → Test (k ≡ l)
same_kind k l = like (same_number k l) (λ e. ap number e) (eq (number k) (number l))

pub port_from : (p q : PortRef) → (p.unit ≡ q.unit) × (p.port ≡ q.port) → p ≡ q
port_from p q h = ap (λ (u : ℕ). record { unit = u; port = p.port }) h.0 ∙ ap
    (λ (i : ℕ). record { unit = q.unit; port = i }) h.1

abbrev pub same_port : (p q : PortRef) → Test (p ≡ q)
same_port p q =
    like (port_from p q) (λ e. (ap (λ (r : PortRef). r.unit) e, ap (λ (r : PortRef). r.port) e))
    (both (eq p.unit q.unit) (eq p.port q.port))

abbrev pub is_of_kind : (d : Datapath) (k : Kind) (u : ℕ) → Test (IsOfKind d k u)
is_of_kind d k u =
    like {P = (u < length d.units) × ((unit_of d u).kind ≡ k)} (λ h. record { there = h.0; kind = h.1 })
    (λ h. (h.there, h.kind))
    (both (lt u (length d.units)) (same_kind (unit_of d u).kind k))

abbrev pub is_acu_of : (d : Datapath) (ram u : ℕ) → Test (IsAcuOf d ram u)
is_acu_of d ram u =
    like {P = IsOfKind d kind.Acu u × (tie_of d u ≡ ram)} (λ h. record { acu = h.0; tie = h.1 }) (λ h. (h.acu, h.tie))
    (both (is_of_kind d kind.Acu u) (eq (tie_of d u) ram))

abbrev pub is_route : (d : Datapath) (u : ℕ) (port : PortRef) (b : ℕ) → Test (IsRoute d u port b)
is_route d u port b =
    like
    {P = (b < length d.buses) × (Contains (slice_index_or d.buses b no_bus).from u
    × Contains (slice_index_or d.buses b no_bus).to port)}
    (λ h. record { there = h.0; driver = h.1.0; taker = h.1.1 }) (λ h. (h.there, (h.driver, h.taker)))
    (both (lt b (length d.buses)) (both (contains eq (slice_index_or d.buses b no_bus).from u)
    (contains same_port (slice_index_or d.buses b no_bus).to port)))

abbrev pub has_route : (d : Datapath) (u : ℕ) (port : PortRef) → Test (HasRoute d u port)
has_route d u port =
    like (λ h. (h.0, h.2)) (λ h. (h.0, h.1.there, h.1)) (some_below {P = λ b. IsRoute d u port b} (length d.buses)
    (λ b. is_route d u port b))

abbrev pub is_for_ram : (d : Datapath) (o : Op) (ram u : ℕ) → Test (IsForRam d o ram u)
is_for_ram d op.Load ram u = eq u ram
is_for_ram d op.Store ram u = eq u ram
is_for_ram d op.Addr ram u = eq (tie_of d u) ram
is_for_ram d _ ram u = trivial

abbrev pub reads : (nodes : List Node) (c q v : ℕ) → Test (Reads nodes c q v)
reads nodes c q v =
    like {P = (q < length (node_of nodes c).edges) × ((edge_of (node_of nodes c) q).node ≡ v)}
    (λ h. record { port = h.0; node = h.1 }) (λ h. (h.port, h.node))
    (both (lt q (length (node_of nodes c).edges)) (eq (edge_of (node_of nodes c) q).node v))

pub operands_to : (nodes : List Node) (c : ℕ) (P : ℕ → ℕ → Type 0)
    → ((q : ℕ) → q < length (node_of nodes c).edges → P q (edge_of (node_of nodes c) q).node)
    → (q x : ℕ)
    → Reads nodes c q x
    → P q x
operands_to nodes c P h q x r = subst (λ (y : ℕ). P q y) r.node (h q r.port)

-- each operand of node c
abbrev pub each_operand : {P : ℕ → ℕ → Type 0} (nodes : List Node) (c : ℕ)
    → ((q x : ℕ) → Test (P q x))
    → Test ((q x : ℕ) → Reads nodes c q x → P q x)
each_operand {P} nodes c t =
    like (operands_to nodes c P) (λ h q less. h q (edge_of (node_of nodes c) q).node
    (record { port = less; node = refl }))
    (below (length (node_of nodes c).edges) (λ q. t q (edge_of (node_of nodes c) q).node))

pub read_too : (nodes : List Node) (c q x v : ℕ) → x ≡ v → Reads nodes c q x → Reads nodes c q v
read_too nodes c q x v e r = record { port = r.port; node = r.node ∙ e }

-- each port that reads node v
abbrev pub each_consumer : {P : ℕ → ℕ → Type 0} (nodes : List Node) (v : ℕ)
    → ((c q : ℕ) → Test (P c q))
    → Test ((c q : ℕ) → Reads nodes c q v → P c q)
each_consumer {P} nodes v t =
    like
    (λ h c q r. h c (reader_there nodes c q v r) q v r refl)
    (λ h c less q x r e. h c q (read_too nodes c q x v e r))
    (below (length nodes) (λ c. each_operand {P = λ q x. x ≡ v → P c q} nodes c (λ q x. implies (eq x v) (λ u. t c q))))

-- some port that reads node v
abbrev pub some_consumer : {P : ℕ → ℕ → Type 0} (nodes : List Node) (v : ℕ)
    → ((c q : ℕ) → Test (P c q))
    → Test ((c : ℕ) × (q : ℕ) × Reads nodes c q v × P c q)
some_consumer {P} nodes v t =
    like
    (λ h. (h.0, h.2.0, h.2.2.0, h.2.2.1))
    (λ h. (h.0, reader_there nodes h.0 h.1 v h.2, (h.1, h.2.port, (h.2, h.3))))
    (some_below (length nodes) (λ c. some_below (length (node_of nodes c).edges)
    (λ q. both (reads nodes c q v) (t c q))))
