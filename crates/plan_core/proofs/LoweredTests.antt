-- Tests of long delays and of delay lines.
use Rattle.std.proofs.Common.{◌≡◌, arith, ℕ, ◌+◌, ◌<◌, ◌≤◌, List, [], length, slice_index, slice_index_or, All}
use Rattle.std.proofs.Common.{Contains}
use Rattle.std.specs.List.Sorted.{IsStrictlyIncreasing}
use Rattle.operations.specs.declared.units.Kind.TheVariants as kind
use Rattle.datapath.specs.declared.types.Datapath.{Datapath}
use Rattle.signal_graph.specs.declared.graph.Edge.{Edge}
use Rattle.signal_graph.specs.declared.graph.Graph.{Graph}
use Rattle.plan_core.specs.Hardware.{IsOfKind, cells_on}
use Rattle.plan_core.specs.Operands.{delay_at, Reads}
use Rattle.plan_core.specs.Lowered.{IsReadAgo, AreLongDelays, own, load, IsNumber, used, HasRoom, IsLoweredEdge}
use Rattle.plan_core.specs.declared.delay_lines.Line.{Line}
use Rattle.plan_core.proofs.Tests.{Test, lt, le, eq, like, both, implies, below, each_of, contains}
use Rattle.plan_core.proofs.OperandTests.{is_of_kind, each_consumer, some_consumer}

abbrev rises : (xs : List ℕ) → Test (IsStrictlyIncreasing xs)
rises xs =
    like (λ h k less. h k (omega arith) less) (λ h k less next. h k next)
    (below {P = λ k. k + 1 < length xs → slice_index xs k < slice_index xs (k + 1)} (length xs)
    (λ k. implies (lt (k + 1) (length xs)) (λ z. lt (slice_index xs k) (slice_index xs (k + 1)))))

abbrev is_read_ago : (g : Graph) (v ago : ℕ) → Test (IsReadAgo g v ago)
is_read_ago g v ago =
    like {P = (c : ℕ) × (q : ℕ) × Reads g.nodes c q v × (delay_at g.nodes c q ≡ ago)}
    (λ h. record { consumer = h.0; port = h.1; reads = h.2; delay = h.3 }) (λ h. (h.consumer, h.port, h.reads, h.delay))
    (some_consumer g.nodes v (λ c q. eq (delay_at g.nodes c q) ago))

abbrev Every : Graph → ℕ → ℕ → List ℕ → Type 0
Every g hold v delays =
    (c q : ℕ) → Reads g.nodes c q v → hold < delay_at g.nodes c q → Contains delays (delay_at g.nodes c q)

abbrev pub are_long_delays : (g : Graph) (hold v : ℕ) (delays : List ℕ) → Test (AreLongDelays g hold v delays)
are_long_delays g hold v delays =
    like {P = IsStrictlyIncreasing delays × (All (λ (k : ℕ). hold < k) delays
    × (All (λ (k : ℕ). IsReadAgo g v k) delays × Every g hold v delays))}
    (λ h. record { rise = h.0; long = h.1.0; read = h.1.1.0; every = h.1.1.1 })
    (λ h. (h.rise, (h.long, (h.read, h.every))))
    (both (rises delays)
    (both (each_of delays (λ (k : ℕ). lt hold k))
    (both (each_of delays (λ (k : ℕ). is_read_ago g v k))
    (each_consumer g.nodes v (λ c q. implies (lt hold (delay_at g.nodes c q))
    (λ z. contains eq delays (delay_at g.nodes c q)))))))

-- the long delays of all nodes
abbrev pub are_all_long : (g : Graph) (hold : ℕ) (delays : List (List ℕ))
    → Test ((v : ℕ) → v < length g.nodes → AreLongDelays g hold v (slice_index_or delays v []))
are_all_long g hold delays = below (length g.nodes) (λ v. are_long_delays g hold v (slice_index_or delays v []))

abbrev pub has_room : (spare : ℕ) (d : Datapath) (lines : List Line) (cells ram : ℕ)
    → Test (HasRoom spare d lines cells ram)
has_room spare d lines cells ram =
    like {P = IsOfKind d kind.Ram ram × (used spare lines ram + cells ≤ cells_on d ram)}
    (λ h. record { is_ram = h.0; room = h.1 }) (λ h. (h.is_ram, h.room))
    (both (is_of_kind d kind.Ram ram) (le (used spare lines ram + cells) (cells_on d ram)))

pub held_edge : (hold : ℕ) (delays : List (List ℕ)) (edge old : Edge)
    → old.delay ≤ hold
    → IsNumber delays (own old.node) edge.node
    → edge.delay ≡ old.delay
    → IsLoweredEdge hold delays edge old
held_edge hold delays edge old short is same = record { held = λ h. (is, same); loaded = λ h. absurd (omega arith) }

pub loaded_edge : (hold : ℕ) (delays : List (List ℕ)) (edge old : Edge)
    → hold < old.delay
    → IsNumber delays (load old.node old.delay) edge.node
    → edge.delay ≡ 0
    → IsLoweredEdge hold delays edge old
loaded_edge hold delays edge old long is now = record { held = λ h. absurd (omega arith); loaded = λ h. (is, now) }
