-- The loads of a delay line stand behind its store, with nothing but addresses and loads between, and are placed
-- before it.
use Rattle.std.proofs.Common.{◌≡◌, ◌≢◌, refl, sym, ap, ◌∙◌, subst, arith, ℕ, zero, suc, ◌+◌, ◌-◌, ◌<◌, ◌≤◌, ◌⊎◌, inl}
use Rattle.std.proofs.Common.{inr, ⊎_elim, List, [], ◌∷◌, length, slice_index_or, pos, true, false, Bool}
use Rattle.std.specs.Prelude.{slice_get, Some, All, Contains}
use Rattle.std.proofs.lemmas.Bool.{cases_order, true≢false}
use Rattle.std.proofs.lemmas.Option.{slice_get_within, slice_get-get_or, get_or_from_slice_get, none-some}
use Rattle.std.proofs.lemmas.List.Elements.{All-contains, All-weaker}
use Rattle.operations.specs.Ranges.{to_nat}
use Rattle.micro_image.specs.Operations.{gives}
use Rattle.fix_word.specs.declared.operation.Op.{Op}
use Rattle.fix_word.specs.declared.operation.Op.TheVariants as op
use Rattle.datapath.specs.Allowed.{IsDatapath}
use Rattle.datapath.specs.declared.types.Datapath.{Datapath}
use Rattle.signal_graph.specs.GraphRules.{IsGraph}
use Rattle.signal_graph.specs.declared.graph.Edge.{Edge}
use Rattle.signal_graph.specs.declared.graph.Graph.{Graph}
use Rattle.plan_core.specs.Hardware.{no_unit, latency_on, cells_on}
use Rattle.plan_core.specs.Operands.{node_of, edge_of, delay_at, Reads}
use Rattle.plan_core.specs.Assigned.{unit_in}
use Rattle.plan_core.specs.Heights.{ReadsNow, latency_of, AreHeights, IsHeight}
use Rattle.plan_core.specs.Lowered.{Origin, own, address, store, load, origins, origins_of, stored, IsNumber, IsReadAgo}
use Rattle.plan_core.specs.Lowered.{IsLoweredOver}
use Rattle.plan_core.specs.Stages.{IsLoadOf}
use Rattle.plan_core.specs.declared.schedule.Assigned.{Assigned}
use Rattle.plan_core.specs.declared.plan.Plan.{Plan}
use Rattle.plan_core.specs.declared.delay_lines.Line.{Line}
use Rattle.plan_core.proofs.OneHeight.{live_of}
use Rattle.plan_core.proofs.OneLowered.{StandsOnce}
use Rattle.plan_core.proofs.Readers.{reader_there}
use Rattle.plan_soundness.specs.Parts.{lines_of, line_at}
use Rattle.plan_soundness.specs.Overlap.{one_by_one}
use Rattle.plan_soundness.specs.Memory.{LoadsFrom, StoresTo}
use Rattle.plan_soundness.specs.Units.{AreOnRightUnits}
use Rattle.plan_soundness.proofs.FromLowered as from_lowered
use Rattle.plan_soundness.proofs.SoundLowered.{AreSoundLines}
use Rattle.plan_soundness.proofs.Origins.{first_of, number_of, own_number, own_once, store_once, store_number, belongs}
use Rattle.delay_memory.specs.Private.Delays.{delays_at}
use Rattle.delay_memory.proofs.OneLine.{Found, found, stands_once}
use Rattle.delay_memory.proofs.Stored.{stored_once}
use Rattle.overlap_plan.specs.Lines.{op_at, IsOfLine, IsBehind, AreCells, LoadsBehind, address_of}

-- a plan with nothing but its nodes and their units
abbrev pub bare : Assigned → Plan
bare a = record {
  assigned = a;
  schedule = record { slots = [] };
  arcs = [];
  registers = record { regs = [] };
  unroll = 1;
  inputs = [];
  outs = 0;
}

-- a load stands behind the node, the address of its newest word and the store
load_late : (u : ℕ) (long : List ℕ) (j w ago : ℕ) → slice_get (origins_of u long) j ≡ Some (load w ago) → 2 < j
load_late u [] zero w ago e = absurd (cc)
load_late u [] (suc j) w ago e = absurd (none-some (load w ago) e)
load_late u (k ∷ ks) zero w ago e = absurd (cc)
load_late u (k ∷ ks) (suc zero) w ago e = absurd (cc)
load_late u (k ∷ ks) (suc (suc zero)) w ago e = absurd (cc)
load_late u (k ∷ ks) (suc (suc (suc j))) w ago e = omega arith

module _ (g : Graph) (d : Datapath) (path : IsDatapath d) (sound : IsGraph g) {hold spare : ℕ} (some : 0 < spare)
    (a : Assigned) (low : IsLoweredOver hold spare g d a.lowered) (bound : AreOnRightUnits d a) where
  abbrev ds : List (List ℕ)
  ds = low.delays

  abbrev p : Plan
  p = bare a

  -- what is behind the third node of a piece is an address or a load
  of_line : (u j i : ℕ)
      → u < length ds
      → 2 < j
      → j < length (origins_of u (delays_at ds u))
      → i ≡ first_of ds u + j
      → IsOfLine (op_at a.lowered.nodes i)
  of_line u j i there late within at =
      by (slice_index_or (origins_of u (delays_at ds u)) j (own 0))
      (slice_get-get_or (origins_of u (delays_at ds u)) j (own 0) within)
    where
      number : (o : Origin) → slice_get (origins_of u (delays_at ds u)) j ≡ Some o → IsNumber ds o i
      number o is =
          subst (IsNumber ds o) (sym at)
          (number_of ds u (delays_at ds u) j o (slice_get-get_or ds u [] there) is)

      by : (o : Origin) → slice_get (origins_of u (delays_at ds u)) j ≡ Some o → IsOfLine (op_at a.lowered.nodes i)
      by (own v) is = absurd (let first = (belongs u (delays_at ds u) j (own v) is).is_in in omega (arith, first, late))
      by (address v ago) is = inl (from_lowered.address_op g d p sound low bound v ago i (number (address v ago) is))
      by (store v) is =
          absurd (let third = (belongs u (delays_at ds u) j (store v) is).is_in.0 in omega (arith, third, late))
      by (load v ago) is = inr (from_lowered.load_op g d p sound low bound v ago i (number (load v ago) is))

  -- a load and the store of its word
  module _ (v x ago : ℕ) (is : IsLoadOf ds v x ago) where
    abbrev u : ℕ
    u = is.node

    at : Found ds (load u ago) x
    at = found ds (load u ago) x is.its_load

    piece_is : u ≡ at.v
    piece_is = (belongs at.v (delays_at ds at.v) at.j (load u ago) at.part).node

    among : Contains (delays_at ds at.v) ago
    among = (belongs at.v (delays_at ds at.v) at.j (load u ago) at.part).is_in

    store_at : v ≡ first_of ds u + 2
    store_at = store_once ds u v is.its_store

    store_is : op_at a.lowered.nodes v ≡ op.Store
    store_is = from_lowered.store_op g d p sound low bound u v is.its_store

    store_there : v < length a.lowered.nodes
    store_there = from_lowered.number_below g d p sound low bound (store u) v is.its_store

    load_there : x < length a.lowered.nodes
    load_there = from_lowered.number_below g d p sound low bound (load u ago) x is.its_load

    pub behind_of : IsBehind a.lowered.nodes v x
    behind_of = record {
      store = store_is;
      load = from_lowered.load_op g d p sound low bound u ago x is.its_load;
      there = load_there;
      behind = omega (arith, store_at, at.at, same_first, late);
      between = λ n after before.
          of_line at.v (n - first_of ds at.v) n at.less (omega (arith, store_at, same_first, after))
          (omega (arith, before, at.at, within)) (omega (arith, store_at, same_first, after));
    }
      where
        same_first : first_of ds u ≡ first_of ds at.v
        same_first = ap (first_of ds) piece_is

        late : 2 < at.j
        late = load_late at.v (delays_at ds at.v) at.j u ago at.part

        within : at.j < length (origins_of at.v (delays_at ds at.v))
        within = slice_get_within (origins_of at.v (delays_at ds at.v)) at.j (load u ago) at.part

    -- Their line.

    of_load : (l : ℕ) × LoadsFrom d p x l ago × IsNumber ds (own u) (line_at p l).node
    of_load = from_lowered.loads_from g d p sound low bound u ago x is.its_load

    sound_memory : AreSoundLines one_by_one d p
    sound_memory = from_lowered.sound_lines g d p sound low bound one_by_one (omega (arith, some))

    of_store : (l : ℕ) × StoresTo d p v l
    of_store = sound_memory.stores v store_there store_is

    abbrev l : ℕ
    l = of_load.0

    abbrev m : ℕ
    m = of_store.0

    number_of_line : (line_at p m).node ≡ (line_at p l).node
    number_of_line =
        let own_at = own_once ds u (line_at p l).node of_load.2 in
        omega (arith, own_at, store_at, of_store.1.its_number)

    one_line : m ≡ l
    one_line =
        let in-l = of_load.1.there in
        let in-m = of_store.1.there in
        let for-l = from_lowered.line_for g d p sound low bound l in-l in
        let for-m = from_lowered.line_for g d p sound low bound m in-m in
        let same : for-m.v ≡ for-l.v =
        own_same for-m.v for-l.v
        (sym for-m.next.node ∙ ap (slice_get (origins ds)) number_of_line ∙ for-l.next.node) in
        stored_once ds m l (omega (arith, in-m, low.line_count)) (omega (arith, in-l, low.line_count))
        (ap (λ (x : ℕ × List ℕ). x.0)
        (get_or_from_slice_get (stored ds) m (for-m.v, for-m.long) (0, []) for-m.stored_at)
        ∙ same
        ∙ sym (ap (λ (x : ℕ × List ℕ). x.0)
        (get_or_from_slice_get (stored ds) l (for-l.v, for-l.long) (0, []) for-l.stored_at)))
      where
        own_same : (v w : ℕ) → Some (own v) ≡ Some (own w) → v ≡ w
        own_same v w e = cc

    line_same : line_at p m ≡ line_at p l
    line_same = ap (line_at p) one_line

    -- a ram has as many cells as a file may ask for
    few_cells : cells_on d (line_at p l).ram ≤ 65536
    few_cells =
        let ram = (from_lowered.line_for g d p sound low bound l of_load.1.there).next.room.is_ram in
        ((path.units (line_at p l).ram no_unit ram.there).cells ram.kind).1

    pub cells_of : AreCells a.lowered.nodes v x ago
    cells_of =
        let line = sound_memory.lines l of_load.1.there in
        record {
          offset = (line_at p l).offset;
          newest = of_store.1.address.argument ∙ ap (λ (line : Line). pos line.offset) line_same;
          older = of_load.1.address.argument;
          some = of_load.1.before;
          most = omega (arith, of_load.1.depth, line.depth);
          cell = omega (arith, line.room, few_cells);
        }

    -- A store has no consumer, and a load has one of the same sample.

    store_height : (height : ℕ → ℕ) → AreHeights d a height → height v ≡ latency_of d a v
    store_height height hs = by (hs v store_there).reached
      where
        by :
            (height v ≡ latency_of d a v)
            ⊎ ((c : ℕ) × (q : ℕ) × ReadsNow a.lowered.nodes c q v × (height v ≡ latency_of d a v + height c))
            → height v ≡ latency_of d a v
        by (inl e) = e
        by (inr r) =
            let reads = r.2.reads in
            let result = (from_lowered.sound_lowered g d p sound low bound).result r.0 r.1 v
            (reader_there a.lowered.nodes r.0 r.1 v reads) reads in
            absurd (true≢false (sym result ∙ ap gives store_is))

    abbrev ago_reader : IsReadAgo g at.v ago
    ago_reader =
        All-contains (IsReadAgo g at.v) (delays_at ds at.v) ago
        (low.long at.v (omega (arith, at.less, low.delay_count))).read among

    longer : hold < ago
    longer =
        All-contains (λ (k : ℕ). hold < k) (delays_at ds at.v) ago
        (low.long at.v (omega (arith, at.less, low.delay_count))).long among

    once : StandsOnce ds
    once =
        stands_once ds (λ w less. (low.long w (omega (arith, less, low.delay_count))).rise)
        (λ w less. All-weaker (λ (k : ℕ). hold < k) (λ (k : ℕ). 0 < k) (λ k long. omega (arith, long)) (delays_at ds w)
        (low.long w (omega (arith, less, low.delay_count))).long)

    -- the node that reads the load in the place of the delayed word
    now_reader : (c : ℕ) × ReadsNow a.lowered.nodes c ago_reader.port x
    now_reader =
        let c : ℕ = ago_reader.consumer in
        let q : ℕ = ago_reader.port in
        let in-c : c < length g.nodes = from_lowered.graph_reader g c q ago_reader.reads.port in
        let in-ds : c < length ds = omega (arith, in-c, low.delay_count) in
        let number = own_number ds c (delays_at ds c) (slice_get-get_or ds c [] in-ds) in
        let i : ℕ = first_of ds c in
        let count = from_lowered.own_count g d p sound low bound c i number in
        let port : q < length (node_of a.lowered.nodes i).edges = omega (arith, count, ago_reader.reads.port) in
        let edge = from_lowered.own_edge g d p sound low bound c i q number port in
        let to = edge.loaded (omega (arith, ago_reader.delay, longer)) in
        let here : IsNumber ds (load u ago) (edge_of (node_of a.lowered.nodes i) q).node =
        subst (λ (o : Origin). IsNumber ds o (edge_of (node_of a.lowered.nodes i) q).node)
        (ap (λ (n : ℕ). load n (delay_at g.nodes c q)) (ago_reader.reads.node ∙ sym piece_is)
        ∙ ap (λ (n : ℕ). load u n) ago_reader.delay) to.0 in (
          i,
          record {
            reads = record { port = port; node = once (load u ago) _ x here is.its_load };
            now = to.1;
          },
        )

    pub higher_of : (height : ℕ → ℕ) → AreHeights d a height → height v < height x
    higher_of height hs =
        let c : ℕ = now_reader.0 in
        let above = (hs x load_there).above c ago_reader.port now_reader.1 in
        let alone = (hs c (reader_there a.lowered.nodes c ago_reader.port x now_reader.1.reads)).alone in
        let unit : unit_in a.units v ≡ unit_in a.units x =
        of_store.1.unit ∙ ap (λ (line : Line). line.ram) line_same ∙ sym of_load.1.unit in
        let latency = ap (latency_on d) unit in
        omega (arith, above, alone, latency, live_of d path (unit_in a.units c), store_height height hs)

    pub loads_behind : LoadsBehind a.lowered.nodes v x ago
    loads_behind = record { behind = behind_of; cells = cells_of }

  -- A load behind a store is one of its word.
  module _ (v x : ℕ) (is : IsBehind a.lowered.nodes v x) where
    abbrev its : (w : ℕ) × (k : ℕ) × IsNumber ds (load w k) x
    its = from_lowered.load_of g d p sound low bound x is.there is.load

    its_piece : Found ds (load its.0 its.1) x
    its_piece = found ds (load its.0 its.1) x its.2

    its_store : IsNumber ds (store its.0) (first_of ds its.0 + 2)
    its_store =
        let belongs = belongs its_piece.v (delays_at ds its_piece.v) its_piece.j (load its.0 its.1) its_piece.part in
        subst (λ (w : ℕ). IsNumber ds (store w) (first_of ds w + 2)) (sym belongs.node)
        (store_number ds its_piece.v (delays_at ds its_piece.v) (slice_get-get_or ds its_piece.v [] its_piece.less)
        (omega (arith, belongs.is_in.1)))

    its_load : IsLoadOf ds (first_of ds its.0 + 2) x its.1
    its_load = record { node = its.0; its_store = its_store; its_load = its.2 }

    not_both : (o : Op) → o ≡ op.Store → IsOfLine o → ⊥
    not_both o e (inl f) = absurd (cc)
    not_both o e (inr f) = absurd (cc)

    -- the store is the one of the piece
    store_same : v ≡ first_of ds its.0 + 2
    store_same =
        let there = behind_of (first_of ds its.0 + 2) x its.1 its_load in
        ⊎_elim
        (λ same. same)
        (λ other.
        absurd (⊎_elim
        (λ (less : v < first_of ds its.0 + 2). not_both _ there.store (is.between _ less there.behind))
        (λ (more : first_of ds its.0 + 2 < v). not_both _ is.store (there.between v more is.behind))
        other))
        (cases_order v (first_of ds its.0 + 2))

    pub load_of_behind : IsLoadOf ds v x its.1
    load_of_behind = subst (λ (n : ℕ). IsLoadOf ds n x its.1) (sym store_same) its_load

    -- the cells tell how many samples before it was stored
    pub load_of_cells : (ago : ℕ) → AreCells a.lowered.nodes v x ago → IsLoadOf ds v x ago
    load_of_cells ago cells =
        let known = cells_of v x its.1 load_of_behind in
        let same : its.1 ≡ ago =
        let offset = ap to_nat (sym cells.newest ∙ known.newest) in
        let older = ap to_nat (sym cells.older ∙ known.older) in
        omega (arith, offset, older) in
        subst (IsLoadOf ds v x) same load_of_behind

  -- What is asked of the graph that is scheduled.
  pub cells_behind : (v x : ℕ) → IsBehind a.lowered.nodes v x → (ago : ℕ) × AreCells a.lowered.nodes v x ago
  cells_behind v x is =
      let load = load_of_behind v x is in ((its v x is).1, cells_of v x (its v x is).1 load)

  pub higher_behind : (v x : ℕ)
      → IsBehind a.lowered.nodes v x
      → (height : ℕ → ℕ)
      → AreHeights d a height
      → height v < height x
  higher_behind v x is height hs = higher_of v x (its v x is).1 (load_of_behind v x is) height hs
