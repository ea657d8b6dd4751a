-- The long delays of a graph's nodes are determined, and so is the next delay line, where each node stands once in the
-- lowered list.
use Rattle.std.proofs.Common.{◌≡◌, sym, subst, ap, ◌∙◌, arith, ℕ, ◌+◌, ◌<◌, ◌≤◌, le_antisymm, List, [], slice_index_or}
use Rattle.std.proofs.Common.{All, Contains, ext_get_or}
use Rattle.std.proofs.lemmas.List.Kept.{AllPairs-from_increasing}
use Rattle.datapath.specs.declared.types.Datapath.{Datapath}
use Rattle.signal_graph.specs.declared.graph.Graph.{Graph}
use Rattle.plan_core.specs.Lowered.{IsReadAgo, AreLongDelays, Origin, own, IsNumber, used, HasRoom, IsNextLine}
use Rattle.plan_core.specs.Lowered.{IsLoweredOver}
use Rattle.plan_core.specs.declared.delay_lines.Line.{Line}
use Rattle.plan_core.specs.declared.delay_lines.Lowered.{Lowered}
use Rattle.plan_core.proofs.Sorted.{same_order}
use Rattle.plan_core.proofs.OneHeight.{neither_less}

never_both_ways : (x y : ℕ) → x < y → y < x → ⊥
never_both_ways x y h k = omega arith

delay-in : (g : Graph) (hold v : ℕ) (xs ys : List ℕ)
    → AreLongDelays g hold v xs
    → AreLongDelays g hold v ys
    → (k : ℕ)
    → Contains xs k
    → Contains ys k
delay-in g hold v xs ys h e k (i, less, is) =
    let read = subst (λ (n : ℕ). IsReadAgo g v n) is (h.read i k less) in
    let long = subst (λ (n : ℕ). hold < n) is (h.long i k less) in
    subst (λ (n : ℕ). Contains ys n) read.delay
    (e.every read.consumer read.port read.reads (subst (λ (n : ℕ). hold < n) (sym read.delay) long))

pub one_long : (g : Graph) (hold v : ℕ) (xs ys : List ℕ)
    → AreLongDelays g hold v xs
    → AreLongDelays g hold v ys
    → xs ≡ ys
one_long g hold v xs ys h e =
    same_order (λ (x y : ℕ). x < y) never_both_ways xs ys (AllPairs-from_increasing xs h.rise)
    (AllPairs-from_increasing ys e.rise) (λ k. delay-in g hold v xs ys h e k) (λ k. delay-in g hold v ys xs e h k)

-- all long delays
pub one_delays :
    (hold spare : ℕ) (g : Graph) (d : Datapath) (l m : Lowered) (x : IsLoweredOver hold spare g d l)
    (y : IsLoweredOver hold spare g d m)
    → x.delays ≡ y.delays
one_delays hold spare g d l m x y =
    let count = x.delay_count in
    ext_get_or [] x.delays y.delays (x.delay_count ∙ sym y.delay_count)
    (λ v less. one_long g hold v (slice_index_or x.delays v []) (slice_index_or y.delays v [])
    (x.long v (omega arith)) (y.long v (omega arith)))

line_from : (a b : Line) → a.node ≡ b.node → a.ram ≡ b.ram → a.offset ≡ b.offset → a.depth ≡ b.depth → a ≡ b
line_from a b node ram offset depth =
    ap (λ (n : ℕ). record { node = n; ram = a.ram; offset = a.offset; depth = a.depth }) node
    ∙ ap (λ (n : ℕ). record { node = b.node; ram = n; offset = a.offset; depth = a.depth }) ram
    ∙ ap (λ (n : ℕ). record { node = b.node; ram = b.ram; offset = n; depth = a.depth }) offset
    ∙ ap (λ (n : ℕ). record { node = b.node; ram = b.ram; offset = b.offset; depth = n }) depth

-- each node stands once in the lowered list
abbrev pub StandsOnce : List (List ℕ) → Type 0
StandsOnce delays = (o : Origin) (i j : ℕ) → IsNumber delays o i → IsNumber delays o j → i ≡ j

pub one_next : (spare : ℕ) (d : Datapath) (delays : List (List ℕ))
    → StandsOnce delays
    → (lines : List Line) (v : ℕ) (long : List ℕ) (a b : Line)
    → IsNextLine spare d delays lines v long a
    → IsNextLine spare d delays lines v long b
    → a ≡ b
one_next spare d delays once lines v long a b x y =
    let depth = le_antisymm (most a.depth y.longest x.depth) (most b.depth x.longest y.depth) in
    let ram = neither_less a.ram b.ram
    (λ less. y.first a.ram less (subst (λ (k : ℕ). HasRoom spare d lines (k + spare) a.ram) depth x.room))
    (λ less. x.first b.ram less (subst (λ (k : ℕ). HasRoom spare d lines (k + spare) b.ram) (sym depth) y.room)) in
    line_from a b (once (own v) a.node b.node x.node y.node) ram
    (x.offset ∙ ap (λ (r : ℕ). used spare lines r) ram ∙ sym y.offset) depth
  where
    most : {bound : ℕ} (k : ℕ) → All (λ (n : ℕ). n ≤ bound) long → Contains long k → k ≤ bound
    most {bound} k all (i, less, is) = subst (λ (n : ℕ). n ≤ bound) is (all i k less)
