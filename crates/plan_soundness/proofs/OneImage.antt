-- A plan has one image at most.
use Rattle.std.proofs.Common.{◌≡◌, ℕ, ◌+◌, ◌-◌, ◌*◌, ◌/◌, ◌%◌, ◌<◌, ◌≤◌, ◌⊎◌, inl, inr, ⊎_elim, refl, sym, ap, ◌∙◌}
use Rattle.std.proofs.Common.{subst, arith, Bool, true, false, true≢false, List, [], length, slice_index_or, map}
use Rattle.std.proofs.Common.{Contains, ext_get_or, ℤ, pos}
use Rattle.std.specs.Ordering.{int_eq}
use Rattle.std.proofs.lemmas.Bool.{cases_lt}
use Rattle.std.proofs.lemmas.Bool.Decides.{Decides-int_eq}
use Rattle.std.proofs.lemmas.List.{length-map, get_or-map}
use Rattle.std.proofs.Math.Nat.{mod-lt, mod-eq_of_lt}
use Rattle.fix_word.specs.declared.types.Format.{Format}
use Rattle.fix_word.specs.declared.operation.Op.{Op}
use Rattle.operations.specs.declared.units.Kind.{Kind}
use Rattle.operations.specs.declared.units.PortRef.{PortRef}
use Rattle.datapath.specs.declared.types.Datapath.{Datapath}
use Rattle.plan_core.specs.Hardware.{port_of}
use Rattle.plan_core.specs.declared.plan.Plan.{Plan}
use Rattle.plan_core.proofs.Sorted.{same_order}
use Rattle.micro_image.specs.declared.image.Enable.{Enable}
use Rattle.micro_image.specs.declared.image.Issue.{Issue}
use Rattle.micro_image.specs.declared.image.Take.{Take}
use Rattle.micro_image.specs.declared.image.UnitDesc.{UnitDesc}
use Rattle.micro_image.specs.declared.image.Word.{Word}
use Rattle.micro_image.specs.declared.image.Image.{Image}
use Rattle.micro_image.specs.Fields.{Microprogram, microprogram_of, nth, no_word, no_unit}
use Rattle.micro_image.specs.Log.{Register, Cell, initial}
use Rattle.micro_image.specs.Valid.{EnableBefore, TakeBefore}
use Rattle.plan_soundness.specs.Parts.{nodes_of, node_at, edge_at, arc_at, IsCopy}
use Rattle.plan_soundness.specs.ImageOf.{IsUnitOf, IsIssueOf, IsWordOf, IsImageOf, IsPreloadOf, IsCellPreload}
use Rattle.plan_soundness.specs.ImageOf.{StartsWith}
use Rattle.plan_soundness.specs.Samples.{past}
use Rattle.plan_soundness.specs.Feasible.{IsFeasible}
use Rattle.plan_soundness.proofs.Ordinary.{delay_in}
use Rattle.plan_soundness.proofs.FromImage.{described, copy_read}
use Rattle.plan_soundness.proofs.Samples.{below_count, split}

-- Values with equal fields.

issue_from : (a b : Issue)
    → a.unit ≡ b.unit
    → a.op ≡ b.op
    → a.fmt ≡ b.fmt
    → a.arg ≡ b.arg
    → a.regs ≡ b.regs
    → a ≡ b
issue_from a b unit op fmt arg regs =
    ap (λ (n : ℕ). record { unit = n; op = a.op; fmt = a.fmt; arg = a.arg; regs = a.regs }) unit
    ∙ ap (λ (o : Op). record { unit = b.unit; op = o; fmt = a.fmt; arg = a.arg; regs = a.regs }) op
    ∙ ap (λ (f : Format). record { unit = b.unit; op = b.op; fmt = f; arg = a.arg; regs = a.regs }) fmt
    ∙ ap (λ (z : ℤ). record { unit = b.unit; op = b.op; fmt = b.fmt; arg = z; regs = a.regs }) arg
    ∙ ap (λ (rs : List ℕ). record { unit = b.unit; op = b.op; fmt = b.fmt; arg = b.arg; regs = rs }) regs

word_from : (a b : Word) → a.issues ≡ b.issues → a.enables ≡ b.enables → a.takes ≡ b.takes → a ≡ b
word_from a b issues enables takes =
    ap (λ (xs : List Issue). record { issues = xs; enables = a.enables; takes = a.takes }) issues
    ∙ ap (λ (xs : List Enable). record { issues = b.issues; enables = xs; takes = a.takes }) enables
    ∙ ap (λ (xs : List Take). record { issues = b.issues; enables = b.enables; takes = xs }) takes

abbrev unit_with : Kind → (latency gap : ℕ) → List (List ℤ) → List ℤ → ℕ → UnitDesc
unit_with kind latency gap files cells ram =
    record { kind = kind; latency = latency; gap = gap; files = files; cells = cells; ram = ram }

unit_from : (a b : UnitDesc)
    → a.kind ≡ b.kind
    → a.latency ≡ b.latency
    → a.gap ≡ b.gap
    → a.files ≡ b.files
    → a.cells ≡ b.cells
    → a.ram ≡ b.ram
    → a ≡ b
unit_from a b kind latency gap files cells ram =
    ap (λ x. unit_with x a.latency a.gap a.files a.cells a.ram) kind
    ∙ ap (λ x. unit_with b.kind x a.gap a.files a.cells a.ram) latency
    ∙ ap (λ x. unit_with b.kind b.latency x a.files a.cells a.ram) gap
    ∙ ap (λ x. unit_with b.kind b.latency b.gap x a.cells a.ram) files
    ∙ ap (λ x. unit_with b.kind b.latency b.gap b.files x a.ram) cells
    ∙ ap (λ x. unit_with b.kind b.latency b.gap b.files b.cells x) ram

abbrev image_with : (period unroll : ℕ) → List ℕ → ℕ → List UnitDesc → ℕ → List Word → Image
image_with period unroll inputs outs units buses words = record {
  period = period;
  unroll = unroll;
  inputs = inputs;
  outs = outs;
  units = units;
  buses = buses;
  words = words;
}

image_from : (a b : Image)
    → a.period ≡ b.period
    → a.unroll ≡ b.unroll
    → a.inputs ≡ b.inputs
    → a.outs ≡ b.outs
    → a.units ≡ b.units
    → a.buses ≡ b.buses
    → a.words ≡ b.words
    → a ≡ b
image_from a b period unroll inputs outs units buses words =
    ap (λ x. image_with x a.unroll a.inputs a.outs a.units a.buses a.words) period
    ∙ ap (λ x. image_with b.period x a.inputs a.outs a.units a.buses a.words) unroll
    ∙ ap (λ x. image_with b.period b.unroll x a.outs a.units a.buses a.words) inputs
    ∙ ap (λ x. image_with b.period b.unroll b.inputs x a.units a.buses a.words) outs
    ∙ ap (λ x. image_with b.period b.unroll b.inputs b.outs x a.buses a.words) units
    ∙ ap (λ x. image_with b.period b.unroll b.inputs b.outs b.units x a.words) buses
    ∙ ap (λ x. image_with b.period b.unroll b.inputs b.outs b.units b.buses x) words

-- two numbers are equal or not
int_cases : (y z : ℤ) → (y ≡ z) ⊎ (y ≡ z → ⊥)
int_cases y z = by (int_eq y z) refl
  where
    by : (b : Bool) → int_eq y z ≡ b → (y ≡ z) ⊎ (y ≡ z → ⊥)
    by true e = inl ((Decides-int_eq y z).0 e)
    by false e = inr (λ same. true≢false (sym ((Decides-int_eq y z).1 same) ∙ e))

never_both_issues : (a b : Issue) → a.unit < b.unit → b.unit < a.unit → ⊥
never_both_issues a b less more = omega (arith, less, more)

never_both_enables : (a b : Enable) → EnableBefore a b → EnableBefore b a → ⊥
never_both_enables a b before after = omega (arith, before, after)

never_both_takes : (a b : Take) → TakeBefore a b → TakeBefore b a → ⊥
never_both_takes a b before after = omega (arith, before, after)

module _ (d : Datapath) (p : Plan) (plan : IsFeasible d p) where
  -- a node has one issue in a sample
  one_issue : (v n : ℕ) (a b : Issue)
      → v < length (nodes_of p)
      → n < p.unroll
      → IsIssueOf d p v n a
      → IsIssueOf d p v n b
      → a ≡ b
  one_issue v n a b in-v in-n is-a is-b =
      issue_from a b (is-a.unit ∙ sym is-b.unit) (is-a.op ∙ sym is-b.op) (is-a.fmt ∙ sym is-b.fmt)
      (is-a.arg ∙ sym is-b.arg)
      (ext_get_or 0 a.regs b.regs (is-a.count ∙ sym is-b.count)
      (λ q below. same q (cases_lt q (length (node_at p v).edges))))
    where
      same : (q : ℕ)
          → (q < length (node_at p v).edges) ⊎ (length (node_at p v).edges ≤ q)
          → nth a.regs q 0 ≡ nth b.regs q 0
      same q (inr unread) = is-a.unread q unread ∙ sym (is-b.unread q unread)
      same q (inl read) =
          let through = plan.read v q in-v read in
          let k : ℕ = through.0 in
          let life = (plan.arcs k through.1.there).lifetime in
          let i : ℕ = (past + n - (edge_at p v q).delay) % (arc_at p k).copies in
          let copy : IsCopy (arc_at p k).copies n (edge_at p v q).delay i =
          subst (λ n'. IsCopy (arc_at p k).copies n' (edge_at p v q).delay i) (mod-eq_of_lt in-n)
          (copy_read n p.unroll (arc_at p k).copies (edge_at p v q).delay life.some life.turns plan.turns
          (delay_in d p plan v q in-v read)) in
          is-a.read q k i through.1 copy ∙ sym (is-b.read q k i through.1 copy)

  -- what is in one word is in the other
  issue_in : (n c : ℕ) (a b : Word)
      → n < p.unroll
      → IsWordOf d p n c a
      → IsWordOf d p n c b
      → (issue : Issue)
      → Contains a.issues issue
      → Contains b.issues issue
  issue_in n c a b in-n is-a is-b issue among =
      let only = is-a.issue_only issue among in
      let other = is-b.issue only.0 only.1 only.2 in
      subst (Contains b.issues) (one_issue only.0 n other.0 issue only.1 in-n other.2 only.3) other.1

  enable_in : (n c : ℕ) (a b : Word)
      → IsWordOf d p n c a
      → IsWordOf d p n c b
      → (enable : Enable)
      → Contains a.enables enable
      → Contains b.enables enable
  enable_in n c a b is-a is-b enable among =
      let only = is-a.enable_only enable among in
      subst (Contains b.enables) (sym only.5) (is-b.enable only.0 only.1 only.2 only.3 only.4)

  take_in : (n c : ℕ) (a b : Word)
      → IsWordOf d p n c a
      → IsWordOf d p n c b
      → (take : Take)
      → Contains a.takes take
      → Contains b.takes take
  take_in n c a b is-a is-b take among =
      let only = is-a.take_only take among in
      subst (Contains b.takes) (sym only.4) (is-b.take only.0 only.1 only.2 only.3)

  -- a cycle of a sample has one word
  one_word : (n c : ℕ) (a b : Word)
      → n < p.unroll
      → IsWordOf d p n c a
      → IsWordOf d p n c b
      → a ≡ b
  one_word n c a b in-n is-a is-b =
      word_from a b
      (same_order (λ (x y : Issue). x.unit < y.unit) never_both_issues a.issues b.issues is-a.issues_rise
      is-b.issues_rise (issue_in n c a b in-n is-a is-b) (issue_in n c b a in-n is-b is-a))
      (same_order EnableBefore never_both_enables a.enables b.enables is-a.enables_rise is-b.enables_rise
      (enable_in n c a b is-a is-b) (enable_in n c b a is-b is-a))
      (same_order TakeBefore never_both_takes a.takes b.takes is-a.takes_rise is-b.takes_rise
      (take_in n c a b is-a is-b) (take_in n c b a is-b is-a))

module _ (d : Datapath) (p : Plan) (a b : Microprogram) (is-a : StartsWith d p a) (is-b : StartsWith d p b) where
  -- a register starts with one word
  one_register : (port : PortRef) (reg : ℕ)
      → initial a (Register port.unit port.port reg) ≡ initial b (Register port.unit port.port reg)
  one_register port reg =
      ⊎_elim
      (λ same. same)
      (λ other.
      let none = λ (k i ago : ℕ) (of : IsPreloadOf d p port reg k i ago).
      other (is-a.register port reg k i ago of ∙ sym (is-b.register port reg k i ago of)) in
      absurd (other (is-a.other_register port reg none ∙ sym (is-b.other_register port reg none))))
      (int_cases (initial a (Register port.unit port.port reg)) (initial b (Register port.unit port.port reg)))

  one_cell : (ram cell : ℕ) → initial a (Cell ram cell) ≡ initial b (Cell ram cell)
  one_cell ram cell =
      ⊎_elim
      (λ same. same)
      (λ other.
      let none = λ (l ago : ℕ) (of : IsCellPreload p ram cell l ago).
      other (is-a.cell ram cell l ago of ∙ sym (is-b.cell ram cell l ago of)) in
      absurd (other (is-a.other_cell ram cell none ∙ sym (is-b.other_cell ram cell none))))
      (int_cases (initial a (Cell ram cell)) (initial b (Cell ram cell)))

-- files of the same sizes have as many registers each
file_long : (xs ys : List (List ℤ)) (q : ℕ)
    → map length xs ≡ map length ys
    → q < length xs
    → q < length ys
    → length (nth xs q []) ≡ length (nth ys q [])
file_long xs ys q e below below' =
    sym (get_or-map length xs q [] 0 below)
    ∙ ap (λ sizes. slice_index_or sizes q 0) e
    ∙ get_or-map length ys q [] 0 below'

module _ (d : Datapath) (p : Plan) (plan : IsFeasible d p) (a b : Image)
    (is-a : IsImageOf d p a) (is-b : IsImageOf d p b) where
  one_unit : (u : ℕ) → u < length d.units → described a u ≡ described b u
  one_unit u below =
      let x : IsUnitOf d u (described a u) = is-a.units u below in
      let y : IsUnitOf d u (described b u) = is-b.units u below in
      let sizes : map length (described a u).files ≡ map length (described b u).files = x.files ∙ sym y.files in
      let count : length (described a u).files ≡ length (described b u).files =
      sym (length-map (described a u).files length) ∙ ap length sizes ∙ length-map (described b u).files length in
      unit_from (described a u) (described b u) (x.kind ∙ sym y.kind) (x.latency ∙ sym y.latency) (x.gap ∙ sym y.gap)
      (ext_get_or [] (described a u).files (described b u).files count (λ q in-q.
      ext_get_or (pos 0) (nth (described a u).files q []) (nth (described b u).files q [])
      (file_long (described a u).files (described b u).files q sizes in-q (omega (arith, in-q, count)))
      (λ r in-r. one_register d p (microprogram_of a) (microprogram_of b) is-a.starts is-b.starts (port_of u q) r)))
      (ext_get_or (pos 0) (described a u).cells (described b u).cells (x.cells ∙ sym y.cells)
      (λ c in-c. one_cell d p (microprogram_of a) (microprogram_of b) is-a.starts is-b.starts u c))
      (x.ram ∙ sym y.ram)

  word_here : (x : ℕ) → x < p.unroll * d.period → nth a.words x no_word ≡ nth b.words x no_word
  word_here x below =
      let n : ℕ = x / d.period in
      let c : ℕ = x % d.period in
      let at : x ≡ n * d.period + c = split x d.period in
      let in-n : n < p.unroll = below_count n d.period x p.unroll (omega (arith, at)) below in
      let in-c : c < d.period = mod-lt x plan.period in
      ap (λ x. nth a.words x no_word) at
      ∙ one_word d p plan n c _ _ in-n (is-a.words n c in-n in-c) (is-b.words n c in-n in-c)
      ∙ sym (ap (λ x. nth b.words x no_word) at)

  -- the image of a plan is the only one
  pub one_image : a ≡ b
  one_image =
      image_from a b (is-a.period ∙ sym is-b.period) (is-a.unroll ∙ sym is-b.unroll) (is-a.inputs ∙ sym is-b.inputs)
      (is-a.outs ∙ sym is-b.outs)
      (ext_get_or no_unit a.units b.units (is-a.unit_count ∙ sym is-b.unit_count)
      (λ u below. one_unit u (omega (arith, below, is-a.unit_count))))
      (is-a.buses ∙ sym is-b.buses)
      (ext_get_or no_word a.words b.words (is-a.word_count ∙ sym is-b.word_count)
      (λ x below. word_here x (omega (arith, below, is-a.word_count))))
