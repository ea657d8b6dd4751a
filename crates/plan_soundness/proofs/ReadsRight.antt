-- Each read finds its instance: the register that an issue names holds the word of its operand at the sample that is
-- read. So an issue comes to the word of its node.
use Rattle.std.proofs.Common.{◌≡◌, ℕ, ◌+◌, ◌-◌, ◌*◌, ◌<◌, ◌≤◌, refl, sym, ap, ap₂, ◌∙◌, arith, List, [], length, pos}
use Rattle.std.proofs.Common.{true, false, Some, None, subst, if◌then◌else◌}
use Rattle.std.specs.Int.{int_rem_euclid}
use Rattle.std.specs.Prelude.{◌-ℤ◌}
use Rattle.std.proofs.Math.Nat.{add-mul, mul-le-mul_right}
use Rattle.lists.specs.Rows.{Rows}
use Rattle.fix_word.specs.declared.operation.Op.{Op}
use Rattle.fix_word.specs.declared.operation.Op.TheVariants as op
use Rattle.operations.specs.Operations.{operands}
use Rattle.operations.specs.Ranges.{to_nat}
use Rattle.datapath.specs.declared.types.Datapath.{Datapath}
use Rattle.plan_core.specs.Hardware.{latency_on, cells_on, tie_of}
use Rattle.plan_core.specs.declared.plan.Plan.{Plan}
use Rattle.micro_image.specs.declared.image.Issue.{Issue}
use Rattle.micro_image.specs.Fields.{Microprogram, nth, unit_of, sample_of, issue_at, began, ending}
use Rattle.micro_image.specs.Log.{Register, Cell, Entry, content, Log, Content, operand, value, value_by, given}
use Rattle.micro_image.specs.Log.{result_by}
use Rattle.micro_image.specs.Operations.{gives}
use Rattle.micro_image.proofs.LogLaws.{content-old}
use Rattle.plan_soundness.specs.Parts.{nodes_of, node_at, edge_at, unit_at, cycle_at, arc_at, line_at, ReadsThrough}
use Rattle.plan_soundness.specs.Parts.{ends_at}
use Rattle.plan_soundness.specs.Samples.{past}
use Rattle.plan_soundness.specs.Overlap.{Overlap, shift_of, reach}
use Rattle.plan_soundness.specs.Private.Cells.{cell_in}
use Rattle.plan_soundness.specs.Memory.{store_of, HasAddress, LoadsFrom, StoresTo}
use Rattle.plan_soundness.specs.Private.Solution.{Counted, LoweredSolves, IsOfGraph, meaning_by, operand_in}
use Rattle.plan_soundness.specs.Feasible.{IsFeasibleOver, IsFeasibleLine}
use Rattle.plan_soundness.specs.Executes.{ExecutesOver, IsIssueIn, register_in}
use Rattle.plan_soundness.proofs.Lines.{addr-cell, cell-from, load-cell, line_end}
use Rattle.plan_soundness.proofs.LiveWords.{LiveWord, in_register, in_cell, place_of, written_at, wanted_to, word_of}
use Rattle.plan_soundness.proofs.LiveWords.{stored_most}
use Rattle.plan_soundness.proofs.Meanings.{meaning-operands, value-meaning}
use Rattle.plan_soundness.proofs.Samples.{one_more}
use Rattle.plan_soundness.proofs.Slots.{Right}

-- samples of so many samples ago
back : (n ago : ℕ) → ago ≤ past → past + n ≡ past + n - ago + ago
back n ago small = omega arith

back_now : (n ago : ℕ) → ago ≡ 0 → past + n - ago ≡ past + n
back_now n ago now = omega arith

back_of : (m ago : ℕ) → ago ≤ m → m ≡ m - ago + ago
back_of m ago le = omega arith

-- a sample of the run is near enough to sample 0 for its word to stand in a line
pub near_now : (n depth : ℕ) → past ≤ past + n + depth
near_now n depth = omega arith

some_operand : {m n : ℕ} (q : ℕ) → m ≡ n → q < n → q < m
some_operand q e below = omega (arith, e, below)

pub not_store : (o : Op) → gives o ≡ true → o ≡ op.Store → ⊥
not_store o result e = let none : gives o ≡ false = ap gives e in absurd (cc)

of_graph_no_address : (o : Op) → IsOfGraph o → o ≡ op.Addr → ⊥
of_graph_no_address o of e = subst IsOfGraph e of

module _ {o : Overlap} (d : Datapath) (p : Plan) (words : Counted) (plan : IsFeasibleOver o d p) (micro : Microprogram)
    (z stream : Rows) (runs : ExecutesOver o d p micro) (solves : LoweredSolves d p stream words)
    (rows : (n c : ℕ) → c < d.period → nth z (n * d.period + c) [] ≡ nth stream n []) where
  -- up to cycle t each place holds what is wanted of it
  abbrev pub AllRight : ℕ → Type 0
  AllRight t =
      Right (place_of o d p words) (written_at o d p words) (wanted_to o d p words) (word_of o d p words)
      (past * d.period) (length stream * d.period) (Content micro z) t

  pub place_read : (v n q k : ℕ) (issue : Issue)
      → IsIssueIn d p micro v n issue
      → ReadsThrough p v q k
      → Register issue.unit q (nth issue.regs q 0)
      ≡ Register (arc_at p k).port.unit (arc_at p k).port.port
      (register_in d p k (past + n - (edge_at p v q).delay))
  place_read v n q k issue is through =
      let unit : issue.unit ≡ (arc_at p k).port.unit = is.unit ∙ sym (ap (λ port. port.unit) through.port) in
      let port : q ≡ (arc_at p k).port.port = sym (ap (λ port. port.port) through.port) in
      let reg : nth issue.regs q 0 ≡ register_in d p k (past + n - (edge_at p v q).delay) = is.regs q k through in
      cc

  -- each read finds its instance
  pub reads : (t v n q : ℕ) (issue : Issue)
      → AllRight t
      → v < length (nodes_of p)
      → q < length (node_at p v).edges
      → IsIssueIn d p micro v n issue
      → n * d.period + cycle_at p v ≤ t
      → operand micro (Log micro z t) (n * d.period + cycle_at p v) issue q ≡ operand_in words (node_at p v) n q
  reads t v n q issue right in-v in-q is below =
      let through = plan.read v q in-v in-q in
      let k : ℕ = through.0 in
      let ago : ℕ = (edge_at p v q).delay in
      let m : ℕ = past + n - ago in
      let within = plan.read_in v q k in-v through.1 in
      let small : o.first + ago ≤ past = (plan.edges v q in-v in-q).1 in
      let live : LiveWord o p = in_register k m through.1.there (omega (arith, small)) in
      let start : (m + shift_of d p k) * d.period ≡ m * d.period + shift_of d p k * d.period =
      add-mul m (shift_of d p k) d.period in
      let written : (arc_at p k).w + shift_of d p k * d.period ≡ ends_at d p (arc_at p k).node =
      (plan.arcs k through.1.there).written in
      let time : (past + n) * d.period ≡ m * d.period + ago * d.period =
      ap (λ n. n * d.period) (back n ago (omega (arith, small))) ∙ add-mul m ago d.period in
      let whole : (past + n) * d.period ≡ past * d.period + n * d.period = add-mul past n d.period in
      content-old micro z _ _ t below
      ∙ ap (λ place. Content micro z place (n * d.period + cycle_at p v)) (place_read v n q k issue is through.1)
      ∙ right live (n * d.period + cycle_at p v) below (omega (arith, within.0, time, whole, start, written))
      (omega (arith, within.1, time, whole, start))
      ∙ ap (λ u. words u m) (sym through.1.reads.node)

  edges_of : (v : ℕ) (o : Op) → v < length (nodes_of p) → (node_at p v).op ≡ o → length (node_at p v).edges ≡ operands o
  edges_of v o in-v e = plan.operand_count v in-v ∙ ap operands e

  -- the address of a load or a store is that of its cell
  pub address_right : (t v n ram offset : ℕ) (issue : Issue)
      → AllRight t
      → v < length (nodes_of p)
      → n < length stream
      → 0 < length (node_at p v).edges
      → IsIssueIn d p micro v n issue
      → HasAddress d p v ram offset
      → 0 < cells_on d ram
      → n * d.period + cycle_at p v ≤ t
      → operand micro (Log micro z t) (n * d.period + cycle_at p v) issue 0
      ≡ pos (cell_in (cells_on d ram) past offset (past + n))
  address_right t v n ram offset issue right in-v in-n some is has cells below =
      let a : ℕ = (edge_at p v 0).node in
      let in-a : a < length (nodes_of p) = (plan.edges v 0 in-v some).0 in
      reads t v n 0 issue right in-v some is below
      ∙ ap (words a) (back_now n (edge_at p v 0).delay has.now)
      ∙ solves.address a n in-a in-n has.is_address
      ∙ ap₂ (λ c u. int_rem_euclid (c -ℤ pos n) (pos (cells_on d u))) has.argument has.tied
      ∙ addr-cell (cells_on d ram) offset n cells
      ∙ ap pos (sym (cell-from (cells_on d ram) past offset n cells))

  -- a load is issued while its cell is still wanted
  in_time : (v l ago m n t : ℕ)
      → v < length (nodes_of p)
      → ago ≤ (line_at p l).depth
      → past + n ≡ m + ago
      → t ≡ n * d.period + cycle_at p v
      → past * d.period + t ≤ line_end d.period (reach o (line_at p l)) m
  in_time v l ago m n t in-v depth e at =
      let fits : ends_at d p v < o.stages * d.period = plan.fits v in-v in
      let some : 0 < o.stages = plan.stages in
      let period : 0 < d.period = plan.period in
      let le : (past + n + o.stages) * d.period ≤ (m + reach o (line_at p l) + 1) * d.period =
      mul-le-mul_right d.period (omega arith) in
      let late : (past + n + o.stages) * d.period ≡ past * d.period + n * d.period + o.stages * d.period =
      add-mul (past + n) o.stages d.period ∙ ap (λ t. t + o.stages * d.period) (add-mul past n d.period) in
      omega (arith, le, late, one_more (m + reach o (line_at p l)) d.period)

  load_right : (t v n l ago : ℕ) (issue : Issue)
      → AllRight t
      → v < length (nodes_of p)
      → n < length stream
      → (node_at p v).op ≡ op.Load
      → LoadsFrom d p v l ago
      → words v (past + n) ≡ words (line_at p l).node (past + n - ago)
      → IsIssueIn d p micro v n issue
      → n * d.period + cycle_at p v ≤ t
      → value_by op.Load micro z (Log micro z t) (n * d.period + cycle_at p v) issue ≡ words v (past + n)
  load_right t v n l ago issue right in-v in-n is-load loads old is below =
      let line : IsFeasibleLine o d p l = plan.memory.lines l loads.there in
      let offset : ℕ = (line_at p l).offset in
      let ram : ℕ = (line_at p l).ram in
      let m : ℕ = past + n - ago in
      let deep : (line_at p l).depth < past = line.depth in
      let depth : ago ≤ (line_at p l).depth = loads.depth in
      let room : offset + reach o (line_at p l) < cells_on d ram = line.room in
      let e : past + n ≡ m + ago = back_of (past + n) ago (omega arith) in
      let cells : 0 < cells_on d ram = omega arith in
      let end : ℕ = ends_at d p (store_of (line_at p l)) in
      let behind : end < cycle_at p v + ago * d.period = plan.load_in v l ago in-v is-load loads in
      let time : (past + n) * d.period ≡ m * d.period + ago * d.period =
      ap (λ n. n * d.period) e ∙ add-mul m ago d.period in
      let whole : (past + n) * d.period ≡ past * d.period + n * d.period = add-mul past n d.period in
      let live : LiveWord o p = in_cell l m loads.there (omega (arith, e, depth)) in
      let address : operand micro (Log micro z t) (n * d.period + cycle_at p v) issue 0
      ≡ pos (cell_in (cells_on d ram) past (offset + ago) (past + n)) =
      address_right t v n ram (offset + ago) issue right in-v in-n
      (some_operand 0 (edges_of v op.Load in-v is-load) (omega arith)) is loads.address cells below in
      let cell : cell_in (cells_on d ram) past (offset + ago) (past + n) ≡ cell_in (cells_on d ram) past offset m =
      ap (cell_in (cells_on d ram) past (offset + ago)) e
      ∙ load-cell (cells_on d ram) past offset ago m cells (omega arith) in
      ap₂ (λ u a. content micro (Log micro z t) (Cell u (to_nat a)) (n * d.period + cycle_at p v))
      (is.unit ∙ loads.unit) (address ∙ ap pos cell)
      ∙ content-old micro z (place_of o d p words live) (n * d.period + cycle_at p v) t below
      ∙ right live (n * d.period + cycle_at p v) below
      (omega (arith, stored_most m end, behind, time, whole))
      (in_time v l ago m n (n * d.period + cycle_at p v) in-v depth e refl)
      ∙ sym old

  addr_right : (log : List Entry) (v n : ℕ) (issue : Issue)
      → v < length (nodes_of p)
      → n < length stream
      → (node_at p v).op ≡ op.Addr
      → IsIssueIn d p micro v n issue
      → value_by op.Addr micro z log (n * d.period + cycle_at p v) issue ≡ words v (past + n)
  addr_right log v n issue in-v in-n is-addr is =
      ap (λ c. int_rem_euclid (issue.arg -ℤ pos (sample_of micro (n * d.period + cycle_at p v))) (pos c))
      (runs.cells (unit_of micro issue.unit).ram
      ∙ ap (cells_on d) (runs.ram issue.unit ∙ ap (tie_of d) is.unit))
      ∙ is.address is-addr
      ∙ sym (solves.address v n in-v in-n is-addr)

  plain_right : (o : Op) (t v n : ℕ) (issue : Issue)
      → IsOfGraph o
      → (node_at p v).op ≡ o
      → AllRight t
      → v < length (nodes_of p)
      → n < length stream
      → IsIssueIn d p micro v n issue
      → n * d.period + cycle_at p v ≤ t
      → value_by o micro z (Log micro z t) (n * d.period + cycle_at p v) issue ≡ words v (past + n)
  plain_right o t v n issue of e right in-v in-n is below =
      value-meaning o micro z stream (Log micro z t) (n * d.period + cycle_at p v) n issue (node_at p v) of
      (λ input. rows n (cycle_at p v) (plan.inputs v in-v (e ∙ input)))
      (is.arg (of_graph_no_address (node_at p v).op (subst IsOfGraph (sym e) of))) is.fmt
      ∙ meaning-operands o (node_at p v) stream n _ _ of
      (λ q in-q. reads t v n q issue right in-v (some_operand q (edges_of v o in-v e) in-q) is below)
      ∙ sym (solves.now v n in-v in-n (subst IsOfGraph (sym e) of)
      ∙ ap (λ o. meaning_by o (node_at p v) stream n (operand_in words (node_at p v) n)) e)

  right_by : (o : Op) (t v n : ℕ) (issue : Issue)
      → (node_at p v).op ≡ o
      → (o ≡ op.Store → ⊥)
      → AllRight t
      → v < length (nodes_of p)
      → n < length stream
      → IsIssueIn d p micro v n issue
      → n * d.period + cycle_at p v ≤ t
      → value_by o micro z (Log micro z t) (n * d.period + cycle_at p v) issue ≡ words v (past + n)
  right_by op.Load t v n issue e never right in-v in-n is below =
      let loads = solves.load v n in-v in-n e in
      load_right t v n loads.0 loads.1 issue right in-v in-n e loads.2 loads.3 is below
  right_by op.Store t v n issue e never right in-v in-n is below = absurd (never refl)
  right_by op.Addr t v n issue e never right in-v in-n is below = addr_right (Log micro z t) v n issue in-v in-n e is
  right_by o t v n issue e never right in-v in-n is below =
      plain_right o t v n issue (tt {0}) e right in-v in-n is below

  -- an issue comes to the word of its node
  pub issue_right : (t v n : ℕ) (issue : Issue)
      → AllRight t
      → v < length (nodes_of p)
      → n < length stream
      → ((node_at p v).op ≡ op.Store → ⊥)
      → IsIssueIn d p micro v n issue
      → n * d.period + cycle_at p v ≤ t
      → value micro z (Log micro z t) (n * d.period + cycle_at p v) issue ≡ words v (past + n)
  unfolding value
  issue_right t v n issue right in-v in-n never is below =
      ap (λ o. value_by o micro z (Log micro z t) (n * d.period + cycle_at p v) issue) is.op
      ∙ right_by (node_at p v).op t v n issue refl never right in-v in-n is below

  -- a store writes the word of its line's node
  pub store_right : (t v n l : ℕ) (issue : Issue)
      → AllRight t
      → v < length (nodes_of p)
      → n < length stream
      → StoresTo d p v l
      → IsIssueIn d p micro v n issue
      → n * d.period + cycle_at p v ≤ t
      → value micro z (Log micro z t) (n * d.period + cycle_at p v) issue ≡ words (line_at p l).node (past + n)
  unfolding value
  store_right t v n l issue right in-v in-n stores is below =
      ap (λ o. value_by o micro z (Log micro z t) (n * d.period + cycle_at p v) issue) (is.op ∙ stores.is_store)
      ∙ reads t v n 1 issue right in-v (some_operand 1 (edges_of v op.Store in-v stores.is_store) (omega arith)) is
      below
      ∙ ap₂ words stores.value (back_now n (edge_at p v 1).delay stores.now)

  -- into the line's cell
  pub store_place : (t v n l : ℕ) (issue : Issue)
      → AllRight t
      → v < length (nodes_of p)
      → n < length stream
      → (stores : StoresTo d p v l)
      → IsIssueIn d p micro v n issue
      → n * d.period + cycle_at p v ≤ t
      → Cell issue.unit (to_nat (operand micro (Log micro z t) (n * d.period + cycle_at p v) issue 0))
      ≡ place_of o d p words (in_cell l (past + n) stores.there (near_now n (line_at p l).depth))
  store_place t v n l issue right in-v in-n stores is below =
      let room : (line_at p l).offset + reach o (line_at p l) < cells_on d (line_at p l).ram =
      (plan.memory.lines l stores.there).room in
      ap₂ (λ u a. Cell u (to_nat a)) (is.unit ∙ stores.unit)
      (address_right t v n (line_at p l).ram (line_at p l).offset issue right in-v in-n
      (some_operand 0 (edges_of v op.Store in-v stores.is_store) (omega arith)) is stores.address (omega arith) below)

  ending_is : (t u c b : ℕ) → t ≡ c + b → (unit_of micro u).latency - 1 ≡ b → ending micro t u ≡ issue_at micro c u
  ending_is t u c b e f = rw f (rw e (grind arith))

  began_is : (t u c b : ℕ) → t ≡ c + b → (unit_of micro u).latency - 1 ≡ b → began micro t u ≡ c
  began_is t u c b e f = omega (arith, e, f)

  -- the issue of a node ends in the cycle of its result
  pub ends_then : (v n : ℕ) (issue : Issue)
      → issue_at micro (n * d.period + cycle_at p v) (unit_at p v) ≡ Some issue
      → ending micro (n * d.period + ends_at d p v) (unit_at p v) ≡ Some issue
  ends_then v n issue at =
      ending_is (n * d.period + ends_at d p v) (unit_at p v) (n * d.period + cycle_at p v)
      (latency_on d (unit_at p v) - 1) (omega arith) (ap (λ l. l - 1) (runs.latency (unit_at p v)))
      ∙ at

  pub began_then : (v n : ℕ) → began micro (n * d.period + ends_at d p v) (unit_at p v) ≡ n * d.period + cycle_at p v
  began_then v n =
      began_is (n * d.period + ends_at d p v) (unit_at p v) (n * d.period + cycle_at p v)
      (latency_on d (unit_at p v) - 1) (omega arith) (ap (λ l. l - 1) (runs.latency (unit_at p v)))

  -- in that cycle its unit has the word of the node for its result
  pub result_right : (v n : ℕ)
      → AllRight (n * d.period + ends_at d p v)
      → v < length (nodes_of p)
      → n < length stream
      → gives (node_at p v).op ≡ true
      → result_by micro z (Log micro z (n * d.period + ends_at d p v)) (n * d.period + ends_at d p v) (unit_at p v)
      ≡ Some (words v (past + n))
  result_right v n right in-v in-n result =
      let issue = (runs.issue v n in-v).0 in
      let at = (runs.issue v n in-v).1 in
      let is = (runs.issue v n in-v).2 in
      let t : ℕ = n * d.period + ends_at d p v in
      ap₂ (λ b e. given micro z (Log micro z t) b e) (began_then v n) (ends_then v n issue at)
      ∙ ap (λ g. if g then Some (value micro z (Log micro z t) (n * d.period + cycle_at p v) issue) else None)
      (ap gives is.op ∙ result)
      ∙ ap Some (issue_right t v n issue right in-v in-n (λ e. not_store (node_at p v).op result e) is (omega arith))
