-- The words that a run keeps in registers, cells and latches: no two are wanted in one place in one cycle.
use Rattle.std.proofs.Common.{◌≡◌, ℕ, ◌+◌, ◌-◌, ◌*◌, ◌%◌, ◌<◌, ◌≤◌, nat_lt, refl, sym, ap, ap₂, ◌∙◌, arith, ⊎_elim}
use Rattle.std.proofs.Common.{length, ℤ, pos, subst, if◌then◌else◌}
use Rattle.std.proofs.lemmas.Bool.{cases_order}
use Rattle.std.proofs.Math.Nat.{add-mul, mod-lt, mul-le-mul_right}
use Rattle.lists.specs.Rows.{Rows}
use Rattle.fix_word.specs.declared.operation.Op.TheVariants as op
use Rattle.operations.specs.Ranges.{to_nat}
use Rattle.operations.specs.declared.units.PortRef.{PortRef}
use Rattle.datapath.specs.declared.types.Datapath.{Datapath}
use Rattle.plan_core.specs.Hardware.{cells_on, port_of}
use Rattle.plan_core.specs.declared.plan.Plan.{Plan}
use Rattle.micro_image.specs.Fields.{Microprogram}
use Rattle.micro_image.specs.Log.{Place, Register, Latch, Cell, initial, Content}
use Rattle.plan_soundness.specs.Parts.{nodes_of, lines_of, node_at, arc_at, line_at, register_at, ends_at}
use Rattle.plan_soundness.specs.Samples.{past}
use Rattle.plan_soundness.specs.Overlap.{Overlap, shift_of, reach, AreDisjoint}
use Rattle.plan_soundness.specs.Lifetimes.{IsLifetime}
use Rattle.plan_soundness.specs.Private.Cells.{cell_in}
use Rattle.plan_soundness.specs.Memory.{store_of}
use Rattle.plan_soundness.specs.Private.Solution.{Counted, LoweredSolves}
use Rattle.plan_soundness.specs.Feasible.{IsFeasibleOver, IsFeasibleLine}
use Rattle.plan_soundness.specs.Executes.{ExecutesOver, register_in}
use Rattle.plan_soundness.proofs.Lines.{cells-apart, past-cell, line_end}
use Rattle.plan_soundness.proofs.Samples.{one_more, sample_below}
use Rattle.plan_soundness.proofs.Spans.{never-both, same-copy}

-- A word of sample number s that stands somewhere until it is read for the last time. A latch has its node's words from
-- sample 0 on, and 0 before the first one.
pub data LiveWord (o : Overlap) (p : Plan) : Type 0 where
  in_register : (k s : ℕ) → k < length p.arcs → o.first ≤ s → LiveWord o p
  in_cell : (l s : ℕ) → l < length (lines_of p) → past ≤ s + (line_at p l).depth → LiveWord o p
  in_latch : (v s : ℕ) → v < length (nodes_of p) → (node_at p v).op ≡ op.Output → past ≤ s → LiveWord o p
  at_first : (v : ℕ) → v < length (nodes_of p) → (node_at p v).op ≡ op.Output → LiveWord o p

-- in which cycle of its sample a word is stored that a store ends in cycle e: those of before sample 0 are there before
abbrev pub stored_in : (s e : ℕ) → ℕ
stored_in s e = if nat_lt s past then 0 else e

-- cycles are counted from sample number 0 on
module _ (o : Overlap) (d : Datapath) (p : Plan) (words : Counted) where
  abbrev pub place_of : LiveWord o p → Place
  place_of (in_register k s there from) =
      Register (arc_at p k).port.unit (arc_at p k).port.port (register_in d p k s)
  place_of (in_cell l s there from) =
      Cell (line_at p l).ram (cell_in (cells_on d (line_at p l).ram) past (line_at p l).offset s)
  place_of (in_latch v s there is from) = Latch (to_nat (node_at p v).arg)
  place_of (at_first v there is) = Latch (to_nat (node_at p v).arg)

  -- the cycle at whose end it is written
  abbrev pub written_at : LiveWord o p → ℕ
  written_at (in_register k s there from) = (arc_at p k).w + (s + shift_of d p k) * d.period
  written_at (in_cell l s there from) = stored_in s (ends_at d p (store_of (line_at p l))) + s * d.period
  written_at (in_latch v s there is from) = ends_at d p v + s * d.period
  written_at (at_first v there is) = 0

  -- the last cycle at whose start it is read
  abbrev pub wanted_to : LiveWord o p → ℕ
  wanted_to (in_register k s there from) = (arc_at p k).r + (s + shift_of d p k) * d.period
  wanted_to (in_cell l s there from) = line_end d.period (reach o (line_at p l)) s
  wanted_to (in_latch v s there is from) = ends_at d p v + d.period + s * d.period
  wanted_to (at_first v there is) = ends_at d p v + past * d.period

  abbrev pub word_of : LiveWord o p → ℤ
  word_of (in_register k s there from) = words (arc_at p k).node s
  word_of (in_cell l s there from) = words (line_at p l).node s
  word_of (in_latch v s there is from) = words v s
  word_of (at_first v there is) = pos 0

-- two places that are one have one number each
register_parts : (u v q r k l : ℕ) → Register u q k ≡ Register v r l → (u ≡ v) × (q ≡ r) × (k ≡ l)
register_parts u v q r k l e = (cc, cc, cc)

cell_parts : (u v a b : ℕ) → Cell u a ≡ Cell v b → (u ≡ v) × (a ≡ b)
cell_parts u v a b e = (cc, cc)

latch_part : (j k : ℕ) → Latch j ≡ Latch k → j ≡ k
latch_part j k e = cc

pub stored_most : (s e : ℕ) → stored_in s e ≤ e
stored_most s e = grind arith

pub stored_late : (s e : ℕ) → past ≤ s → stored_in s e ≡ e
stored_late s e from = grind (arith, from)

pub stored_early : (s e : ℕ) → s < past → stored_in s e ≡ 0
stored_early s e early = grind (arith, early)

pub port_eq : (a b : PortRef) → a.unit ≡ b.unit → a.port ≡ b.port → a ≡ b
port_eq a b e f = ap₂ (λ (u q : ℕ). port_of u q) e f

module _ {o : Overlap} (d : Datapath) (p : Plan) (words : Counted) (plan : IsFeasibleOver o d p) where
  -- two words of lifetimes that are wanted in one register in one cycle are one
  pub registers_apart : (j k s n t : ℕ)
      → j < length p.arcs
      → k < length p.arcs
      → (arc_at p j).port ≡ (arc_at p k).port
      → register_at p j (s % (arc_at p j).copies) ≡ register_at p k (n % (arc_at p k).copies)
      → (arc_at p j).w + s * d.period < t
      → t ≤ (arc_at p j).r + s * d.period
      → (arc_at p k).w + n * d.period < t
      → t ≤ (arc_at p k).r + n * d.period
      → (j ≡ k) × (s ≡ n)
  registers_apart j k s n t in-j in-k port register after upto after' upto' =
      ⊎_elim
      (λ (one : (j ≡ k) × (s % (arc_at p j).copies ≡ n % (arc_at p k).copies)).
      let turn : n % (arc_at p k).copies ≡ n % (arc_at p j).copies =
      ap (λ i. n % (arc_at p i).copies) (sym one.0) in (
        one.0,
        same-copy d.period p.unroll (arc_at p j) s n t is-j (one.1 ∙ turn) after upto
            (subst (λ i. (arc_at p i).w + n * d.period < t) (sym one.0) after')
            (subst (λ i. t ≤ (arc_at p i).r + n * d.period) (sym one.0) upto'),
      ))
      (λ apart.
      absurd (never-both d.period p.unroll (arc_at p j) (s % (arc_at p j).copies) (arc_at p k)
      (n % (arc_at p k).copies) s n t plan.unroll is-j is-k apart refl refl after upto after' upto'))
      (plan.registers j k (s % (arc_at p j).copies) (n % (arc_at p k).copies) in-j in-k
      (mod-lt s is-j.some) (mod-lt n is-k.some) port register)
    where
      is-j : IsLifetime d.period p.unroll (arc_at p j)
      is-j = (plan.arcs j in-j).lifetime

      is-k : IsLifetime d.period p.unroll (arc_at p k)
      is-k = (plan.arcs k in-k).lifetime

  -- two words that are wanted in one cell in one cycle are one
  cells_apart : (l m s n e f t : ℕ)
      → l < length (lines_of p)
      → m < length (lines_of p)
      → (line_at p l).ram ≡ (line_at p m).ram
      → cell_in (cells_on d (line_at p l).ram) past (line_at p l).offset s
      ≡ cell_in (cells_on d (line_at p m).ram) past (line_at p m).offset n
      → e + s * d.period < t
      → t ≤ line_end d.period (reach o (line_at p l)) s
      → f + n * d.period < t
      → t ≤ line_end d.period (reach o (line_at p m)) n
      → (l ≡ m) × (s ≡ n)
  cells_apart l m s n e f t in-l in-m ram cell after upto after' upto' =
      let cells : ℕ = cells_on d (line_at p l).ram in
      let room-l : (line_at p l).offset + reach o (line_at p l) < cells = (plan.memory.lines l in-l).room in
      let room-m : (line_at p m).offset + reach o (line_at p m) < cells =
      subst (λ u. (line_at p m).offset + reach o (line_at p m) < cells_on d u) (sym ram)
      (plan.memory.lines m in-m).room in
      let same : cell_in cells past (line_at p l).offset s ≡ cell_in cells past (line_at p m).offset n =
      cell ∙ ap (λ u. cell_in (cells_on d u) past (line_at p m).offset n) (sym ram) in
      let one = cells-apart cells past d.period (line_at p l).offset (reach o (line_at p l)) (line_at p m).offset
      (reach o (line_at p m)) e f s n t (omega arith) plan.period room-l room-m same after upto after' upto' in
      ⊎_elim
      (λ (e : l ≡ m). (e, one.1 (ap (λ i. (line_at p i).offset) e)))
      (λ (apart : AreDisjoint o (line_at p l) (line_at p m)). absurd (one.0 apart))
      (plan.memory.lines_apart l m in-l in-m ram)

  not_later : (v s n t : ℕ)
      → s < n
      → t ≤ ends_at d p v + d.period + s * d.period
      → ends_at d p v + n * d.period < t
      → ⊥
  not_later v s n t less upto after =
      let le : (s + 1) * d.period ≤ n * d.period = mul-le-mul_right d.period (omega arith) in
      omega (arith, le, one_more s d.period, upto, after)

  -- an output's latch is written once a period
  latches_apart : (v s n t : ℕ)
      → ends_at d p v + s * d.period < t
      → t ≤ ends_at d p v + d.period + s * d.period
      → ends_at d p v + n * d.period < t
      → t ≤ ends_at d p v + d.period + n * d.period
      → s ≡ n
  latches_apart v s n t after upto after' upto' =
      ⊎_elim
      (λ same. same)
      (λ other.
      ⊎_elim
      (λ (less : s < n). absurd (not_later v s n t less upto after'))
      (λ (less : n < s). absurd (not_later v n s t less upto' after))
      other)
      (cases_order s n)

  -- the 0 of a latch ends where its first word begins
  first_ends : (v u n t : ℕ)
      → past ≤ n
      → v ≡ u
      → ends_at d p v + n * d.period < t
      → t ≤ ends_at d p u + past * d.period
      → ⊥
  first_ends v u n t from node after upto =
      let le : past * d.period ≤ n * d.period = mul-le-mul_right d.period from in
      omega (arith, le, after, upto, ap (ends_at d p) node)

  -- two words that are wanted in one place in one cycle are written in one cycle, and equal
  pub words_apart : (a b : LiveWord o p) (t : ℕ)
      → place_of o d p words a ≡ place_of o d p words b
      → written_at o d p words a < t
      → t ≤ wanted_to o d p words a
      → written_at o d p words b < t
      → t ≤ wanted_to o d p words b
      → (written_at o d p words a ≡ written_at o d p words b) × (word_of o d p words a ≡ word_of o d p words b)
  words_apart (in_register j s in-j _) (in_register k n in-k _) t same after upto after' upto' =
      let parts = register_parts _ _ _ _ _ _ same in
      let one = registers_apart j k (s + shift_of d p j) (n + shift_of d p k) t in-j in-k
      (port_eq _ _ parts.0 parts.1) parts.2 after upto after' upto' in
      let arc : j ≡ k = one.0 in
      let sample : s ≡ n = omega (arith, one.1, ap (shift_of d p) arc) in
      (cc, cc)
  words_apart (in_cell l s in-l _) (in_cell m n in-m _) t same after upto after' upto' =
      let parts = cell_parts _ _ _ _ same in
      let one = cells_apart l m s n (stored_in s (ends_at d p (store_of (line_at p l))))
      (stored_in n (ends_at d p (store_of (line_at p m)))) t in-l in-m parts.0 parts.1 after upto after' upto' in
      let line : l ≡ m = one.0 in
      let sample : s ≡ n = one.1 in
      (cc, cc)
  words_apart (in_latch u s in-u is from) (in_latch v n in-v is' from') t same after upto after' upto' =
      let node : u ≡ v = plan.outputs u v in-u in-v is is' (latch_part _ _ same) in
      let sample : s ≡ n =
      latches_apart u s n t after upto
      (subst (λ i. ends_at d p i + n * d.period < t) (sym node) after')
      (subst (λ i. t ≤ ends_at d p i + d.period + n * d.period) (sym node) upto') in
      (cc, cc)
  words_apart (at_first u in-u is) (at_first v in-v is') t same after upto after' upto' = (refl, refl)
  words_apart (at_first u in-u is) (in_latch v n in-v is' from) t same after upto after' upto' =
      absurd (first_ends v u n t from (sym (plan.outputs u v in-u in-v is is' (latch_part _ _ same))) after' upto)
  words_apart (in_latch v n in-v is from) (at_first u in-u is') t same after upto after' upto' =
      absurd (first_ends v u n t from (plan.outputs v u in-v in-u is is' (latch_part _ _ same)) after upto')
  words_apart (in_register k s in-k _) (in_latch v n in-v is from) t same after upto after' upto' = absurd (cc)
  words_apart (in_latch v n in-v is from) (in_register k s in-k _) t same after upto after' upto' = absurd (cc)
  words_apart (in_register k s in-k _) (at_first v in-v is) t same after upto after' upto' = absurd (cc)
  words_apart (at_first v in-v is) (in_register k s in-k _) t same after upto after' upto' = absurd (cc)
  words_apart (in_register k s in-k _) (in_cell l n in-l _) t same after upto after' upto' = absurd (cc)
  words_apart (in_cell l n in-l _) (in_register k s in-k _) t same after upto after' upto' = absurd (cc)
  words_apart (in_cell l n in-l _) (in_latch v s in-v is from) t same after upto after' upto' = absurd (cc)
  words_apart (in_latch v s in-v is from) (in_cell l n in-l _) t same after upto after' upto' = absurd (cc)
  words_apart (in_cell l n in-l _) (at_first v in-v is) t same after upto after' upto' = absurd (cc)
  words_apart (at_first v in-v is) (in_cell l n in-l _) t same after upto after' upto' = absurd (cc)

  cell_lives : (b e k s stages q : ℕ)
      → b ≤ e
      → e < stages * q
      → 0 < stages
      → 0 < q
      → 0 < k
      → b + s * q < line_end q (k + (stages - 1)) s
  cell_lives b e k s stages q before below some some' deep =
      let le : (s + stages) * q ≤ (s + (k + (stages - 1))) * q = mul-le-mul_right q (omega (arith, some, deep)) in
      omega (arith, before, below, some', le, add-mul s stages q)

  pub lives : (a : LiveWord o p) → written_at o d p words a < wanted_to o d p words a
  lives (in_register k s in-k from) =
      let life : (arc_at p k).w < (arc_at p k).r = (plan.arcs k in-k).lifetime.lives in
      omega arith
  lives (in_cell l s in-l from) =
      let line : IsFeasibleLine o d p l = plan.memory.lines l in-l in
      let e : ℕ = ends_at d p (store_of (line_at p l)) in
      cell_lives (stored_in s e) e (line_at p l).depth s o.stages d.period (stored_most s e)
      (plan.fits (store_of (line_at p l)) line.store) plan.stages plan.period line.some
  lives (in_latch v s in-v is from) = let some : 0 < d.period = plan.period in omega arith
  lives (at_first v in-v is) = let some : 0 < d.period = plan.period in omega arith

  -- a word of a sample before sample 0 that is still wanted stands there at the start
  pub preloaded : (micro : Microprogram) (z stream : Rows)
      → ExecutesOver o d p micro
      → LoweredSolves d p stream words
      → (a : LiveWord o p)
      → written_at o d p words a < past * d.period
      → past * d.period ≤ wanted_to o d p words a
      → Content micro z (place_of o d p words a) 0 ≡ word_of o d p words a
  preloaded micro z stream runs solves (in_register k s in-k from) before upto =
      let turn : s + shift_of d p k < past = sample_below (s + shift_of d p k) past (arc_at p k).w d.period before in
      let early : s < past = omega (arith, turn) in
      runs.first k s in-k from early upto ∙ sym (solves.before (arc_at p k).node s (plan.arcs k in-k).node early)
  preloaded micro z stream runs solves (in_cell l s in-l near) before upto =
      let line : IsFeasibleLine o d p l = plan.memory.lines l in-l in
      let cells : ℕ = cells_on d (line_at p l).ram in
      let room : (line_at p l).offset + reach o (line_at p l) < cells = line.room in
      let early : s < past =
      sample_below s past (stored_in s (ends_at d p (store_of (line_at p l)))) d.period before in
      let ago : ℕ = past - s in
      let cell : cell_in cells past (line_at p l).offset s ≡ (line_at p l).offset + ago =
      past-cell cells past (line_at p l).offset ago s (omega (arith, room)) (omega (arith, room, near))
      (omega (arith, early)) in
      ap (λ c. initial micro (Cell (line_at p l).ram c)) cell
      ∙ runs.first_cells l ago in-l (omega (arith, early)) (omega (arith, near))
      ∙ sym (solves.before (line_at p l).node s line.node early)
  preloaded micro z stream runs solves (in_latch v s in-v is from) before upto =
      absurd (let le : past * d.period ≤ s * d.period = mul-le-mul_right d.period from in omega (arith, before))
  preloaded micro z stream runs solves (at_first v in-v is) before upto = refl
