-- With what the processors of the worked plans of two stages start: all registers with 0, and the cells of lines with
-- initial values.
use Rattle.std.proofs.Common.{◌≡◌, ℕ, zero, suc, ◌+◌, refl, sym, ap, ◌∙◌, arith, List, [], ◌∷◌, map}
use Rattle.std.proofs.Common.{replicate, ℤ, pos}
use Rattle.datapath.specs.declared.types.Datapath.{Datapath}
use Rattle.signal_graph.specs.Rules.{word_before}
use Rattle.plan_core.specs.Hardware.{unit_of}
use Rattle.plan_core.specs.declared.plan.Plan.{Plan}
use Rattle.plan_core.proofs.WorkedStages.{sums_path, sums_plan, held_path, delayed_plan}
use Rattle.micro_image.specs.Fields.{Microprogram, nth}
use Rattle.micro_image.specs.Log.{Register, Cell, initial}
use Rattle.plan_soundness.specs.Parts.{node_at, line_at}
use Rattle.plan_soundness.specs.ImageOf.{IsCellPreload, StartsWithOver}
use Rattle.plan_soundness.proofs.Accumulator.{nth_same}
use Rattle.plan_soundness.proofs.StagedPlans.{two_stages}
use Rattle.plan_soundness.proofs.StagedRuns.{StagedWord, micro_of, words_of, units_with, sums_micro, delayed_micro}

zero_files : (sizes : List ℕ) (q r : ℕ)
    → nth (nth (map (λ (n : ℕ). replicate n (pos 0)) sizes) q []) r (pos 0) ≡ pos 0
zero_files [] q r = refl
zero_files (n ∷ sizes) zero r = nth_same n r (pos 0)
zero_files (n ∷ sizes) (suc q) r = zero_files sizes q r

module _ (d : Datapath) (p : Plan) (cells : List ℤ) (words : List StagedWord) where
  abbrev micro : Microprogram
  micro = micro_of d p (units_with d cells) words

  registers_zero : (u q r : ℕ) → initial micro (Register u q r) ≡ pos 0
  registers_zero zero q r = zero_files (unit_of d 0).files q r
  registers_zero (suc zero) q r = zero_files (unit_of d 1).files q r
  registers_zero (suc (suc zero)) q r = zero_files (unit_of d 2).files q r
  registers_zero (suc (suc (suc zero))) q r = zero_files (unit_of d 3).files q r
  registers_zero (suc (suc (suc (suc zero)))) q r = zero_files (unit_of d 4).files q r
  registers_zero (suc (suc (suc (suc (suc zero))))) q r = zero_files (unit_of d 5).files q r
  registers_zero (suc (suc (suc (suc (suc (suc zero)))))) q r = zero_files (unit_of d 6).files q r
  registers_zero (suc (suc (suc (suc (suc (suc (suc zero))))))) q r = zero_files (unit_of d 7).files q r
  registers_zero (suc (suc (suc (suc (suc (suc (suc (suc u)))))))) q r = refl

  -- unit 5 is the ram
  cells_of : (ram cell : ℕ)
      → ((ram ≡ 5) → nth cells cell (pos 0) ≡ pos 0)
      → initial micro (Cell ram cell) ≡ pos 0
  cells_of zero cell empty = refl
  cells_of (suc zero) cell empty = refl
  cells_of (suc (suc zero)) cell empty = refl
  cells_of (suc (suc (suc zero))) cell empty = refl
  cells_of (suc (suc (suc (suc zero)))) cell empty = refl
  cells_of (suc (suc (suc (suc (suc zero))))) cell empty = empty refl
  cells_of (suc (suc (suc (suc (suc (suc zero)))))) cell empty = refl
  cells_of (suc (suc (suc (suc (suc (suc (suc zero))))))) cell empty = refl
  cells_of (suc (suc (suc (suc (suc (suc (suc (suc u)))))))) cell empty = refl

  -- the first cell of a line of depth 1 has the word of one sample ago
  cell_start : (ram cell l ago : ℕ)
      → (line_at p l).depth ≡ 1
      → IsCellPreload p ram cell l ago
      → initial micro (Cell (line_at p l).ram ((line_at p l).offset + 1))
      ≡ word_before (node_at p (line_at p l).node).inits 1
      → initial micro (Cell ram cell) ≡ word_before (node_at p (line_at p l).node).inits ago
  cell_start ram cell l ago depth of there =
      let one : ago ≡ 1 = omega (arith, depth, of.before, of.lives) in
      ap (λ ram. initial micro (Cell ram cell)) (sym of.ram_is)
      ∙ ap (λ cell. initial micro (Cell (line_at p l).ram cell)) (sym of.cell_is)
      ∙ ap (λ ago. initial micro (Cell (line_at p l).ram ((line_at p l).offset + ago))) one
      ∙ there
      ∙ sym (ap (word_before (node_at p (line_at p l).node).inits) one)

sums_cells : (ram cell l ago : ℕ)
    → IsCellPreload sums_plan ram cell l ago
    → initial sums_micro (Cell ram cell) ≡ word_before (node_at sums_plan (line_at sums_plan l).node).inits ago
sums_cells ram cell zero ago of =
    cell_start sums_path sums_plan _ (words_of sums_path sums_plan) ram cell 0 ago refl of refl
sums_cells ram cell (suc zero) ago of =
    cell_start sums_path sums_plan _ (words_of sums_path sums_plan) ram cell 1 ago refl of refl
sums_cells ram cell (suc (suc l)) ago of = absurd (omega (arith, of.there))

sums_no_cell : (cell : ℕ)
    → (cell ≡ 4 → ⊥)
    → nth (pos 0 ∷ pos 0 ∷ pos 0 ∷ pos 0 ∷ pos 5 ∷ pos 0 ∷ []) cell (pos 0) ≡ pos 0
sums_no_cell zero other = refl
sums_no_cell (suc zero) other = refl
sums_no_cell (suc (suc zero)) other = refl
sums_no_cell (suc (suc (suc zero))) other = refl
sums_no_cell (suc (suc (suc (suc zero)))) other = absurd (other refl)
sums_no_cell (suc (suc (suc (suc (suc zero))))) other = refl
sums_no_cell (suc (suc (suc (suc (suc (suc cell)))))) other = refl

pub sums_starts : StartsWithOver two_stages sums_path sums_plan sums_micro
sums_starts = record {
  register = λ port reg k i ago of. absurd (omega (arith, of.preload.kept, of.preload.before));
  other_register = λ port reg none.
      registers_zero sums_path sums_plan _ (words_of sums_path sums_plan) port.unit port.port reg;
  cell = sums_cells;
  other_cell = λ ram cell none.
      cells_of sums_path sums_plan _ (words_of sums_path sums_plan) ram cell (λ is-ram. sums_no_cell cell (λ is-cell.
      none 1 1 (record {
        there = omega arith;
        before = omega arith;
        lives = omega arith;
        ram_is = sym is-ram;
        cell_is = sym is-cell;
      })));
}

delayed_cells : (ram cell l ago : ℕ)
    → IsCellPreload delayed_plan ram cell l ago
    → initial delayed_micro (Cell ram cell) ≡ word_before (node_at delayed_plan (line_at delayed_plan l).node).inits ago
delayed_cells ram cell zero ago of =
    cell_start held_path delayed_plan _ (words_of held_path delayed_plan) ram cell 0 ago refl of refl
delayed_cells ram cell (suc l) ago of = absurd (omega (arith, of.there))

pub delayed_starts : StartsWithOver two_stages held_path delayed_plan delayed_micro
delayed_starts = record {
  register = λ port reg k i ago of. absurd (omega (arith, of.preload.kept, of.preload.before));
  other_register = λ port reg none.
      registers_zero held_path delayed_plan _ (words_of held_path delayed_plan) port.unit port.port reg;
  cell = delayed_cells;
  other_cell = λ ram cell none.
      cells_of held_path delayed_plan _ (words_of held_path delayed_plan) ram cell (λ is-ram. nth_same 3 cell (pos 0));
}
