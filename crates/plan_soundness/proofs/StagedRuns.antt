-- The worked plans of two stages run: a processor that obeys their words, each issue, enable and take from its stage
-- on, puts the words of the solution one sample late. The machine alone computes these rows.
use Rattle.std.proofs.Common.{◌≡◌, ℕ, zero, suc, ◌+◌, ◌-◌, ◌*◌, ◌/◌, ◌%◌, ◌==◌, ◌&&◌, ◌||◌, if◌then◌else◌, refl, List}
use Rattle.std.proofs.Common.{[], ◌∷◌, length, replicate, map, nat_le, Bool, true, false, ℤ, pos}
use Rattle.std.specs.List.{flat_map, range_with_len}
use Rattle.fix_word.specs.Values.{wrap_of}
use Rattle.fix_word.specs.declared.operation.Op.{Op}
use Rattle.fix_word.specs.declared.operation.Op.TheVariants as op
use Rattle.operations.specs.Ranges.{to_nat}
use Rattle.operations.specs.declared.units.PortRef.{PortRef}
use Rattle.datapath.specs.declared.types.Datapath.{Datapath}
use Rattle.plan_core.specs.Hardware.{unit_of, cells_on, tie_of, port_of}
use Rattle.plan_core.specs.declared.schedule.Transfer.{Transfer}
use Rattle.plan_core.specs.declared.registers.Arc.{Arc}
use Rattle.plan_core.specs.declared.plan.Plan.{Plan}
use Rattle.plan_core.proofs.WorkedStages.{sums_path, sums_plan, held_path, delayed_plan}
use Rattle.micro_image.specs.declared.image.Enable.{Enable}
use Rattle.micro_image.specs.declared.image.Issue.{Issue}
use Rattle.micro_image.specs.declared.image.Take.{Take}
use Rattle.micro_image.specs.declared.image.UnitDesc.{UnitDesc}
use Rattle.micro_image.specs.declared.image.Word.{Word}
use Rattle.micro_image.specs.Fields.{Microprogram, nth}
use Rattle.micro_image.specs.Log.{entries_by, value}
use Rattle.micro_image.specs.Run.{row_of}
use Rattle.plan_soundness.specs.Parts.{nodes_of, node_at, edge_at, unit_at, cycle_at, transfers_at, arc_at, register_at}
use Rattle.plan_soundness.specs.Parts.{ends_at}
use Rattle.plan_soundness.specs.Overlap.{shift_of}

-- a word of which each part is obeyed from its stage on
pub record StagedWord : Type 0 where
  pub issues : List (Issue × ℕ)
  pub enables : List (Enable × ℕ)
  pub takes : List (Take × ℕ)

abbrev pub no_staged : StagedWord
no_staged = record { issues = []; enables = []; takes = [] }

-- a stage of a sample, by the stages that have begun
abbrev has_begun : (s stage : ℕ) → Bool
has_begun zero stage = true
has_begun (suc s) zero = false
has_begun (suc s) (suc stage) = has_begun s stage

-- what has a stage of at most this one
abbrev pub due : {A : Type 0} → (stage : ℕ) → List (A × ℕ) → List A
due stage [] = []
due stage (x ∷ xs) = if has_begun x.1 stage then x.0 ∷ due stage xs else due stage xs

abbrev pub obeyed : (stage : ℕ) → StagedWord → Word
obeyed stage word =
    record { issues = due stage word.issues; enables = due stage word.enables; takes = due stage word.takes }

-- the staged words come round
abbrev pub micro_of : Datapath → Plan → List UnitDesc → List StagedWord → Microprogram
micro_of d p units words = record {
  period = d.period;
  units = units;
  outs = p.outs;
  word_at = λ t. obeyed (t / d.period) (nth words (t % (p.unroll * d.period)) no_staged);
}

-- The words of a plan of several stages: what a node does at cycle t of its sample stands in the word of cycle t mod P,
-- with stage t div P, and speaks of the sample that many before.
module _ (d : Datapath) (p : Plan) where
  abbrev stage : ℕ → ℕ
  stage t = t / d.period

  -- the first lifetime at the port of the words of the node
  abbrev place_of : PortRef → (node : ℕ) → List Arc → ℕ
  place_of port node [] = 0
  place_of port node (arc ∷ arcs) =
      if (arc.port.unit == port.unit) && ((arc.port.port == port.port) && (arc.node == node)) then 0
      else suc (place_of port node arcs)

  -- In machine sample m a consumer at cycle t reads this register of lifetime k. There are 1, 2 or 4 copies, so 4
  -- samples more are the same.
  abbrev read_from : (k t m : ℕ) → ℕ
  read_from k t m = register_at p k ((m + 4 - stage t + shift_of d p k) % (arc_at p k).copies)

  -- the register at port q, if it is read
  abbrev reg_of : (v m q : ℕ) → ℕ
  reg_of v m q =
      if nat_le (q + 1) (length (node_at p v).edges)
      then read_from (place_of (port_of (unit_at p v) q) (edge_at p v q).node p.arcs) (cycle_at p v) m else 0

  -- an address in a later stage is that of a sample before the machine's
  abbrev arg_of : Op → (v : ℕ) → ℤ
  arg_of op.Addr v =
      pos ((to_nat (node_at p v).arg + stage (cycle_at p v)) % cells_on d (tie_of d (unit_at p v)))
  arg_of _ v = (node_at p v).arg

  abbrev pub issue_of : (v m : ℕ) → Issue
  issue_of v m = record {
    unit = unit_at p v;
    op = (node_at p v).op;
    fmt = (node_at p v).fmt;
    arg = arg_of (node_at p v).op v;
    regs = map (λ q. reg_of v m q) (range_with_len 0 (length (unit_of d (unit_at p v)).files));
  }

  abbrev take_of : (v m : ℕ) → Transfer → Take
  take_of v m transfer =
      let k : ℕ = place_of transfer.port v p.arcs in
      record { port = transfer.port; bus = transfer.bus; reg = register_at p k (m % (arc_at p k).copies) }

  -- each bus once
  abbrev is_on : (bus : ℕ) → List Transfer → Bool
  is_on bus [] = false
  is_on bus (t ∷ ts) = (t.bus == bus) || is_on bus ts

  abbrev drives : (v : ℕ) → List Transfer → List (Enable × ℕ)
  drives v [] = []
  drives v (t ∷ ts) =
      if is_on t.bus ts then drives v ts
      else (record { unit = unit_at p v; bus = t.bus }, stage (ends_at d p v)) ∷ drives v ts

  abbrev nodes : List ℕ
  nodes = range_with_len 0 (length (nodes_of p))

  abbrev word_of : (m c : ℕ) → StagedWord
  word_of m c = record {
    issues = flat_map (λ v.
        if (cycle_at p v % d.period) == c then (issue_of v m, stage (cycle_at p v)) ∷ [] else []) nodes;
    enables = flat_map (λ v.
        if (ends_at d p v % d.period) == c then drives v (transfers_at p v) else []) nodes;
    takes = flat_map (λ v.
        if (ends_at d p v % d.period) == c
        then map (λ (t : Transfer). (take_of v m t, stage (ends_at d p v))) (transfers_at p v) else []) nodes;
  }

  abbrev pub words_of : List StagedWord
  words_of = flat_map (λ m. map (λ c. word_of m c) (range_with_len 0 d.period)) (range_with_len 0 p.unroll)

-- a unit of the path, with these registers and cells
abbrev pub described : Datapath → (u : ℕ) → (cells : List ℤ) → UnitDesc
described d u cells = record {
  kind = (unit_of d u).kind;
  latency = (unit_of d u).latency;
  gap = (unit_of d u).gap;
  files = map (λ (n : ℕ). replicate n (pos 0)) (unit_of d u).files;
  cells = cells;
  ram = (unit_of d u).ram;
}

abbrev pub units_with : Datapath → (cells : List ℤ) → List UnitDesc
units_with d cells =
    described d 0 [] ∷ described d 1 [] ∷ described d 2 [] ∷ described d 3 [] ∷ described d 4 [] ∷ described d 5 cells
    ∷ described d 6 [] ∷ described d 7 [] ∷ []

-- the line of v begins at cell 3, and its word of a sample before is in the next one
abbrev pub sums_micro : Microprogram
sums_micro =
    micro_of sums_path sums_plan
    (units_with sums_path (pos 0 ∷ pos 0 ∷ pos 0 ∷ pos 0 ∷ pos 5 ∷ pos 0 ∷ [])) (words_of sums_path sums_plan)

abbrev pub delayed_micro : Microprogram
delayed_micro =
    micro_of held_path delayed_plan (units_with held_path (pos 0 ∷ pos 0 ∷ pos 0 ∷ []))
    (words_of held_path delayed_plan)

-- for the samples 5, 6, 7 and 8 the latch holds 0 and 0, and then 5 and 6
pub delayed_rows :
    map (row_of delayed_micro ((pos 5 ∷ []) ∷ (pos 6 ∷ []) ∷ (pos 7 ∷ []) ∷ (pos 8 ∷ []) ∷ [])) (0 ∷ 1 ∷ 2 ∷ 3 ∷ [])
    ≡ (pos 0 ∷ []) ∷ (pos 0 ∷ []) ∷ (pos 5 ∷ []) ∷ (pos 6 ∷ []) ∷ []
unfolding entries_by value wrap_of
delayed_rows = refl

-- For the samples 1, 2, 3 and 4 it holds 0, and then the words of samples 0, 1 and 2: v is 5, 6 and 8, and y is twice
-- that and the sample.
pub sums_rows :
    map (row_of sums_micro ((pos 1 ∷ []) ∷ (pos 2 ∷ []) ∷ (pos 3 ∷ []) ∷ (pos 4 ∷ []) ∷ [])) (0 ∷ 1 ∷ 2 ∷ 3 ∷ [])
    ≡ (pos 0 ∷ []) ∷ (pos 11 ∷ []) ∷ (pos 14 ∷ []) ∷ (pos 19 ∷ []) ∷ []
unfolding entries_by value wrap_of
sums_rows = refl
