-- Samples that overlap (software pipelining).
use Rattle.std.specs.Prelude.{ℕ, ◌+◌, ◌-◌, ◌/◌, ◌<◌, ◌⊎◌}
use Rattle.datapath.specs.declared.types.Datapath.{Datapath}
use Rattle.plan_core.specs.declared.delay_lines.Line.{Line}
use Rattle.plan_core.specs.declared.plan.Plan.{Plan}
use Rattle.plan_soundness.specs.Parts.{arc_at, ends_at}

-- How the samples of a run overlap: each is issued over so many stages of a period, and lifetimes keep words from the
-- sample of this number on.
pub record Overlap : Type 0 where
  pub stages : ℕ
  pub first : ℕ

-- Each sample begins when the one before has ended, and lifetimes keep words of samples before sample 0 too.
abbrev pub one_by_one : Overlap
one_by_one = record { stages = 1; first = 0 }

-- the stage in which the words of lifetime k are written
abbrev pub shift_of : Datapath → Plan → ℕ → ℕ
shift_of d p k = ends_at d p (arc_at p k).node / d.period

-- in how many samples behind its own a cell of the line may be wanted
abbrev pub reach : Overlap → Line → ℕ
reach o line = line.depth + (o.stages - 1)

-- no cell is one of both lines
abbrev pub AreDisjoint : Overlap → Line → Line → Type 0
AreDisjoint o a b = (a.offset + reach o a < b.offset) ⊎ (b.offset + reach o b < a.offset)
