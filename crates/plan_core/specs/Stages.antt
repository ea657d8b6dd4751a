-- Software pipelining (modulo scheduling): a sample is issued over several stages of a period each, and the next one
-- begins a period later. What a node takes it takes in each period, so cycles count by their remainders.
use Rattle.std.specs.Prelude.{◌≡◌, ℕ, ◌+◌, ◌-◌, ◌*◌, ◌%◌, ◌<◌, ◌≤◌, List}
use Rattle.fix_word.specs.declared.operation.Op.{Op}
use Rattle.fix_word.specs.declared.operation.Op.TheVariants as op
use Rattle.datapath.specs.declared.types.Datapath.{Datapath}
use Rattle.plan_core.specs.Hardware.{gap_on}
use Rattle.plan_core.specs.Operands.{node_of}
use Rattle.plan_core.specs.Assigned.{unit_in}
use Rattle.plan_core.specs.Heights.{latency_of}
use Rattle.plan_core.specs.Lowered.{store, load, IsNumber}
use Rattle.plan_core.specs.ListSchedule.{cycle_of, ends, IsEarlier, CanIssueOver, IsPlacedOver, IsListScheduleOver}
use Rattle.plan_core.specs.Arcs.{read_cycle, IsArcOver, IsArcsOver}
use Rattle.plan_core.specs.Refusals.{IsWithoutCycleOver}
use Rattle.plan_core.specs.declared.schedule.Assigned.{Assigned}
use Rattle.plan_core.specs.declared.schedule.Schedule.{Schedule}
use Rattle.plan_core.specs.declared.registers.Arc.{Arc}

-- how many cycles it is from cycle t on to cycle u, around the period
abbrev pub distance : (period t u : ℕ) → ℕ
distance period t u = (u + (period - t % period)) % period

-- two issues of one unit, with this gap, are far enough apart in all periods
abbrev pub IsGapAround : (period gap t u : ℕ) → Type 0
IsGapAround period gap t u = (gap ≤ distance period t u) × (distance period t u + gap ≤ period)

-- two cycles are one cycle of the period
abbrev pub IsSameAround : (period w x : ℕ) → Type 0
IsSameAround period w x = w % period ≡ x % period

-- Node x loads the word that node v stores, so many samples later, where these are the long delays of the nodes of
-- the graph.
pub record IsLoadOf (delays : List (List ℕ)) (v x ago : ℕ) : Type 0 where
  pub node : ℕ
  pub its_store : IsNumber delays (store node) v
  pub its_load : IsNumber delays (load node ago) x

-- samples over so many stages, where node x loads what node v stores so many samples later
module _ (stages : ℕ) (Loads : (v x ago : ℕ) → Type 0) (d : Datapath) (a : Assigned) where
  abbrev pub op_of : ℕ → Op
  op_of v = (node_of a.lowered.nodes v).op

  -- What a node asks of its cycle beside its operands and the reservation table. A store and a load of its word are
  -- asked of the one of them that is placed later.
  pub record IsInStage (s : Schedule) (height : ℕ → ℕ) (v t : ℕ) : Type 0 where
    -- its unit is free again a period later
    pub again : gap_on d (unit_in a.units v) ≤ d.period
    -- an input is issued in the first stage, and an output ends in the last one
    pub input : op_of v ≡ op.Input → t < d.period
    pub output : op_of v ≡ op.Output → (stages - 1) * d.period < t + latency_of d a v
    -- a store ends before its word is loaded
    pub stores : (x ago : ℕ)
        → Loads v x ago
        → IsEarlier a height v x
        → t + latency_of d a v ≤ cycle_of s x + ago * d.period
    pub loads : (x ago : ℕ)
        → Loads x v ago
        → IsEarlier a height v x
        → cycle_of s x + latency_of d a x ≤ t + ago * d.period

  -- a node can be issued, and is, at a cycle of its stages
  abbrev pub CanIssueInStage : Schedule → (height : ℕ → ℕ) → (v t : ℕ) → Type 0
  CanIssueInStage s height v t =
      CanIssueOver (IsGapAround d.period) (IsSameAround d.period) (stages * d.period) IsInStage d a s height v t

  abbrev pub IsPlacedInStage : Schedule → (height : ℕ → ℕ) → (v : ℕ) → Type 0
  IsPlacedInStage s height v =
      IsPlacedOver (IsGapAround d.period) (IsSameAround d.period) (stages * d.period) IsInStage d a s height v

  abbrev pub IsStageScheduleOver : Schedule → Type 0
  IsStageScheduleOver s =
      IsListScheduleOver (IsGapAround d.period) (IsSameAround d.period) (stages * d.period) IsInStage d a s

  -- node v has no cycle in its stages
  abbrev pub IsWithoutStageOver : (v : ℕ) → Type 0
  IsWithoutStageOver v =
      IsWithoutCycleOver (IsGapAround d.period) (IsSameAround d.period) (stages * d.period) IsInStage d a v

-- the same by the long delays of the graph
abbrev pub IsStageSchedule : (stages : ℕ) (delays : List (List ℕ)) → Datapath → Assigned → Schedule → Type 0
IsStageSchedule stages delays d a s = IsStageScheduleOver stages (IsLoadOf delays) d a s

abbrev pub IsWithoutStage : (stages : ℕ) (delays : List (List ℕ)) → Datapath → Assigned → (v : ℕ) → Type 0
IsWithoutStage stages delays d a v = IsWithoutStageOver stages (IsLoadOf delays) d a v

-- a lifetime begins in the period, and is as long as it is in the sample
module _ (d : Datapath) (a : Assigned) (s : Schedule) where
  abbrev pub written_around : ℕ → ℕ
  written_around v = ends d a s v % d.period

  abbrev pub read_around : (v c q : ℕ) → ℕ
  read_around v c q = written_around v + (read_cycle d a s c q - ends d a s v)

  abbrev pub IsStageArc : Arc → Type 0
  IsStageArc arc = IsArcOver written_around read_around d a arc

  abbrev pub AreStageArcs : List Arc → Type 0
  AreStageArcs arcs = IsArcsOver written_around read_around d a arcs
