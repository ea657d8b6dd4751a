-- What is asked of lifetimes that get registers, and the registers that they get.
use Rattle.std.specs.Prelude.{ℕ, ◌<◌, List, length, All}
use Rattle.std.specs.List.{AllPairs}
use Rattle.datapath.specs.Allowed.{IsPort}
use Rattle.datapath.specs.declared.types.Datapath.{Datapath}
use Rattle.plan_core.specs.Hardware.{file_size}
use Rattle.plan_core.specs.Arcs.{arc_of, IsCount, IsCovered, IsArcBefore, IsArcFor, IsUnroll}
use Rattle.plan_core.specs.FirstFit.{register_of, IsFirstFit}
use Rattle.plan_core.specs.declared.registers.Arc.{Arc}

-- the lifetimes are of different nodes or at different ports
abbrev pub AreDifferent : Arc → Arc → Type 0
AreDifferent a b = IsArcFor a.node a.port b → ⊥

-- a lifetime that the registers of some port of the datapath may keep
pub record IsAllottable (d : Datapath) (arc : Arc) : Type 0 where
  pub port : IsPort d.units arc.port
  pub count : IsCount arc.copies
  pub start : arc.w < d.period
  pub later : arc.w < arc.r
  pub covered : IsCovered d arc arc.copies

-- lifetimes in order, one for each node and port at most
pub record AreAllottable (d : Datapath) (arcs : List Arc) : Type 0 where
  pub order : AllPairs IsArcBefore arcs
  pub once : AllPairs AreDifferent arcs
  pub each : All (IsAllottable d) arcs

-- The registers of the lifetimes' copies by first fit, each in its file. The circle has as many samples as the greatest
-- count of copies.
pub record AreAllotted (d : Datapath) (arcs : List Arc) (regs : List (List ℕ)) : Type 0 where
  pub unroll : ℕ
  pub unroll_is : IsUnroll arcs unroll
  pub fit : IsFirstFit d.period unroll arcs regs
  pub sizes : (k i : ℕ)
      → k < length arcs
      → i < (arc_of arcs k).copies
      → register_of regs k i < file_size d (arc_of arcs k).port
