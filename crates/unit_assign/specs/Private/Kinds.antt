-- The units of each kind.
use Rattle.std.specs.Prelude.{ℕ, ◌↔◌}
use Rattle.operations.specs.declared.units.Kind.{Kind}
use Rattle.operations.specs.declared.units.Kind.TheVariants as kind
use Rattle.datapath.specs.declared.types.Datapath.{Datapath}
use Rattle.plan_core.specs.Hardware.{IsOfKind}
use Rattle.unit_assign.specs.Private.UnitSets.{Has}
use Rattle.unit_assign.specs.declared.kinds.Kinds.{Kinds}
use Rattle.bit_sets.specs.declared.set32.Set32.{Set32}

-- the units of a kind
abbrev pub set_of : Kinds → Kind → Set32
set_of kinds kind.Input = kinds.input
set_of kinds kind.Output = kinds.output
set_of kinds kind.Rom = kinds.rom
set_of kinds kind.Alu = kinds.alu
set_of kinds kind.Mul = kinds.mul
set_of kinds kind.Sel = kinds.sel
set_of kinds kind.Ram = kinds.ram
set_of kinds kind.Acu = kinds.acu

-- for each kind the units of the datapath that are of it
pub record AreKinds (d : Datapath) (kinds : Kinds) : Type 0 where
  pub each : (unit_kind : Kind) (u : ℕ) → Has (set_of kinds unit_kind) u ↔ IsOfKind d unit_kind u
