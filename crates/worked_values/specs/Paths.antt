-- A datapath file, with each kind of unit that has keys of its own.
use Rattle.std.specs.Prelude.{ℕ, codes, List, [], ◌∷◌, ◌++◌}
use Rattle.operations.specs.declared.units.Kind.{Kind}
use Rattle.operations.specs.declared.units.Kind.TheVariants as kind
use Rattle.datapath.specs.Described.{IsPathOf}
use Rattle.datapath.specs.declared.types.Bus.{Bus}
use Rattle.datapath.specs.declared.types.Datapath.{Datapath}
use Rattle.datapath.specs.declared.types.Unit.{Unit as FunctionalUnit}

-- a line of a file
abbrev pub line : List ℕ → List ℕ
line text = text ++ 10 ∷ []

abbrev pub path_file : List ℕ
path_file =
    line (codes "period = 6")
    ++ line (codes "word = 8")
    ++ line (codes "unit = [{name = 'x', kind = 'in'}, {name = 'a', kind = 'acu', ram = 'm'},")
    ++ line (codes "{name = 'm', kind = 'ram', latency = 2, files = [2, 1], cells = 2}]")
    ++ line (codes "bus = [{name = 'b', from = ['x', 'a'], to = ['m.0', 'm.1']}]")

-- a unit of latency and gap 1, but for a ram
abbrev pub unit_of : (name : List ℕ) → Kind → (latency : ℕ) → (files : List ℕ) → (cells ram : ℕ) → FunctionalUnit
unit_of name k latency files cells ram =
    record { name = name; kind = k; latency = latency; gap = 1; files = files; cells = cells; ram = ram }

abbrev pub path_bus : Bus
path_bus = record {
  name = codes "b";
  from = 0 ∷ 1 ∷ [];
  to = record { unit = 2; port = 0 } ∷ record { unit = 2; port = 1 } ∷ [];
}

-- no delay is held, and a latency or a gap that is not there is 1
abbrev pub path_described : Datapath
path_described = record {
  period = 6;
  word = 8;
  hold = 0;
  units =
      unit_of (codes "x") kind.Input 1 [] 0 0 ∷ unit_of (codes "a") kind.Acu 1 [] 0 2
      ∷ unit_of (codes "m") kind.Ram 2 (2 ∷ 1 ∷ []) 2 0 ∷ [];
  buses = path_bus ∷ [];
}

abbrev pub FileDescribesThePath : Type 0
FileDescribesThePath = IsPathOf path_file path_described

-- nothing is described without a period, and the numbers of the units are those of the file
abbrev pub OthersAreNotDescribed : Datapath → Type 0
OthersAreNotDescribed d =
    (IsPathOf (line (codes "word = 8")) d → ⊥) × (IsPathOf path_file (record path_described { period = 7 }) → ⊥)
