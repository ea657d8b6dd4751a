-- The delay lines, as they are placed.
use Rattle.std.specs.Prelude.{◌≡◌, ℕ, ◌+◌, ◌<◌, ◌≤◌, nat_lt, List, [], ◌∷◌, ◌++◌, length, take, filter, slice_get}
use Rattle.std.specs.Prelude.{slice_index_or, All, Contains, Bool, Option, Some, None}
use Rattle.std.specs.List.{enumerate_from}
use Rattle.operations.specs.declared.units.Kind.TheVariants as kind
use Rattle.datapath.specs.declared.types.Datapath.{Datapath}
use Rattle.plan_core.specs.Hardware.{IsOfKind, IsAcuOf}
use Rattle.plan_core.specs.Lowered.{used, HasRoom, AreLines, stored}
use Rattle.plan_core.specs.declared.delay_lines.Line.{Line}
use Rattle.delay_memory.specs.declared.fault.LineFault.{LineFault}
use Rattle.delay_memory.specs.declared.fault.LineFault.TheVariants.{NoRam, LinesFull, NoAcu, Memory}
use Rattle.delay_memory.specs.declared.lines.LineMemory.{LineMemory}

-- for each unit how many of its cells the lines take
pub record AreUsed (spare : ℕ) (d : Datapath) (lines : List Line) (cells : List ℕ) : Type 0 where
  pub count : length cells ≡ length d.units
  pub each : (u : ℕ) → u < length d.units → slice_index_or cells u 0 ≡ used spare lines u

-- the longest of these delays
pub record IsLongest (long : List ℕ) (depth : ℕ) : Type 0 where
  pub there : Contains long depth
  pub most : All (λ (k : ℕ). k ≤ depth) long

-- why node v has no line where no ram has room for it
abbrev pub IsNoRoom : Datapath → (v : ℕ) → LineFault → Type 0
IsNoRoom d v (NoRam w) = (w ≡ v) × ((ram : ℕ) → IsOfKind d kind.Ram ram → ⊥)
IsNoRoom d v (LinesFull w) = (w ≡ v) × ((ram : ℕ) × IsOfKind d kind.Ram ram)
IsNoRoom d v (NoAcu ram w) = ⊥
IsNoRoom d v Memory = ⊥

module _ (spare : ℕ) (d : Datapath) (lines : List Line) where
  -- the first ram with so many cells left
  pub record IsFirstRoom (cells ram : ℕ) : Type 0 where
    pub room : HasRoom spare d lines cells ram
    pub first : (r : ℕ) → r < ram → HasRoom spare d lines cells r → ⊥

  abbrev pub IsFirstRam : (cells : ℕ) → Option ℕ → Type 0
  IsFirstRam cells None = (ram : ℕ) → HasRoom spare d lines cells ram → ⊥
  IsFirstRam cells (Some ram) = IsFirstRoom cells ram

  -- the line of the node with this number and this longest delay, where the lines before it are these
  pub record IsPlacedLine (number depth : ℕ) (line : Line) : Type 0 where
    pub node : line.node ≡ number
    pub depth_is : line.depth ≡ depth
    pub room : IsFirstRoom (depth + spare) line.ram
    pub offset : line.offset ≡ used spare lines line.ram
    pub acu : (u : ℕ) × IsAcuOf d line.ram u

  pub record LacksRam (v w : ℕ) : Type 0 where
    pub node : w ≡ v
    pub none : (ram : ℕ) → IsOfKind d kind.Ram ram → ⊥

  pub record LacksCells (v depth w : ℕ) : Type 0 where
    pub node : w ≡ v
    pub some : (ram : ℕ) × IsOfKind d kind.Ram ram
    pub none : (ram : ℕ) → HasRoom spare d lines (depth + spare) ram → ⊥

  pub record LacksAcu (v depth ram w : ℕ) : Type 0 where
    pub node : w ≡ v
    pub room : IsFirstRoom (depth + spare) ram
    pub none : (u : ℕ) → IsAcuOf d ram u → ⊥

  -- there is no line for node v
  abbrev pub IsPlaceFault : (v depth : ℕ) → LineFault → Type 0
  IsPlaceFault v depth (NoRam w) = LacksRam v w
  IsPlaceFault v depth (LinesFull w) = LacksCells v depth w
  IsPlaceFault v depth (NoAcu ram w) = LacksAcu v depth ram w
  IsPlaceFault v depth Memory = ⊥

-- a line is placed behind the others
pub record Places (spare : ℕ) (d : Datapath) (number depth : ℕ) (old new : LineMemory) : Type 0 where
  pub line : Line
  pub placed : IsPlacedLine spare d old.lines number depth line
  pub lines : new.lines ≡ old.lines ++ line ∷ []
  pub used : AreUsed spare d new.lines new.used

-- the node has a line
abbrev pub has_line : ℕ × List ℕ → Bool
has_line x = nat_lt 0 (length x.1)

-- how many of the nodes before node v have one
abbrev pub lines_before : List (List ℕ) → (v : ℕ) → ℕ
lines_before delays v = length (filter has_line (take v (enumerate_from 0 delays)))

-- the lines of the nodes before node v
pub record AreLinesBefore (spare : ℕ) (d : Datapath) (delays : List (List ℕ)) (v : ℕ) (memory : LineMemory)
    : Type 0 where
  pub count : length memory.lines ≡ lines_before delays v
  pub lines : AreLines spare d delays memory.lines
  pub used : AreUsed spare d memory.lines memory.used

-- some node has none
pub record IsStop (spare : ℕ) (d : Datapath) (delays : List (List ℕ)) (fault : LineFault) : Type 0 where
  pub lines : List Line
  pub v : ℕ
  pub depth : ℕ
  pub long : List ℕ
  pub before : AreLines spare d delays lines
  pub next : slice_get (stored delays) (length lines) ≡ Some (v, long)
  pub longest : IsLongest long depth
  pub refused : IsPlaceFault spare d lines v depth fault
